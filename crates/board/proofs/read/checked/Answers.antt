-- `read::checked` meets its contract, number by number. Assumes nothing.
use Rattle.std.proofs.Common.{le-ltb, lt-ltb, eq-eqb, ne_eqb}
use Rattle.board.specs.Calls.{read_number_by}
use Rattle.board.proofs.read.checked.Goals as goal

pub returns-then-is_whole-is_sound : goal.returns-then-is_whole-is_sound
unfolding read_number_by
returns-then-is_whole-is_sound c = rw (← c.is_sound.ensures, ← c.is_whole.ensures, c.if-is_whole-is_sound.true)

pub returns-then-board-eq0 : goal.returns-then-board-eq0
unfolding read_number_by
returns-then-board-eq0 c =
    rw (← c.is_sound.ensures, ← c.is_whole.ensures, c.if-is_whole-is_sound.false, eq-eqb _ _ c.if-board-eq0.true)

pub returns-then-board-gt1 : goal.returns-then-board-gt1
unfolding read_number_by
returns-then-board-gt1 c =
    rw (← c.is_sound.ensures, ← c.is_whole.ensures, c.if-is_whole-is_sound.false, ne_eqb _ _ c.if-board-eq0.false, lt-ltb _ _ c.if-board-gt1.true)

pub returns : goal.returns
unfolding read_number_by
returns c =
    rw (← c.is_sound.ensures, ← c.is_whole.ensures, c.if-is_whole-is_sound.false, ne_eqb _ _ c.if-board-eq0.false, le-ltb _ _ c.if-board-gt1.false)
