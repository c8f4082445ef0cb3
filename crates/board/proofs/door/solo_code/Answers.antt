-- `door::solo_code` meets its contract, either way. Assumes nothing.
use Rattle.std.proofs.Common.{eq-eqb, ne_eqb}
use Rattle.board.specs.Door.{solo_code}
use Rattle.board.proofs.door.solo_code.Goals as goal

pub returns-then-code-units : goal.returns-then-code-units
unfolding solo_code
returns-then-code-units c = rw (eq-eqb _ _ c.if-code-units.true)

pub returns-else-code-units : goal.returns-else-code-units
unfolding solo_code
returns-else-code-units c = rw (ne_eqb _ _ c.if-code-units.false)
