-- `unit::part_of` meets its contract: nothing, or the chip's step in the unit's layout. Assumes nothing.
use Rattle.board.proofs.Parts.{part_absent, part_present}
use Rattle.board.proofs.unit.part_of.Goals as goal

pub returns-then-units-u : goal.returns-then-units-u
returns-then-units-u c = part_absent _ _ _ _ _ c.if-units-u.true

pub returns : goal.returns
returns c = rw (← c.layout_of.ensures, ← c.in_layout-mine.ensures) (part_present _ _ _ _ _ c.if-units-u.false c.layout_of.ensures c.in_layout-mine.ensures c.step.ensures)
