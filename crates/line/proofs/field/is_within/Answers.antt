-- `field::is_within` meets its contract. Assumes nothing.
use Rattle.line.specs.Field.{in_field}
use Rattle.line.proofs.field.is_within.Goals as goal

pub returns : goal.returns
unfolding in_field
returns c = rw c.is_in_window.ensures
