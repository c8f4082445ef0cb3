-- `place::is_inside` meets its contract. Assumes nothing.
use Rattle.picture.specs.Place.{in_memory}
use Rattle.picture.proofs.place.is_inside.Goals as goal

pub returns : goal.returns
unfolding in_memory
returns c = rw (c.has_row.ensures, c.is_mine.ensures)
