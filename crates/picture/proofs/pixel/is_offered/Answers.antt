-- `pixel::is_offered` meets its contract. Assumes nothing.
use Rattle.picture.specs.Offer.{offered}
use Rattle.picture.proofs.pixel.is_offered.Goals as goal

pub returns : goal.returns
unfolding offered
returns c = rw (c.is_in_window.ensures, c.is_inside.ensures, c.is_masked.ensures, c.is_shown.ensures)
