-- `pixel::is_shown` meets its contract. Assumes nothing.
use lib.Bits.{and_mask}
use Rattle.picture.specs.Offer.{shows}
use Rattle.picture.proofs.pixel.is_shown.Goals as goal

pub returns : goal.returns
unfolding shows
returns c = rw (and_mask _ 1)
