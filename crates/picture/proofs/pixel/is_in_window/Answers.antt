-- `pixel::is_in_window` meets its contract. Assumes nothing.
use Rattle.std.proofs.Common.{refl}
use Rattle.picture.specs.Offer.{in_window}
use Rattle.picture.proofs.pixel.is_in_window.Goals as goal

pub returns : goal.returns
unfolding in_window
returns c = refl
