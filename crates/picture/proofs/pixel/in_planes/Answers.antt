-- `pixel::in_planes` meets its contract. Assumes nothing.
use Rattle.std.proofs.Common.{refl}
use Rattle.picture.specs.Picture.{in_planes}
use Rattle.picture.proofs.pixel.in_planes.Goals as goal

pub returns : goal.returns
unfolding in_planes
returns c = refl
