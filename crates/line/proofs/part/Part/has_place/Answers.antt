-- `Part::has_place` meets its contract. Assumes nothing.
use Rattle.std.proofs.Common.{refl}
use Rattle.line.specs.Part.{has_place}
use Rattle.line.proofs.part.Part.has_place.Goals as goal

pub returns : goal.returns
unfolding has_place
returns c = refl
