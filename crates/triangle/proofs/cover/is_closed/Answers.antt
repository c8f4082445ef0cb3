-- `cover::is_closed` meets its contract. Assumes nothing.
use Rattle.std.proofs.Common.{refl}
use Rattle.triangle.specs.Edge.{closed}
use Rattle.triangle.proofs.cover.is_closed.Goals as goal

pub returns : goal.returns
unfolding closed
returns c = refl
