-- `reach::is_missed` meets its contract: the same test. Assumes nothing.
use mathlib.Core.Path.{refl}
use Rattle.show.specs.Reach.{is_missed}
use Rattle.show.proofs.reach.is_missed.Goals as goal

pub returns : goal.returns
unfolding is_missed
returns c = refl
