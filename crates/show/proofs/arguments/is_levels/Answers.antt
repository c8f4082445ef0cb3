-- `arguments::is_levels` meets its contract: the same comparison. Assumes nothing.
use Rattle.show.specs.Arguments.{is_levels}
use Rattle.show.proofs.arguments.is_levels.Goals as goal

pub returns : goal.returns
unfolding is_levels
returns c = rw c.as_slice.ensures at c.eq.ensures
