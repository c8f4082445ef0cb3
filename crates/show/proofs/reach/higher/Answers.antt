-- `reach::higher` meets its contract: the test decides. Assumes nothing.
use Rattle.show.specs.Reach.{raised}
use Rattle.show.proofs.reach.higher.Goals as goal

pub returns-then-missed-risen : goal.returns-then-missed-risen
unfolding raised
returns-then-missed-risen c = rw (rw c.risen.ensures at c.if-missed-risen.true)

pub returns : goal.returns
unfolding raised
returns c = rw (rw c.risen.ensures at c.if-missed-risen.false)
