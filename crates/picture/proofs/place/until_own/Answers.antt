-- `place::until_own` meets its contract: a remainder of so many is no more than the layout's number. Assumes nothing.
use Rattle.std.proofs.Common.{refl}
use Rattle.picture.specs.Loops.{until_own}
use Rattle.picture.proofs.Strides.{few_some, until_low}
use Rattle.picture.proofs.place.until_own.Goals as goal

pub returns : goal.returns
unfolding until_own
returns c = let a = c.args in (refl, until_low a.frame.layout a.lo a.ways (few_some a.ways c.requires.few))
