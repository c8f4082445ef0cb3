-- `Corners::lowest_first` meets its contract. Assumes nothing.
use Rattle.std.proofs.Common.{refl, le-ltb, lt-ltb}
use Rattle.triangle.specs.Loops.{lowest_first}
use Rattle.triangle.proofs.Corners.lowest_first.Goals as goal

pub returns-then-self-min : goal.returns-then-self-min
unfolding lowest_first
returns-then-self-min c = rw (lt-ltb _ _ (rw c.min.ensures at c.if-self-min.true)) refl

pub returns-then-self : goal.returns-then-self
unfolding lowest_first
returns-then-self c =
    rw (le-ltb _ _ (rw c.min.ensures at c.if-self-min.false), lt-ltb _ _ c.if-self.true) refl

pub returns : goal.returns
unfolding lowest_first
returns c =
    rw (le-ltb _ _ (rw c.min.ensures at c.if-self-min.false), le-ltb _ _ c.if-self.false) refl
