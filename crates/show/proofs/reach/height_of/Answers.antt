-- `reach::height_of` meets its contract: each kind of figure has its arm. Assumes nothing.
use mathlib.Core.Path.{ap}
use Prim.Native.Nat.{ℕ, ◌+◌}
use Rattle.show.specs.Reach.{height_of}
use Rattle.show.proofs.reach.height_of.Goals as goal

pub returns-in-Nothing : goal.returns-in-Nothing
unfolding height_of
returns-in-Nothing c = rw c.in-Nothing.is

pub returns-in-Triangle : goal.returns-in-Triangle
unfolding height_of
returns-in-Triangle c = rw c.in-Triangle.is (ap (λ (n : ℕ). n + 1) (rw c.max.ensures at c.max-in-Triangle.ensures))

pub returns-in-Segment : goal.returns-in-Segment
unfolding height_of
returns-in-Segment c = rw c.in-Segment.is (ap (λ (n : ℕ). n + 1) c.max-in-Segment.ensures)
