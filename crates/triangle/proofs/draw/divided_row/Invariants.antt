-- `draw::divided_row` meets its contract. The invariant of its loop: the pixels below x are drawn. Assumes nothing.
use Rattle.std.proofs.Common.{ℕ, ◌≤◌, false, length}
use Rattle.picture.specs.declared.Pen.{Pen}
use Rattle.picture.specs.declared.Memories.{Memories}
use Rattle.picture.specs.Lent.{Same}
use Rattle.picture.specs.Place.{rows_of}
use Rattle.triangle.specs.declared.Corners.{Corners}
use Rattle.triangle.specs.Offers.{pixel_offers}
use Rattle.picture.proofs.Spans.{Reached}
use Rattle.triangle.proofs.draw.divided_row.Given as goal

-- the row's pixels before column x are drawn into the memories that were lent, and x lies from the first column that is drawn up to the end
pub record Dividing (pen : Pen) (t : Corners) (y : ℕ) (m₀ : Memories) (hi x₀ : ℕ) (m : Memories) (x n : ℕ) : Type 0 where
  pub since : x₀ ≤ x
  pub until : x ≤ hi
  pub few : hi ≤ 65535
  pub same : Same m₀ m
  pub so_far_lem : Reached pen (λ k. pixel_offers pen (rows_of pen.frame (length m₀.i.now) (length m₀.z.now)) false t k y) m₀.i.now m₀.z.now m.i.now m.z.now n x

abbrev pub invariant-loop-x : goal.invariant-loop-x
invariant-loop-x l = Dividing l.pen l.facet.corners l.y l.initial.m l.x-end l.initial.x l.m l.x l.passed
