-- A Gouraud number lies between the least and the greatest corner number: the edges' amounts at a covered pixel are weights that add up
-- to the doubled area, and a number mixed by such weights leaves neither bound. Assumes nothing.
use Rattle.std.proofs.Common.{◌≡◌, ℕ, ◌+◌, ◌<◌, ◌≤◌, true, arith}
use Rattle.triangle.specs.declared.Corners.{Corners}
use Rattle.triangle.specs.Edge.{edge_at, covers, amount, area_of}
use Rattle.triangle.specs.Number.{shade}
use Rattle.triangle.specs.Loops.{edges_at, Turned}
use Rattle.triangle.proofs.Plane.{weights, mixed_least, mixed_most}
use Rattle.triangle.proofs.Covers.{Within, covered_within}

module _ (t : Corners) (k : Turned t) (x y : ℕ) (h : covers t x y ≡ true) where
  w : Within (edges_at t x y)
  w = covered_within t x y h

  -- the weights of a covered pixel add up to the doubled area
  covered_whole : amount (edge_at t.b t.c x y) + amount (edge_at t.c t.a x y) + amount (edge_at t.a t.b x y) ≡ area_of t
  covered_whole = weights t.a.x t.a.y t.b.x t.b.y t.c.x t.c.y x y k.turns w.ab w.bc w.ca

  -- the number at a covered pixel lies between the least and the greatest corner number
  pub shade_between : (lo hi p q r : ℕ) → lo ≤ p → lo ≤ q → lo ≤ r → p ≤ hi → q ≤ hi → r ≤ hi → (lo ≤ shade t p q r x y) × (shade t p q r x y ≤ hi)
  unfolding shade
  shade_between lo hi p q r lp lq lr hp hq hr =
      let some : 0 < area_of t = omega (arith, k.turns) in (
        mixed_least _ _ _ (area_of t) p q r covered_whole some lo lp lq lr,
        mixed_most _ _ _ (area_of t) p q r covered_whole some hi hp hq hr,
      )
