-- Which triangles need divisions a pixel: none whose coordinates the card takes. Assumes nothing.
use Rattle.std.proofs.Common.{ℕ, ◌*◌, ◌≤◌, mul-le-mul, arith}
use Rattle.picture.specs.declared.Vertex.{Vertex}
use Rattle.picture.specs.Limits.{largest_coordinate}
use Rattle.triangle.specs.declared.Corners.{Corners}
use Rattle.triangle.specs.Edge.{plus_of, minus_of, area_of}
use Rattle.triangle.specs.Loops.{Large}

-- a vertex whose coordinates are at most s
pub record Below (s : ℕ) (v : Vertex) : Type 0 where
  pub across : v.x ≤ s
  pub up : v.y ≤ s

-- the doubled area of corners with such coordinates is at most three times the square of s
pub area_low : (s : ℕ) (t : Corners) → Below s t.a → Below s t.b → Below s t.c → area_of t ≤ 3 * (s * s)
unfolding plus_of minus_of
area_low s t a b c =
    omega (
      arith,
      mul-le-mul {n₁ = t.b.x} {m₁ = t.c.y} {n₂ = s} {m₂ = s} b.across c.up,
      mul-le-mul {n₁ = t.a.x} {m₁ = t.b.y} {n₂ = s} {m₂ = s} a.across b.up,
      mul-le-mul {n₁ = t.a.y} {m₁ = t.c.x} {n₂ = s} {m₂ = s} a.up c.across,
    )

-- with coordinates that the card takes no triangle is too large for carried numbers, so `divided_row` may not be called
pub never_large : (t : Corners) → Below largest_coordinate t.a → Below largest_coordinate t.b → Below largest_coordinate t.c → Large t → ⊥
never_large t a b c h = omega (arith, area_low largest_coordinate t a b c, h.over)
