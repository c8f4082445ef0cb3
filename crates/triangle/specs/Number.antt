-- The numbers of a covered pixel (document 01, "Triangle": Gouraud and constant).
use Rattle.std.specs.Prelude.{ℕ, ◌+◌, ◌*◌, ◌/◌}
use Rattle.triangle.specs.declared.Corners.{Corners}
use Rattle.triangle.specs.Edge.{edge_at, amount, area_of}

-- 2 N + D, where N is the sum of the corner numbers p, q, r times their weights u, v, w
abbrev pub mass_of : ℕ → ℕ → ℕ → ℕ → ℕ → ℕ → ℕ → ℕ
mass_of u v w d p q r = 2 * (p * u + q * v + r * w) + d

-- (2 N + D) div 2 D
unfoldable pub mixed : ℕ → ℕ → ℕ → ℕ → ℕ → ℕ → ℕ → ℕ
mixed u v w d p q r = mass_of u v w d p q r / (2 * d)

-- the Gouraud number at pixel (x, y), from the numbers p, q, r at the corners: each is weighted by the expression of the edge opposite
unfoldable pub shade : Corners → ℕ → ℕ → ℕ → ℕ → ℕ → ℕ
shade t p q r x y =
    mixed (amount (edge_at t.b t.c x y)) (amount (edge_at t.c t.a x y)) (amount (edge_at t.a t.b x y)) (area_of t) p q r
