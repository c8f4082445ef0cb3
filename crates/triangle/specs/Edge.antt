-- The edges of a triangle, and the pixels that it covers (document 01, "Triangle").
use Rattle.std.specs.Prelude.{ℕ, ◌+◌, ◌-◌, ◌*◌, Bool, ◌&&◌, ◌||◌, ◌==◌, nat_lt}
use Rattle.picture.specs.declared.Vertex.{Vertex}
use Rattle.triangle.specs.declared.Corners.{Corners}
use Rattle.triangle.specs.declared.Edge.{Edge}

-- (bx − ax)(y − ay) − (by − ay)(x − ax), multiplied out: what is added, and what is taken away
unfoldable pub plus_of : ℕ → ℕ → ℕ → ℕ → ℕ → ℕ → ℕ
plus_of ax ay bx by x y = bx * y + ax * by + ay * x

-- the terms of it that are taken away
unfoldable pub minus_of : ℕ → ℕ → ℕ → ℕ → ℕ → ℕ → ℕ
minus_of ax ay bx by x y = bx * ay + ax * y + by * x

-- the expression of the edge from a to b at pixel (x, y)
abbrev pub edge_at : Vertex → Vertex → ℕ → ℕ → Edge
edge_at a b x y = record { plus = plus_of a.x a.y b.x b.y x y; minus = minus_of a.x a.y b.x b.y x y }

-- the edge runs downward, or runs level to the right
unfoldable pub closed : Vertex → Vertex → Bool
closed a b = nat_lt b.y a.y || (b.y == a.y && nat_lt a.x b.x)

-- the expression is positive, or is zero on a closed edge
unfoldable pub inside : Edge → Bool → Bool
inside e own = nat_lt e.minus e.plus || (e.minus == e.plus && own)

-- the test of the edge from a to b at pixel (x, y)
abbrev pub passes_edge : Vertex → Vertex → ℕ → ℕ → Bool
passes_edge a b x y = inside (edge_at a b x y) (closed a b)

-- corners that turn anticlockwise cover a pixel: it passes the test of all three edges
unfoldable pub covers : Corners → ℕ → ℕ → Bool
covers t x y = passes_edge t.a t.b x y && passes_edge t.b t.c x y && passes_edge t.c t.a x y

-- an expression's amount, where it is not negative
abbrev pub amount : Edge → ℕ
amount e = e.plus - e.minus

-- the doubled area of corners that turn anticlockwise
abbrev pub area_of : Corners → ℕ
area_of t = amount (edge_at t.a t.b t.c.x t.c.y)
