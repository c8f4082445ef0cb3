-- An edge that two triangles share: what the laws about pixels on it speak of.
use Rattle.std.specs.Prelude.{◌≡◌, ℕ, ◌≤◌, min, max}
use Rattle.picture.specs.declared.Vertex.{Vertex}
use Rattle.triangle.specs.declared.Corners.{Corners}
use Rattle.triangle.specs.Edge.{edge_at}

-- two vertices are at the same point, whatever their numbers
abbrev pub SamePoint : Vertex → Vertex → Type 0
SamePoint a b = (a.x ≡ b.x) × (a.y ≡ b.y)

-- two vertices are not at the same point
pub record Apart (a b : Vertex) : Type 0 where
  pub so : SamePoint a b → ⊥

-- one of the three edges of the corners runs from the point of a to the point of b
pub data HasEdge (t : Corners) (a b : Vertex) : Type 0 where
  first : SamePoint t.a a → SamePoint t.b b → HasEdge t a b
  second : SamePoint t.b a → SamePoint t.c b → HasEdge t a b
  third : SamePoint t.c a → SamePoint t.a b → HasEdge t a b

-- pixel (x, y) lies on the edge from a to b, strictly between its ends: on the line, in the box of a and b, and at neither of them
pub record Amid (a b : Vertex) (x y : ℕ) : Type 0 where
  pub on : (edge_at a b x y).plus ≡ (edge_at a b x y).minus
  pub left : min a.x b.x ≤ x
  pub right : x ≤ max a.x b.x
  pub low : min a.y b.y ≤ y
  pub high : y ≤ max a.y b.y
  pub off_a : (a.x ≡ x) × (a.y ≡ y) → ⊥
  pub off_b : (b.x ≡ x) × (b.y ≡ y) → ⊥
