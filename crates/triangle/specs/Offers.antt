-- What a triangle offers (document 01, "Triangle" and "Offered").
use Rattle.std.specs.Prelude.{ℕ, Bool, cond, List, [], nat_lt}
use Rattle.picture.specs.declared.Vertex.{Vertex}
use Rattle.picture.specs.declared.Pen.{Pen}
use Rattle.picture.specs.declared.Kind.{Kind}
use Rattle.picture.specs.declared.Kind.TheVariants.{Gouraud, Constant}
use Rattle.picture.specs.Offer.{Offer, offer, keep}
use Rattle.picture.specs.Draw.{spans}
use Rattle.triangle.specs.declared.Corners.{Corners}
use Rattle.triangle.specs.Edge.{edge_at, covers}
use Rattle.triangle.specs.Number.{shade}

-- what kind a triangle's pixels are offered as: constant or Gouraud
abbrev pub kind_of : Bool → Kind
kind_of constant = cond constant Constant Gouraud

-- pixel (x, y) with its numbers: constant, those of the completing vertex; else the Gouraud numbers
unfoldable pub pixel_at : Bool → Corners → ℕ → ℕ → Offer
pixel_at constant t x y =
    offer (kind_of constant) x y
    (cond constant t.last.i (shade t t.a.i t.b.i t.c.i x y))
    (cond constant t.last.z (shade t t.a.z t.b.z t.c.z x y))

-- what is offered of pixel (x, y)
unfoldable pub pixel_offers : Pen → ℕ → Bool → Corners → ℕ → ℕ → List Offer
pixel_offers pen rows constant t x y = cond (covers t x y) (keep pen rows (pixel_at constant t x y)) []

-- of row y, and of all rows
abbrev pub row_offers : Pen → ℕ → Bool → Corners → ℕ → List Offer
row_offers pen rows constant t y = spans (λ x. pixel_offers pen rows constant t x y) pen.frame.line

-- what corners that turn anticlockwise offer: the offers of all rows of the memory
abbrev pub turned_offers : Pen → ℕ → Bool → Corners → List Offer
turned_offers pen rows constant t = spans (row_offers pen rows constant t) rows

-- the corners a, b and c in this order, with the vertex that completes the triangle
abbrev pub corners_of : Vertex → Vertex → Vertex → Vertex → Corners
corners_of a b c last = record { a = a; b = b; c = c; last = last }

-- the triangle of three vertices, of which c completes it: its corners are named so that they turn anticlockwise, and on one line they
-- cover nothing
unfoldable pub triangle_offers : Pen → ℕ → Bool → Vertex → Vertex → Vertex → List Offer
triangle_offers pen rows constant a b c =
    cond (nat_lt (edge_at a b c.x c.y).minus (edge_at a b c.x c.y).plus) (turned_offers pen rows constant (corners_of a b c c))
    (cond (nat_lt (edge_at a b c.x c.y).plus (edge_at a b c.x c.y).minus) (turned_offers pen rows constant (corners_of a c b c)) [])
