-- What a triangle offers: pixels of its kind that are offered, with numbers no greater than its vertices', no more of them than the memory has pixels.
-- Assumes nothing.
use Rattle.std.proofs.Common.{◌≡◌, ℕ, ◌+◌, ◌*◌, ◌≤◌, Bool, true, false, cond, [], refl, zero-le, arith}
use mathlib.Core.List.Memᴰ
use mathlib.Core.List.{Memᴰ}
use Rattle.picture.specs.declared.Pen.{Pen}
use Rattle.picture.specs.declared.Vertex.{Vertex}
use Rattle.picture.specs.Offer.{Offer, keep}
use Rattle.picture.specs.Picture.{Picture, drawn}
use Rattle.picture.proofs.Fold.{drawn_nil}
use Rattle.picture.proofs.Spans.{spans_counts}
use Rattle.picture.proofs.Members.{Numbers, Member, every_span, every_kept}
use Rattle.triangle.specs.declared.Corners.{Corners}
use Rattle.triangle.specs.Edge.{covers}
use Rattle.triangle.specs.Number.{shade}
use Rattle.triangle.specs.Offers.{kind_of, pixel_at, pixel_offers, row_offers, turned_offers, corners_of, triangle_offers}
use Rattle.triangle.specs.Loops.{Turned}
use Rattle.triangle.proofs.Between.{shade_between}
use Rattle.triangle.proofs.Rows.{row_length}
use Rattle.triangle.proofs.Turning.{triangle_either}

module _ (pen : Pen) (rows : ℕ) (constant : Bool) where
  module _ (n : ℕ) (t : Corners) (a : Numbers n t.a) (b : Numbers n t.b) (c : Numbers n t.c) (last : Numbers n t.last) (turned : Turned t) where
    -- one of two numbers, neither above n
    number_fits_lem : (p q r l x y : ℕ) → p ≤ n → q ≤ n → r ≤ n → l ≤ n → covers t x y ≡ true → cond constant l (shade t p q r x y) ≤ n
    number_fits_lem p q r l x y hp hq hr hl h = go constant
      where
        go : (k : Bool) → cond k l (shade t p q r x y) ≤ n
        go true = hl
        go false = (shade_between t turned x y h 0 n p q r zero-le zero-le zero-le hp hq hr).1

    pixel_member : (x y : ℕ) (o : Offer) → Memᴰ o (pixel_offers pen rows constant t x y) → Member pen rows (kind_of constant) n o
    unfolding pixel_offers pixel_at
    pixel_member x y o m = go (covers t x y) refl m
      where
        go : (k : Bool) → covers t x y ≡ k → Memᴰ o (cond k (keep pen rows (pixel_at constant t x y)) []) → Member pen rows (kind_of constant) n o
        go true h u =
            every_kept (Member pen rows (kind_of constant) n) pen rows (pixel_at constant t x y)
            (λ e.
            record {
              of_kind = refl;
              is_offered = e;
              i = number_fits_lem t.a.i t.b.i t.c.i t.last.i x y a.i b.i c.i last.i h;
              z = number_fits_lem t.a.z t.b.z t.c.z t.last.z x y a.z b.z c.z last.z h;
            })
            o u
        go false h u = absurd (Memᴰ.not-nil u)

    turned_member : (o : Offer) → Memᴰ o (turned_offers pen rows constant t) → Member pen rows (kind_of constant) n o
    turned_member =
        every_span _ (row_offers pen rows constant t) rows
        (λ y h. every_span _ (λ x. pixel_offers pen rows constant t x y) pen.frame.line (λ x k. pixel_member x y))

  module _ (a b c : Vertex) where
    -- each offer of a triangle
    pub triangle_member : (n : ℕ) → Numbers n a → Numbers n b → Numbers n c → (o : Offer) → Memᴰ o (triangle_offers pen rows constant a b c) → Member pen rows (kind_of constant) n o
    triangle_member n ha hb hc =
        triangle_either pen rows constant a b c (λ os. (o : Offer) → Memᴰ o os → Member pen rows (kind_of constant) n o) (λ o m. absurd (Memᴰ.not-nil m))
        (turned_member n (corners_of a b c c) ha hb hc hc) (turned_member n (corners_of a c b c) ha hc hb hc)

    -- no more pixels of a triangle pass than the rows in use have
    pub triangle_counts : (p : Picture) → (drawn pen (triangle_offers pen rows constant a b c) p).passed ≤ p.passed + rows * pen.frame.line
    triangle_counts p =
        triangle_either pen rows constant a b c (λ os. (drawn pen os p).passed ≤ p.passed + rows * pen.frame.line) (rw (drawn_nil pen p) (omega arith))
        (λ k. turned (corners_of a b c c)) (λ k. turned (corners_of a c b c))
      where
        turned : (t : Corners) → (drawn pen (turned_offers pen rows constant t) p).passed ≤ p.passed + rows * pen.frame.line
        turned t = spans_counts pen (row_offers pen rows constant t) pen.frame.line rows p (row_length pen rows constant t)
