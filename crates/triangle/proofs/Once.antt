-- A triangle offers each pixel at most once: only column x of row y makes offers of pixel (x, y), and it makes at most one.
-- Assumes nothing.
use Rattle.std.proofs.Common.{◌≡◌, ℕ, zero, suc, ◌<◌, ◌≤◌, Bool, true, false, cond, ◌&&◌, eqb, List, [], ◌∷◌, ◌++◌, length, refl, ap, ◌∙◌, ap₂, append-nil, arith, ne_eqb, eqb-true}
use borrow.Author.Tests.{eqb-false}
use Rattle.picture.specs.declared.Vertex.{Vertex}
use Rattle.picture.specs.declared.Pen.{Pen}
use Rattle.picture.specs.Offer.{Offer, offered, keep, on_pixel}
use Rattle.picture.specs.Draw.{spans}
use Rattle.picture.proofs.Spans.{spans_zero, spans_suc}
use Rattle.triangle.specs.declared.Corners.{Corners}
use Rattle.triangle.specs.Edge.{covers}
use Rattle.triangle.specs.Offers.{pixel_at, pixel_offers, row_offers, turned_offers, corners_of, triangle_offers}
use Rattle.triangle.proofs.Rows.{offers_length}
use Rattle.triangle.proofs.Turning.{triangle_either}

differs : (i j x y : ℕ) → ((i ≡ x) × (j ≡ y) → ⊥) → eqb i x && eqb j y ≡ false
differs i j x y h = go (eqb i x) refl
  where
    go : (b : Bool) → eqb i x ≡ b → b && eqb j y ≡ false
    go true q = ne_eqb j y (λ e. h (eqb-true i x q, e))
    go false q = refl

module _ (x y : ℕ) where
  -- of no offers, none
  pub at_nil : on_pixel x y [] ≡ []
  unfolding on_pixel
  at_nil = refl

  -- of offers behind others, theirs behind those of the others
  pub at_append : (os ps : List Offer) → on_pixel x y (os ++ ps) ≡ on_pixel x y os ++ on_pixel x y ps
  unfolding on_pixel
  at_append [] ps = refl
  at_append (o ∷ os) ps = rw (at_append os ps) (go (eqb o.x x && eqb o.y y) (on_pixel x y os) (on_pixel x y ps))
    where
      go : (b : Bool) (l r : List Offer) → cond b (o ∷ (l ++ r)) (l ++ r) ≡ cond b (o ∷ l) l ++ r
      go true l r = refl
      go false l r = refl

  -- no more than there are
  at_length : (os : List Offer) → length (on_pixel x y os) ≤ length os
  unfolding on_pixel
  at_length [] = omega arith
  at_length (o ∷ os) = go (eqb o.x x && eqb o.y y) (on_pixel x y os) (at_length os)
    where
      go : (b : Bool) (l : List Offer) → length l ≤ length os → length (cond b (o ∷ l) l) ≤ suc (length os)
      go true l h = omega arith
      go false l h = omega arith

  -- none where no place makes any
  at_none : (f : ℕ → List Offer) (n : ℕ) → ((j : ℕ) → j < n → on_pixel x y (f j) ≡ []) → on_pixel x y (spans f n) ≡ []
  at_none f zero h = ap (on_pixel x y) (spans_zero f) ∙ at_nil
  at_none f (suc n) h =
      rw (spans_suc, at_append) (ap₂ (λ (a b : List Offer). a ++ b) (at_none f n (λ j l. h j (omega arith))) (h n (omega arith)))

  -- those of place k, where no other place makes any
  at_once : (f : ℕ → List Offer) (k n : ℕ) → ((j : ℕ) → (j ≡ k → ⊥) → on_pixel x y (f j) ≡ []) → length (on_pixel x y (spans f n)) ≤ length (on_pixel x y (f k))
  at_once f k zero h = rw (spans_zero, at_nil) (omega arith)
  at_once f k (suc n) h = rw (spans_suc, at_append) (go (at_once f k n h) (eqb n k) refl)
    where
      go : length (on_pixel x y (spans f n)) ≤ length (on_pixel x y (f k)) → (b : Bool) → eqb n k ≡ b
          → length (on_pixel x y (spans f n) ++ on_pixel x y (f n)) ≤ length (on_pixel x y (f k))
      go l true q =
          let e : n ≡ k = eqb-true n k q in
          rw (at_none f n (λ j g. h j (λ d. omega arith)), e) (omega arith)
      go l false q = rw (h n (eqb-false n k q), append-nil) l

  module _ (pen : Pen) (rows : ℕ) (constant : Bool) where
    -- another column or row makes none
    at_else : (t : Corners) (i j : ℕ) → ((i ≡ x) × (j ≡ y) → ⊥) → on_pixel x y (pixel_offers pen rows constant t i j) ≡ []
    unfolding pixel_offers keep on_pixel pixel_at
    at_else t i j h = go (covers t i j) (offered pen rows (pixel_at constant t i j))
      where
        go : (c o : Bool) → on_pixel x y (cond c (cond o (pixel_at constant t i j ∷ []) []) []) ≡ []
        go true true = rw (differs i j x y h)
        go true false = refl
        go false o = refl

    turned_once : (t : Corners) → length (on_pixel x y (turned_offers pen rows constant t)) ≤ 1
    turned_once t =
        omega (
          arith,
          at_once (row_offers pen rows constant t) y rows
              (λ j n. at_none _ pen.frame.line (λ i l. at_else t i j (λ e. n e.1))),
          at_once (λ i. pixel_offers pen rows constant t i y) x pen.frame.line (λ i n. at_else t i y (λ e. n e.0)),
          at_length (pixel_offers pen rows constant t x y),
          offers_length pen rows constant t y x,
        )

    -- of every pixel a triangle makes at most one offer
    pub triangle_once : (a b c : Vertex) → length (on_pixel x y (triangle_offers pen rows constant a b c)) ≤ 1
    triangle_once a b c =
        triangle_either pen rows constant a b c (λ os. length (on_pixel x y os) ≤ 1) (rw at_nil (omega arith)) (λ t. turned_once (corners_of a b c c))
        (λ t. turned_once (corners_of a c b c))
