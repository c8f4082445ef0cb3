-- The offers of a row are those of one run of pixels, and rows outside the corners and the window have none. Assumes nothing.
use Rattle.std.proofs.Common.{◌≡◌, ℕ, ◌+◌, ◌-◌, ◌<◌, ◌≤◌, min, max, Bool, true, false, cond, List, [], length, sym, refl, ap, ◌∙◌, ap₂, arith}
use Rattle.picture.specs.declared.Pen.{Pen}
use Rattle.picture.specs.declared.Carried.{Carried}
use Rattle.picture.specs.declared.Kind.TheVariants.{Gouraud}
use Rattle.picture.specs.Offer.{Offer, offer, in_window, keep}
use Rattle.picture.specs.Picture.{Picture, drawn}
use Rattle.picture.specs.Draw.{seen, carried_to, span_offers}
use Rattle.picture.proofs.Fold.{drawn_nil}
use Rattle.picture.proofs.Spans.{spans_none, spans_same, spans_part, spans_length}
use Rattle.picture.proofs.Offers.{keep_seen, keep_out, keep_length, window_in, window_of}
use Rattle.triangle.specs.declared.Corners.{Corners}
use Rattle.triangle.specs.declared.Edges.{Edges}
use Rattle.triangle.specs.Edge.{covers, amount, area_of}
use Rattle.triangle.specs.Number.{mixed, shade}
use Rattle.triangle.specs.Offers.{kind_of, pixel_at, pixel_offers, row_offers}
use Rattle.triangle.specs.Loops.{edges_at, Turned, Lowest, Crossed, Spanned, InRows, Runs, end_of, start_of}
use Rattle.triangle.proofs.Covers.{covered_upward}

module _ (pen : Pen) (rows : ℕ) (constant : Bool) (t : Corners) (y : ℕ) where
  -- of a covered pixel itself is offered, or nothing where the window, the memory or the pattern keeps it out
  pub offers_covered : (x : ℕ) → covers t x y ≡ true → pixel_offers pen rows constant t x y ≡ keep pen rows (pixel_at constant t x y)
  unfolding pixel_offers
  offers_covered x h = rw h

  -- nothing is offered where the cover and the window together are absurd
  pub offers_none : (x : ℕ) → (covers t x y ≡ true → in_window pen x y ≡ true → ⊥) → pixel_offers pen rows constant t x y ≡ []
  unfolding pixel_offers pixel_at
  offers_none x h = go (covers t x y) (in_window pen x y) refl refl
    where
      go : (c w : Bool) → covers t x y ≡ c → in_window pen x y ≡ w → cond c (keep pen rows (pixel_at constant t x y)) [] ≡ []
      go false w p q = refl
      go true false p q = keep_out pen rows (pixel_at constant t x y) q
      go true true p q = absurd (h p q)

  -- a row offers nothing where none of its pixels is both covered and in the window
  pub row_none : ((x : ℕ) → covers t x y ≡ true → in_window pen x y ≡ true → ⊥) → row_offers pen rows constant t y ≡ []
  row_none h = spans_none _ pen.frame.line (λ x a. offers_none x (h x))

  -- of a pixel there is at most one offer
  pub offers_length : (x : ℕ) → length (pixel_offers pen rows constant t x y) ≤ 1
  unfolding pixel_offers
  offers_length x = go (covers t x y)
    where
      go : (c : Bool) → length (cond c (keep pen rows (pixel_at constant t x y)) []) ≤ 1
      go true = keep_length pen rows (pixel_at constant t x y)
      go false = omega arith

  -- a row has at most as many offers as the memory has columns
  pub row_length : length (row_offers pen rows constant t y) ≤ pen.frame.line
  row_length = omega (arith, spans_length (λ x. pixel_offers pen rows constant t x y) 1 pen.frame.line offers_length)

  module _ (lo hi : ℕ) (k : Spanned pen t y lo hi) where
    -- a column of the memory outside the row's span offers nothing
    pub row_quiet : (x : ℕ) → x < pen.frame.line → (lo ≤ x → x < hi → ⊥) → pixel_offers pen rows constant t x y ≡ []
    row_quiet x l h =
        offers_none x
        (λ p q.
        let w = window_of pen x y q in
        let r = k.rest x l w.0 w.1 p in
        h r.0 r.1)

    -- a row whose span is empty leaves the picture as it was
    pub row_empty : hi ≤ lo → (p : Picture) → p ≡ drawn pen (row_offers pen rows constant t y) p
    row_empty h p = rw (spans_none _ pen.frame.line (λ x a. row_quiet x a (λ u v. omega arith))) (sym (drawn_nil pen p))

    -- a run of pixels whose numbers are the row's is the row
    pub row_span : InRows pen y → lo < hi → (i z : Carried)
        → ((j : ℕ) → lo + j < hi → (carried_to i j ≡ (pixel_at constant t (lo + j) y).i) × (carried_to z j ≡ (pixel_at constant t (lo + j) y).z))
        → span_offers pen rows (kind_of constant) lo hi y i z ≡ row_offers pen rows constant t y
    unfolding span_offers pixel_at
    row_span v l i z e =
        sym
        (spans_part (λ x. pixel_offers pen rows constant t x y) lo hi pen.frame.line (omega arith) k.wide
        (λ x a. row_quiet x (omega (arith, k.wide)) (λ u w. omega arith))
        (λ x a b. row_quiet x b (λ u w. omega arith))
        ∙ spans_same _ _ (hi - lo)
        (λ j h.
        let c = k.columns (lo + j) (omega arith) (omega arith) in
        let n = e j (omega arith) in
        offers_covered (lo + j) c.2
        ∙ keep_seen pen rows (pixel_at constant t (lo + j) y) (window_in pen (lo + j) y c.0 c.1 v.above v.below)
        ∙ ap₂ (λ (a b : ℕ). seen pen rows (offer (kind_of constant) (lo + j) y a b)) (sym n.0) (sym n.1)))

-- ---- the numbers of a run

-- a number that is carried along a row tells, j pixels on, the Gouraud number of that pixel
pub carried_told : (t : Corners) (p q r lo hi y k g j : ℕ) → Runs t p q r lo hi y k g → lo + j < hi → carried_to (record { first = k; add = g }) j ≡ shade t p q r (lo + j) y
unfolding carried_to
carried_told t p q r lo hi y k g j h l = h.tells j l

-- ---- rows outside

-- `omega` splits on each min and max, so the corners' least and greatest are variables here
before_start : (y e l m : ℕ) → y < min (max l m) e → l ≤ y → m ≤ y → ⊥
before_start y e l m h a b = omega arith

past_end : (y n r m : ℕ) → min n (min r m + 1) ≤ y → y < n → y ≤ r → y ≤ m → ⊥
past_end y n r m h k a b = omega arith

from_start : (y e l m : ℕ) → min (max l m) e ≤ y → y < e → l ≤ y
from_start y e l m h k = omega arith

to_end : (y n r m : ℕ) → y < min n (min r m + 1) → y ≤ r
to_end y n r m h = omega arith

-- a row that is not below the first is not below a, the least of three, and one before the end is not above the greater of the two others
least_start : (y e l a b c : ℕ) → min (max l (min a (min b c))) e ≤ y → y < e → a ≤ b → a ≤ c → a ≤ y
least_start y e l a b c h k p q = omega arith

greatest_end : (y n r a b c : ℕ) → y < min n (min r (max a (max b c)) + 1) → a ≤ c → y ≤ max c b
greatest_end y n r a b c h p = omega arith

module _ (pen : Pen) (rows : ℕ) (constant : Bool) (t : Corners) (k : Turned t) where
  abbrev top : ℕ
  top = end_of rows pen.top t.a.y t.c.y t.b.y

  abbrev bottom : ℕ
  bottom = min (start_of pen.bottom t.a.y t.c.y t.b.y) top

  -- a row below the corners' lowest, or below the window, offers nothing
  pub row_below : (y : ℕ) → y < bottom → row_offers pen rows constant t y ≡ []
  row_below y h = row_none pen rows constant t y (λ x p q. before_start y _ _ _ h (window_of pen x y q).2 (covered_upward t k x y p).0)

  -- a row of the memory above the corners' highest, or above the window, offers nothing
  pub row_above : (y : ℕ) → top ≤ y → y < rows → row_offers pen rows constant t y ≡ []
  row_above y h l = row_none pen rows constant t y (λ x p q. past_end y _ _ _ h l (window_of pen x y q).3 (covered_upward t k x y p).1)

  -- the rows between these are rows of the window
  pub row_within : (y : ℕ) → bottom ≤ y → y < top → InRows pen y
  row_within y h l = record { above = from_start y _ _ _ h l; below = to_end y _ _ _ l }

  -- and of the corners, the lowest first
  pub row_crossed : Lowest t → (y : ℕ) → bottom ≤ y → y < top → Crossed t y
  row_crossed f y h l =
      record {
        turned = k;
        lowest = f;
        above = least_start y _ pen.bottom t.a.y t.c.y t.b.y h l f.of_c f.of_b;
        below = greatest_end y rows pen.top t.a.y t.c.y t.b.y l f.of_b;
      }

-- ---- a pixel by itself

-- a number by the computed edges and area
pub number_told : (t : Corners) (p q r x y d n : ℕ) (e : Edges) → d ≡ area_of t → e ≡ edges_at t x y
    → n ≡ mixed (amount e.bc) (amount e.ca) (amount e.ab) d p q r → n ≡ shade t p q r x y
unfolding shade
number_told t p q r x y d n e hd he h = h ∙ rw (hd, he)

-- what a covered pixel with its two Gouraud numbers makes of a picture is what the offers of that pixel make of it
pub pixel_drawn : (pen : Pen) (rows : ℕ) (t : Corners) (x y i z : ℕ) (p q : Picture) → covers t x y ≡ true
    → i ≡ shade t t.a.i t.b.i t.c.i x y → z ≡ shade t t.a.z t.b.z t.c.z x y
    → q ≡ drawn pen (keep pen rows (offer Gouraud x y i z)) p → q ≡ drawn pen (pixel_offers pen rows false t x y) p
unfolding pixel_at
pixel_drawn pen rows t x y i z p q h ei ez e =
    e
    ∙ ap₂ (λ (a b : ℕ). drawn pen (keep pen rows (offer Gouraud x y a b)) p) ei ez
    ∙ ap (λ (os : List Offer). drawn pen os p) (sym (offers_covered pen rows false t y x h))
