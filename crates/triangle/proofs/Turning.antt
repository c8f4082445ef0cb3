-- The corners named so that they turn anticlockwise, by the computed expression, and then from the lowest on. Assumes nothing.
use Rattle.std.proofs.Common.{◌≡◌, ℕ, ◌+◌, ◌-◌, ◌*◌, ◌/◌, ◌<◌, min, Bool, true, false, cond, ◌&&◌, ltb, List, [], sym, refl, ap, ◌∙◌, subst, ap₂, le_of_eq, le_of_lt, arith, ltb-false, ltb-true, le-ltb, lt-ltb}
use Rattle.picture.specs.declared.Vertex.{Vertex}
use Rattle.picture.specs.declared.Pen.{Pen}
use Rattle.picture.specs.Offer.{Offer, offer, keep}
use Rattle.picture.specs.Picture.{Picture, drawn}
use Rattle.picture.proofs.Fold.{drawn_nil}
use Rattle.picture.proofs.Spans.{spans_same}
use Rattle.triangle.specs.declared.Corners.{Corners}
use Rattle.triangle.specs.declared.Edge.{Edge}
use Rattle.triangle.specs.Edge.{edge_at, amount, area_of}
use Rattle.triangle.specs.Offers.{kind_of, turned_offers, corners_of, triangle_offers}
use Rattle.triangle.specs.Edge.{passes_edge, covers}
use Rattle.triangle.specs.Number.{mixed, shade}
use Rattle.triangle.specs.Offers.{pixel_at, pixel_offers, row_offers}
use Rattle.triangle.specs.Loops.{Turned, Lowest, second_first, lowest_first}
use Rattle.triangle.proofs.Plane.{turn_plus, turn_minus, next_plus, next_minus}

-- ---- the sense, by the computed expression

module _ (a b c : Vertex) (e : Edge) (at : e ≡ edge_at a b c.x c.y) where
  -- corners whose expression is positive turn anticlockwise as they are named
  pub left_turned : e.minus < e.plus → Turned (corners_of a b c c)
  left_turned h = record { turns = rw at at h }

  -- the amount of the expression is the doubled area of the corners as they are named
  pub left_area : e.plus - e.minus ≡ area_of (corners_of a b c c)
  left_area = ap amount at

  -- the other turning sense
  pub right_turned : e.plus < e.minus → Turned (corners_of a c b c)
  right_turned h =
      record { turns = rw (turn_plus a.x a.y b.x b.y c.x c.y, turn_minus a.x a.y b.x b.y c.x c.y) (rw at at h) }

  -- what minus exceeds plus by is the doubled area of the corners in the other order
  pub right_area : e.minus - e.plus ≡ area_of (corners_of a c b c)
  right_area =
      ap (λ (f : Edge). f.minus - f.plus) at
      ∙ sym (rw (turn_plus a.x a.y b.x b.y c.x c.y, turn_minus a.x a.y b.x b.y c.x c.y))

-- the corners named by it, with their doubled area
module _ (a b c : Vertex) (e : Edge) (at : e ≡ edge_at a b c.x c.y) (d : ℕ) (far : d ≡ e.plus - e.minus + (e.minus - e.plus)) (some : 0 < d) where
  right_of : (s : Bool) → ltb e.minus e.plus ≡ s → s ≡ false → e.plus < e.minus
  right_of s f n = omega (arith, far, some, ltb-false e.minus e.plus (f ∙ n))

  named_by : (t : Corners) (s : Bool) → ltb e.minus e.plus ≡ s → t ≡ cond s (corners_of a b c c) (corners_of a c b c) → (Turned t) × (d ≡ area_of t)
  named_by t true f is =
      let h = ltb-true e.minus e.plus f in
      let g : d ≡ e.plus - e.minus = omega (arith, far, h) in
      rw is (left_turned a b c e at h, g ∙ left_area a b c e at)
  named_by t false f is =
      let h = right_of false f refl in
      let g : d ≡ e.minus - e.plus = omega (arith, far, h) in
      rw is (right_turned a b c e at h, g ∙ right_area a b c e at)

  -- the corners named by the expression's sign turn anticlockwise, and d is their doubled area
  pub named_turned : {t : Corners} → t ≡ cond (ltb e.minus e.plus) (corners_of a b c c) (corners_of a c b c) → (Turned t) × (d ≡ area_of t)
  named_turned {t} is = named_by t (ltb e.minus e.plus) refl is

-- ---- the corners in the same turn

-- three tests in the same turn
thrice : (p q r : Bool) → q && r && p ≡ p && q && r
thrice true true true = refl
thrice true true false = refl
thrice true false r = refl
thrice false true true = refl
thrice false true false = refl
thrice false false r = refl

-- a number mixed of three in the same turn
mixed_second : (u v w d p q r : ℕ) → mixed v w u d q r p ≡ mixed u v w d p q r
unfolding mixed
mixed_second u v w d p q r = ap (λ (n : ℕ). (2 * n + d) / (2 * d)) (rotate (p * u) (q * v) (r * w))
  where
    rotate : (a b c : ℕ) → b + c + a ≡ a + b + c
    rotate a b c = omega arith

module _ (t : Corners) where
  second_edge : edge_at t.b t.c t.a.x t.a.y ≡ edge_at t.a t.b t.c.x t.c.y
  second_edge =
      ap₂ (λ (p m : ℕ). edge_of p m)
      (sym (next_plus t.b.x t.b.y t.c.x t.c.y t.a.x t.a.y))
      (sym (next_minus t.b.x t.b.y t.c.x t.c.y t.a.x t.a.y))
    where
      edge_of : ℕ → ℕ → Edge
      edge_of p m = record { plus = p; minus = m }

  second_area : area_of (second_first t) ≡ area_of t
  second_area = ap amount second_edge

  second_turned : Turned t → Turned (second_first t)
  second_turned k = record { turns = subst (λ (e : Edge). e.minus < e.plus) (sym second_edge) k.turns }

  second_covers : (x y : ℕ) → covers (second_first t) x y ≡ covers t x y
  unfolding covers
  second_covers x y = thrice (passes_edge t.a t.b x y) (passes_edge t.b t.c x y) (passes_edge t.c t.a x y)

  second_shade : (p q r x y : ℕ) → shade (second_first t) q r p x y ≡ shade t p q r x y
  unfolding shade
  second_shade p q r x y =
      ap (λ (d : ℕ). mixed (amount (edge_at t.c t.a x y)) (amount (edge_at t.a t.b x y)) (amount (edge_at t.b t.c x y)) d q r p) second_area
      ∙ mixed_second (amount (edge_at t.b t.c x y)) (amount (edge_at t.c t.a x y)) (amount (edge_at t.a t.b x y)) (area_of t) p q r

  module _ (pen : Pen) (rows : ℕ) (constant : Bool) where
    second_pixel : (x y : ℕ) → pixel_at constant (second_first t) x y ≡ pixel_at constant t x y
    unfolding pixel_at
    second_pixel x y =
        ap₂ (λ (i z : ℕ). offer (kind_of constant) x y (cond constant t.last.i i) (cond constant t.last.z z))
        (second_shade t.a.i t.b.i t.c.i x y)
        (second_shade t.a.z t.b.z t.c.z x y)

    second_pixel_offers : (x y : ℕ) → pixel_offers pen rows constant (second_first t) x y ≡ pixel_offers pen rows constant t x y
    unfolding pixel_offers
    second_pixel_offers x y = ap₂ (λ (c : Bool) (o : Offer). cond c (keep pen rows o) []) (second_covers x y) (second_pixel x y)

    second_offers : turned_offers pen rows constant (second_first t) ≡ turned_offers pen rows constant t
    second_offers =
        spans_same (row_offers pen rows constant (second_first t)) (row_offers pen rows constant t) rows
        (λ y _. spans_same _ _ pen.frame.line (λ x _. second_pixel_offers x y))

-- what holds of corners, and of all that are named from their second on where it holds of them, holds of those named from the lowest on
lowest_by : (P : Corners → Type 0) → ((u : Corners) → P u → P (second_first u)) → (t : Corners) → P t → P (lowest_first t)
unfolding lowest_first
lowest_by P f t h = go (ltb t.b.y (min t.a.y t.c.y)) (ltb t.c.y t.a.y)
  where
    go : (p q : Bool) → P (cond p (second_first t) (cond q (second_first (second_first t)) t))
    go true q = f t h
    go false true = f (second_first t) (f t h)
    go false false = h

module _ (t : Corners) where
  -- no corner lies lower than the one that comes first then
  pub lowest_lowest : Lowest (lowest_first t)
  unfolding lowest_first
  lowest_lowest = go (ltb t.b.y (min t.a.y t.c.y)) refl (ltb t.c.y t.a.y) refl
    where
      go : (p : Bool) → ltb t.b.y (min t.a.y t.c.y) ≡ p → (q : Bool) → ltb t.c.y t.a.y ≡ q
          → Lowest (cond p (second_first t) (cond q (second_first (second_first t)) t))
      go true e q f = let h = ltb-true t.b.y (min t.a.y t.c.y) e in record { of_b = omega (arith, h); of_c = omega (arith, h) }
      go false e true f =
          let h = ltb-false t.b.y (min t.a.y t.c.y) e in
          let k = ltb-true t.c.y t.a.y f in
          record { of_b = omega (arith, k); of_c = omega (arith, h, k) }
      go false e false f =
          let h = ltb-false t.b.y (min t.a.y t.c.y) e in
          let k = ltb-false t.c.y t.a.y f in
          record { of_b = omega (arith, h, k); of_c = k }

  -- they turn as before
  pub lowest_turned : Turned t → Turned (lowest_first t)
  lowest_turned k = lowest_by Turned second_turned t k

  -- have the same doubled area
  pub lowest_area : area_of t ≡ area_of (lowest_first t)
  lowest_area = lowest_by (λ u. area_of t ≡ area_of u) (λ u e. e ∙ sym (second_area u)) t refl

  -- and offer the same
  pub lowest_offers : (pen : Pen) (rows : ℕ) (constant : Bool) → turned_offers pen rows constant (lowest_first t) ≡ turned_offers pen rows constant t
  lowest_offers pen rows constant =
      lowest_by (λ u. turned_offers pen rows constant u ≡ turned_offers pen rows constant t) (λ u e. second_offers u pen rows constant ∙ e) t refl

-- ---- what the vertices offer

module _ (pen : Pen) (rows : ℕ) (constant : Bool) (a b c : Vertex) where
  triangle_left : (edge_at a b c.x c.y).minus < (edge_at a b c.x c.y).plus
      → triangle_offers pen rows constant a b c ≡ turned_offers pen rows constant (corners_of a b c c)
  unfolding triangle_offers
  triangle_left h = rw (lt-ltb _ _ h)

  triangle_right : (edge_at a b c.x c.y).plus < (edge_at a b c.x c.y).minus
      → triangle_offers pen rows constant a b c ≡ turned_offers pen rows constant (corners_of a c b c)
  unfolding triangle_offers
  triangle_right h = rw (le-ltb _ _ (le_of_lt h), lt-ltb _ _ h)

  -- three corners on one line offer nothing
  pub triangle_flat : (edge_at a b c.x c.y).minus ≡ (edge_at a b c.x c.y).plus → triangle_offers pen rows constant a b c ≡ []
  unfolding triangle_offers
  triangle_flat h = rw (le-ltb _ _ (le_of_eq (sym h)), le-ltb _ _ (le_of_eq h))

  -- what holds of no offers, and of those of corners that turn anticlockwise by either naming, holds of the triangle's
  pub triangle_either : (P : List Offer → Type 0) → P []
      → (Turned (corners_of a b c c) → P (turned_offers pen rows constant (corners_of a b c c)))
      → (Turned (corners_of a c b c) → P (turned_offers pen rows constant (corners_of a c b c)))
      → P (triangle_offers pen rows constant a b c)
  unfolding triangle_offers
  triangle_either P none left right =
      go (ltb (edge_at a b c.x c.y).minus (edge_at a b c.x c.y).plus) refl (ltb (edge_at a b c.x c.y).plus (edge_at a b c.x c.y).minus) refl
    where
      go : (p : Bool) → ltb (edge_at a b c.x c.y).minus (edge_at a b c.x c.y).plus ≡ p
          → (q : Bool) → ltb (edge_at a b c.x c.y).plus (edge_at a b c.x c.y).minus ≡ q
          → P (cond p (turned_offers pen rows constant (corners_of a b c c)) (cond q (turned_offers pen rows constant (corners_of a c b c)) []))
      go true e q f = left (left_turned a b c (edge_at a b c.x c.y) refl (ltb-true _ _ e))
      go false e true f = right (right_turned a b c (edge_at a b c.x c.y) refl (ltb-true _ _ f))
      go false e false f = none

  module _ (e : Edge) (at : e ≡ edge_at a b c.x c.y) where
    left_drawn : (p q : Picture) → e.minus < e.plus → q ≡ drawn pen (turned_offers pen rows constant (corners_of a b c c)) p
        → q ≡ drawn pen (triangle_offers pen rows constant a b c) p
    left_drawn p q h k = rw (triangle_left (rw at at h)) k

    right_drawn : (p q : Picture) → e.plus < e.minus → q ≡ drawn pen (turned_offers pen rows constant (corners_of a c b c)) p
        → q ≡ drawn pen (triangle_offers pen rows constant a b c) p
    right_drawn p q h k = rw (triangle_right (rw at at h)) k

    -- three vertices whose expression is zero leave the picture as it was
    pub flat_drawn : (p : Picture) → e.minus ≡ e.plus → p ≡ drawn pen (triangle_offers pen rows constant a b c) p
    flat_drawn p h = rw (triangle_flat (rw at at h)) (sym (drawn_nil pen p))

    -- what the named corners draw is what the vertices draw
    module _ (d : ℕ) (far : d ≡ e.plus - e.minus + (e.minus - e.plus)) (some : 0 < d) (p q : Picture) where
      drawn_by : (t : Corners) (s : Bool) → ltb e.minus e.plus ≡ s → t ≡ cond s (corners_of a b c c) (corners_of a c b c)
          → q ≡ drawn pen (turned_offers pen rows constant t) p → q ≡ drawn pen (triangle_offers pen rows constant a b c) p
      drawn_by t true f is k = left_drawn p q (ltb-true e.minus e.plus f) (rw is at k)
      drawn_by t false f is k = right_drawn p q (right_of a b c e at d far some false f refl) (rw is at k)

      -- a picture that the corners named by the expression's sign make is the one that the triangle of the vertices makes
      pub named_drawn : {t : Corners} → t ≡ cond (ltb e.minus e.plus) (corners_of a b c c) (corners_of a c b c)
          → q ≡ drawn pen (turned_offers pen rows constant t) p → q ≡ drawn pen (triangle_offers pen rows constant a b c) p
      named_drawn {t} is k = drawn_by t (ltb e.minus e.plus) refl is k
