-- A pixel on a triangle's edge, strictly between its ends, is strictly inside the two other edges. With v the expression of the edge from
-- c to a, and D the doubled area, v (bx − ax) = D (x − ax) where the pixel is on the line from a to b; so where x is not ax and lies
-- between ax and bx, v has the sign of D. The other edge goes alike, and so does y, with the corners mirrored at the diagonal in the other
-- order. Assumes nothing.
use Rattle.std.proofs.Common.{◌≡◌, ℕ, ◌+◌, ◌-◌, ◌*◌, ◌<◌, ◌≤◌, min, max, Bool, true, false, eqb, ltb, sym, refl, ap, ◌∙◌, le_of_lt, add-mul, add-sub_of_le, mul-le-mul_left, arith, ltb-false, ltb-true, eqb-true}
use native.Mathlib.Nat.{mul-lt-mul_of_pos_left}
use borrow.Author.Tests.{eqb-false}
use Rattle.picture.specs.declared.Vertex.{Vertex}
use Rattle.triangle.specs.Edge.{plus_of, minus_of, edge_at}
use Rattle.triangle.specs.Offers.{corners_of}
use Rattle.triangle.specs.Loops.{Turned}
use Rattle.triangle.specs.Shared.{Amid}
use Rattle.triangle.proofs.Plane.{whole, centre, flip_plus, flip_minus, lt_of_not}

split : (m p a : ℕ) → m ≤ p → p * a ≡ m * a + (p - m) * a
split m p a h = ap (λ (q : ℕ). q * a) (sym (add-sub_of_le h)) ∙ add-mul m (p - m) a

-- (p − m) (b − a), multiplied out, is not negative, or is positive
cross : (m p a b : ℕ) → m ≤ p → a ≤ b → p * a + m * b ≤ m * a + p * b
cross m p a b h k = omega (arith, split m p a h, split m p b h, mul-le-mul_left (p - m) k)

cross_lt : (m p a b : ℕ) → m < p → a < b → p * a + m * b < m * a + p * b
cross_lt m p a b h k =
    omega (arith, split m p a (le_of_lt h), split m p b (le_of_lt h), mul-lt-mul_of_pos_left {m = a} {n = b} {k = p - m} k (omega arith))

-- v (b − a) = d (x − a), multiplied out: if d is positive, and x is between a and b and is not a, then v is positive
leans : (p m dp dm a b x : ℕ) → p * b + m * a + dm * x + dp * a ≡ m * b + p * a + dp * x + dm * a
    → dm < dp → min a b ≤ x → x ≤ max a b → (a ≡ x → ⊥) → m < p
leans p m dp dm a b x e t l r n = lt_of_not (λ h. go h (ltb a x) refl)
  where
    go : p ≤ m → (s : Bool) → ltb a x ≡ s → ⊥
    go h true q =
        let k : a < x = ltb-true a x q in
        omega (arith, cross p m a b h (omega arith), cross_lt dm dp a x t k)
    go h false q =
        let k : x < a = lt_of_not (λ g. n (omega (arith, ltb-false a x q))) in
        omega (arith, cross p m b a h (omega arith), cross_lt dm dp x a t k)

-- one axis
module _ (ax ay bx by cx cy x y : ℕ)
    (turns : minus_of ax ay bx by cx cy < plus_of ax ay bx by cx cy)
    (on : plus_of ax ay bx by x y ≡ minus_of ax ay bx by x y)
    (left : min ax bx ≤ x)
    (right : x ≤ max ax bx) where
  -- the edge adds nothing to the doubled area, which the two others make up; the same times a place
  shares : plus_of bx by cx cy x y + plus_of cx cy ax ay x y + minus_of ax ay bx by cx cy
      ≡ minus_of bx by cx cy x y + minus_of cx cy ax ay x y + plus_of ax ay bx by cx cy
  shares = omega (arith, whole ax ay bx by cx cy x y)

  shares_at : (k : ℕ) → plus_of bx by cx cy x y * k + plus_of cx cy ax ay x y * k + minus_of ax ay bx by cx cy * k
      ≡ minus_of bx by cx cy x y * k + minus_of cx cy ax ay x y * k + plus_of ax ay bx by cx cy * k
  shares_at k = simp add-mul at (ap (λ (n : ℕ). n * k) shares)

  off_first : (ax ≡ x → ⊥) → minus_of cx cy ax ay x y < plus_of cx cy ax ay x y
  off_first =
      leans _ _ _ _ ax bx x
      (omega (arith, centre ax ay bx by cx cy x y, ap (λ (n : ℕ). n * cx) on, shares_at ax))
      turns left right

  off_second : (bx ≡ x → ⊥) → minus_of bx by cx cy x y < plus_of bx by cx cy x y
  off_second =
      leans _ _ _ _ bx ax x
      (omega (arith, centre ax ay bx by cx cy x y, ap (λ (n : ℕ). n * cx) on, shares_at bx))
      turns (omega arith) (omega arith)

-- two points that are not the same differ in x or in y
either_axis : {p q r s : ℕ} {A : Type 0} → ((p ≡ r) × (q ≡ s) → ⊥) → ((p ≡ r → ⊥) → A) → ((q ≡ s → ⊥) → A) → A
either_axis {p} {q} {r} {s} {A} h f g = go (eqb p r) refl
  where
    go : (b : Bool) → eqb p r ≡ b → A
    go false e = f (eqb-false p r e)
    go true e = g (λ d. h (eqb-true p r e, d))

-- both axes
module _ (a b c : Vertex) (x y : ℕ) (k : Turned (corners_of a b c c)) (m : Amid a b x y) where
  -- mirrored at the diagonal, in the other order
  mirror_turns : minus_of b.y b.x a.y a.x c.y c.x < plus_of b.y b.x a.y a.x c.y c.x
  mirror_turns = rw (flip_plus b.x b.y a.x a.y c.x c.y, flip_minus b.x b.y a.x a.y c.x c.y) k.turns

  mirror_on : plus_of b.y b.x a.y a.x y x ≡ minus_of b.y b.x a.y a.x y x
  mirror_on = rw (flip_plus b.x b.y a.x a.y x y, flip_minus b.x b.y a.x a.y x y) m.on

  -- a pixel between the ends of the edge from a to b is strictly inside the edge from c to a
  pub amid_first : (edge_at c a x y).minus < (edge_at c a x y).plus
  amid_first =
      either_axis m.off_a
      (off_first a.x a.y b.x b.y c.x c.y x y k.turns m.on m.left m.right)
      (λ n.
      rw (flip_plus a.x a.y c.x c.y x y, flip_minus a.x a.y c.x c.y x y) at
      (off_second b.y b.x a.y a.x c.y c.x y x mirror_turns mirror_on (omega (arith, m.low)) (omega (arith, m.high)) n))

  -- and it is strictly inside the edge from b to c
  pub amid_second : (edge_at b c x y).minus < (edge_at b c x y).plus
  amid_second =
      either_axis m.off_b
      (off_second a.x a.y b.x b.y c.x c.y x y k.turns m.on m.left m.right)
      (λ n.
      rw (flip_plus c.x c.y b.x b.y x y, flip_minus c.x c.y b.x b.y x y) at
      (off_first b.y b.x a.y a.x c.y c.x y x mirror_turns mirror_on (omega (arith, m.low)) (omega (arith, m.high)) n))
