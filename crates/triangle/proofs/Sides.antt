-- What an edge keeps of a row, told by one number that is carried from row to row modulo 2 ^ 64: over the edge's height it is the first column that is kept where
-- the edge falls, so that it bounds the columns from the left, and the first that is left outside where it does not. Assumes nothing.
use Rattle.std.proofs.Common.{◌≡◌, ℕ, ◌+◌, ◌-◌, ◌*◌, ◌/◌, ◌%◌, ◌^◌, ◌<◌, ◌≤◌, min, max, Bool, true, false, ltb, sym, refl, ap, ◌∙◌, zero-le, le_refl, le_of_lt, mul-le-mul_right, mod-eq_of_lt, mul_comm, add-mul, add-sub_of_le, add_comm, le-div_iff_mul-le, arith, ltb-false, ltb-true}
use native.Mathlib.Nat.{min-le_left, add-div_right, div-eq_of_lt, mod-add-mod}
use Rattle.picture.specs.declared.Vertex.{Vertex}
use Rattle.triangle.specs.declared.Side.{Side}
use Rattle.triangle.specs.declared.Limits.{Limits}
use Rattle.triangle.specs.Edge.{plus_of, minus_of, closed}
use Rattle.triangle.specs.Loops.{short, Keeps, Stands, Bounds, Cuts}
use Rattle.triangle.proofs.Plane.{product_fits, plus_from, minus_from, up_plus, up_minus, first_in, first_out, end_in, end_out, max_le, max_le_r, lt_min, lt_min_r, le_of_not, lt_of_not}

-- ---- the columns that an edge keeps

module _ (a b : Vertex) (y : ℕ) where
  abbrev p : ℕ
  p = plus_of a.x a.y b.x b.y 0 y

  abbrev m : ℕ
  m = minus_of a.x a.y b.x b.y 0 y + short (closed a b)

  to : (x : ℕ) → m + b.y * x ≤ p + a.y * x → Keeps a b x y
  to x h = record { so = omega (arith, plus_from a.x a.y b.x b.y x y, minus_from a.x a.y b.x b.y x y) }

  of : (x : ℕ) → Keeps a b x y → m + b.y * x ≤ p + a.y * x
  of x h = omega (arith, h.so, plus_from a.x a.y b.x b.y x y, minus_from a.x a.y b.x b.y x y)

  fall : (r : ℕ) → b.y < a.y → ((x : ℕ) → x < 65536 → (r ≤ x → Keeps a b x y) × (Keeps a b x y → r ≤ x)) → Bounds a b y r
  fall r h f = record { falls = λ _. f; rises = λ g. absurd (omega arith) }

  rise : (r : ℕ) → a.y ≤ b.y → ((x : ℕ) → x < 65536 → (x < r → Keeps a b x y) × (Keeps a b x y → x < r)) → Bounds a b y r
  rise r h f = record { falls = λ g. absurd (omega arith); rises = λ _. f }

  fall_all : b.y < a.y → m ≤ p → Bounds a b y 0
  fall_all h l = fall 0 h (λ x u. ((λ _. to x (omega (arith, mul-le-mul_right x (le_of_lt h)))), (λ _. zero-le)))

  fall_first : (r : ℕ) → b.y < a.y → p < m → r ≡ (m - p - 1) / (a.y - b.y) + 1 → Bounds a b y r
  fall_first r h l e =
      fall r h
      (λ x u. (
        (λ g. to x (first_in p m a.y b.y x h l (rw e at g))),
        (λ k. le_of_not (λ g. first_out p m a.y b.y x h l (rw e at g) (of x k))),
      ))

  fall_none : b.y < a.y → p < m → 65535 * (a.y - b.y) ≤ m - p - 1 → Bounds a b y 65536
  fall_none h l far =
      let q : 65535 ≤ (m - p - 1) / (a.y - b.y) = (le-div_iff_mul-le {k = a.y - b.y} {x = 65535} {y = m - p - 1} (omega arith)).1 far in
      fall 65536 h (λ x u. ((λ g. absurd (omega arith)), (λ k. absurd (first_out p m a.y b.y x h l (omega (arith, q)) (of x k)))))

  rise_none : a.y ≤ b.y → p < m → Bounds a b y 0
  rise_none h l = rise 0 h (λ x u. ((λ g. absurd (omega arith)), (λ k. absurd (omega (arith, of x k, mul-le-mul_right x h)))))

  rise_end : (r : ℕ) → a.y < b.y → m ≤ p → r ≡ (p - m) / (b.y - a.y) + 1 → Bounds a b y r
  rise_end r h l e =
      rise r (le_of_lt h)
      (λ x u. (
        (λ g. to x (end_in p m a.y b.y x h l (rw e at g))),
        (λ k. lt_of_not (λ g. end_out p m a.y b.y x h l (rw e at g) (of x k))),
      ))

  rise_all : a.y ≤ b.y → m ≤ p → 65535 * (b.y - a.y) ≤ p - m → Bounds a b y 65536
  rise_all h l far =
      rise 65536 h
      (λ x u. (
        (λ g.
            to x
            (omega (
              arith,
              ap (λ (k : ℕ). k * x) (add-sub_of_le h),
              add-mul a.y (b.y - a.y) x,
              mul_comm (b.y - a.y) x,
              mul-le-mul_right {m = x} {n = 65535} (b.y - a.y) (omega arith),
            ))),
        (λ k. u),
      ))

-- ---- the number of a side

-- a test of two numbers
pub either : {A : Type 0} → (m n : ℕ) → (m < n → A) → (n ≤ m → A) → A
either {A} m n f g = go (ltb m n) refl
  where
    go : (c : Bool) → ltb m n ≡ c → A
    go true q = f (ltb-true m n q)
    go false q = g (ltb-false m n q)

-- an edge must exceed the other side by at most 1
pub short_low : (c : Bool) → short c ≤ 1
short_low true = omega arith
short_low false = omega arith

-- a quotient with its divisor added once, and one below its divisor
over_once : (v n d q : ℕ) → 0 < d → n ≡ v + d → q ≡ n / d → q ≡ v / d + 1
over_once v n d q pos e h = h ∙ ap (λ (k : ℕ). k / d) e ∙ add-div_right v pos

over_none : (n d q : ℕ) → n < d → q ≡ n / d → q ≡ 0
over_none n d q l h = h ∙ div-eq_of_lt l

module _ (a b : Vertex) (y : ℕ) (s : Side) (k : Stands a b y s) (tall : s.height.tall ≤ 65535)
    (low : plus_of a.x a.y b.x b.y 0 y ≤ 12884508675) (few : minus_of a.x a.y b.x b.y 0 y ≤ 12884508675) where
  -- a number that is not large is what it says
  fall_is : b.y < a.y → s.at < 9223372036854775808 → s.at + p a b y + 1 ≡ m a b y + s.height.tall
  fall_is h l = omega (arith, (k.falls h).0, low)

  rise_is : a.y ≤ b.y → s.at < 9223372036854775808 → s.at + m a b y ≡ p a b y + s.height.tall
  rise_is h l = omega (arith, (k.rises h).0, few, short_low (closed a b))

  -- a large one stands for one below 0, which bounds nothing, or leaves nothing
  pub bound_low : 9223372036854775808 ≤ s.at → Bounds a b y 0
  bound_low l =
      either b.y a.y
      (λ h. fall_all a b y h (omega (arith, (k.falls h).0, k.fits, few, short_low (closed a b))))
      (λ h. rise_none a b y h (omega (arith, (k.rises h).0, k.fits, low, few, l, short_low (closed a b))))

  -- others tell by a quotient
  module _ (r : ℕ) (near : s.at < 65536 * s.height.tall) (e : r ≡ s.at / s.height.tall) where
    at_fall : b.y < a.y → Bounds a b y r
    at_fall h =
        let is = fall_is h (omega (arith, near, tall)) in
        let same : s.height.tall ≡ a.y - b.y = omega (arith, k.height.is) in
        either (p a b y) (m a b y)
        (λ l. fall_first a b y r h l (rw same at (over_once (m a b y - p a b y - 1) s.at s.height.tall r (omega (arith, same)) (omega (arith, is)) e)))
        (λ l. rw (over_none s.at s.height.tall r (omega (arith, is)) e) (fall_all a b y h l))

    at_rise : a.y ≤ b.y → Bounds a b y r
    at_rise h =
        let is = rise_is h (omega (arith, near, tall)) in
        let same : s.height.tall ≡ b.y - a.y = omega (arith, k.height.is) in
        either (p a b y) (m a b y)
        (λ l. rw (over_none s.at s.height.tall r (omega (arith, is)) e) (rise_none a b y h l))
        (λ l.
        rise_end a b y r (omega (arith, same, near)) l
        (rw same at (over_once (p a b y - m a b y) s.at s.height.tall r (omega (arith, near)) (omega (arith, is)) e)))

    -- where the number is near, its quotient by the height bounds the columns
    pub bound_at : Bounds a b y r
    bound_at = either b.y a.y at_fall at_rise

  -- far above 0 no column is bounded, or none is left
  pub bound_far : s.at < 9223372036854775808 → 65536 * s.height.tall ≤ s.at → Bounds a b y 65536
  bound_far l far =
      either b.y a.y
      (λ h. let is = fall_is h l in fall_none a b y h (omega (arith, is, far, k.height.is)) (omega (arith, is, far, k.height.is)))
      (λ h. let is = rise_is h l in rise_all a b y h (omega (arith, is, far)) (omega (arith, is, far, k.height.is)))

module _ (a b : Vertex) (y : ℕ) where
  -- the bound of an edge that falls cuts a span from the left
  pub cut_left : (s₀ : Limits) (r : ℕ) → b.y < a.y → s₀.hi ≤ 65536 → Bounds a b y r → Cuts a b y s₀ (record { lo = max s₀.lo r; hi = s₀.hi })
  cut_left s₀ r e wide n =
      let f = n.falls e in
      record {
        shrinks = le_refl _;
        inner = λ x u v. (omega arith, v, (f x (omega arith)).0 (max_le_r s₀.lo r x u));
        outer = λ x u v g. (max_le s₀.lo r x u ((f x (omega arith)).1 g), v);
      }

  -- the bound of one that does not fall cuts a span from the right
  pub cut_right : (s₀ : Limits) (r : ℕ) → a.y ≤ b.y → s₀.hi ≤ 65536 → Bounds a b y r → Cuts a b y s₀ (record { lo = s₀.lo; hi = min s₀.hi r })
  cut_right s₀ r e wide n =
      let f = n.rises e in
      record {
        shrinks = min-le_left _ _;
        inner = λ x u v. (u, omega arith, (f x (omega arith)).0 (lt_min_r s₀.hi r x v));
        outer = λ x u v g. (u, lt_min s₀.hi r x v ((f x (omega arith)).1 g));
      }

-- ---- a row on

next_mod : (n a u p q x y : ℕ) → n ≡ (a + u) % 2 ^ 64 → (a + p) % 2 ^ 64 ≡ x → (u + q) % 2 ^ 64 ≡ y → x + y < 18446744073709551616
    → (n + (p + q)) % 2 ^ 64 ≡ x + y
next_mod n a u p q x y e f g h =
    ap (λ (k : ℕ). (k + (p + q)) % 2 ^ 64) e
    ∙ mod-add-mod (a + u) (2 ^ 64) (p + q)
    ∙ ap (λ (k : ℕ). k % 2 ^ 64) (regroup a u p q)
    ∙ sym (mod-add-mod (a + p) (2 ^ 64) (u + q))
    ∙ ap (λ (k : ℕ). (k + (u + q)) % 2 ^ 64) f
    ∙ ap (λ (k : ℕ). k % 2 ^ 64) (add_comm x (u + q))
    ∙ sym (mod-add-mod (u + q) (2 ^ 64) x)
    ∙ ap (λ (k : ℕ). (k + x) % 2 ^ 64) g
    ∙ ap (λ (k : ℕ). k % 2 ^ 64) (add_comm y x)
    ∙ mod-eq_of_lt h
  where
    regroup : (a u p q : ℕ) → a + u + (p + q) ≡ a + p + (u + q)
    regroup a u p q = omega arith

-- a side a row on
module _ (a b : Vertex) (y : ℕ) (s : Side) (n : ℕ) (k : Stands a b y s) (tall : s.height.tall ≤ 65535)
    (low : plus_of a.x a.y b.x b.y 0 y ≤ 12884508675) (few : minus_of a.x a.y b.x b.y 0 y ≤ 12884508675)
    (hx : a.x ≤ 65535) (kx : b.x ≤ 65535) (e : n ≡ (s.at + s.step) % 2 ^ 64) where
  abbrev plus₀ : ℕ
  plus₀ = plus_of a.x a.y b.x b.y 0 y

  abbrev minus₀ : ℕ
  minus₀ = minus_of a.x a.y b.x b.y 0 y

  falls_on : b.y < a.y → (n + (plus_of a.x a.y b.x b.y 0 (y + 1) + 1)) % 2 ^ 64 ≡ minus_of a.x a.y b.x b.y 0 (y + 1) + short (closed a b) + s.height.tall
  falls_on h =
      let f = k.falls h in
      let from : plus_of a.x a.y b.x b.y 0 (y + 1) + 1 ≡ plus₀ + 1 + b.x = omega (arith, up_plus a.x a.y b.x b.y 0 y) in
      let to : minus₀ + short (closed a b) + s.height.tall + a.x ≡ minus_of a.x a.y b.x b.y 0 (y + 1) + short (closed a b) + s.height.tall
      = omega (arith, up_minus a.x a.y b.x b.y 0 y) in
      ap (λ (j : ℕ). (n + j) % 2 ^ 64) from
      ∙ next_mod n s.at s.step (plus₀ + 1) b.x _ a.x e f.0 f.1 (omega (arith, few, tall, hx, short_low (closed a b)))
      ∙ to

  rises_on : a.y ≤ b.y → (n + (minus_of a.x a.y b.x b.y 0 (y + 1) + short (closed a b))) % 2 ^ 64 ≡ plus_of a.x a.y b.x b.y 0 (y + 1) + s.height.tall
  rises_on h =
      let f = k.rises h in
      let from : minus_of a.x a.y b.x b.y 0 (y + 1) + short (closed a b) ≡ minus₀ + short (closed a b) + a.x
      = omega (arith, up_minus a.x a.y b.x b.y 0 y) in
      let to : plus₀ + s.height.tall + b.x ≡ plus_of a.x a.y b.x b.y 0 (y + 1) + s.height.tall
      = omega (arith, up_plus a.x a.y b.x b.y 0 y) in
      ap (λ (j : ℕ). (n + j) % 2 ^ 64) from
      ∙ next_mod n s.at s.step (minus₀ + short (closed a b)) a.x _ b.x e f.0 f.1 (omega (arith, low, tall, kx))
      ∙ to

  -- a row on the edge stands with its number raised by its step
  pub side_next : Stands a b (y + 1) (record { at = n; step = s.step; height = s.height })
  side_next =
      record {
        fits = omega (arith, e);
        falls = λ h. (falls_on h, (k.falls h).1);
        rises = λ h. (rises_on h, (k.rises h).1);
        height = k.height;
      }

-- an edge's two numbers at column 0
pub edge_low : (a b : Vertex) (y : ℕ) → a.x ≤ 65535 → a.y ≤ 65535 → b.x ≤ 65535 → b.y ≤ 65535 → y ≤ 65535
    → (plus_of a.x a.y b.x b.y 0 y ≤ 12884508675) × (minus_of a.x a.y b.x b.y 0 y ≤ 12884508675)
unfolding plus_of minus_of
edge_low a b y hx hy kx ky h = (
  omega (arith, product_fits b.x y kx h, product_fits a.x b.y hx ky),
  omega (arith, product_fits b.x a.y kx hy, product_fits a.x y hx h),
)
