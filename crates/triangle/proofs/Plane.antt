-- An edge's expression and the numbers mixed by three of them, over bare numbers. Assumes nothing.
use Rattle.std.proofs.Common.{◌≡◌, ℕ, suc, ◌+◌, ◌-◌, ◌*◌, ◌/◌, ◌<◌, ◌≤◌, min, max, Bool, true, false, ltb, sym, refl, ap, ◌∙◌, le_of_suc-le-suc, le_of_lt, mul-le-mul_right, mul_assoc, suc-mul, mul_comm, div-lt_iff_lt-mul, add-mul, add-sub_of_le, mul-le-mul, mul-zero, le-div_iff_mul-le, mul-add, le_of_mul-le-mul_right, mul_left_comm, arith, ltb-false, ltb-true}
use Rattle.triangle.specs.Edge.{plus_of, minus_of}
use Rattle.triangle.specs.Number.{mixed}

-- the three edges' expressions add up to the doubled area
pub whole : (ax ay bx by cx cy x y : ℕ) →
    plus_of bx by cx cy x y + plus_of cx cy ax ay x y + plus_of ax ay bx by x y + minus_of ax ay bx by cx cy
    ≡ minus_of bx by cx cy x y + minus_of cx cy ax ay x y + minus_of ax ay bx by x y + plus_of ax ay bx by cx cy
unfolding plus_of minus_of
whole ax ay bx by cx cy x y = omega (arith, mul_comm ay cx, mul_comm by cx)

-- the corners, weighted by the edges opposite, add up to the pixel's place
pub centre : (ax ay bx by cx cy x y : ℕ) →
    plus_of bx by cx cy x y * ax + plus_of cx cy ax ay x y * bx + plus_of ax ay bx by x y * cx + minus_of ax ay bx by cx cy * x
    ≡ minus_of bx by cx cy x y * ax + minus_of cx cy ax ay x y * bx + minus_of ax ay bx by x y * cx + plus_of ax ay bx by cx cy * x
unfolding plus_of minus_of
centre ax ay bx by cx cy x y = simp (add-mul, mul_assoc, mul_comm, mul_left_comm) (omega arith)

-- the product of two 16-bit numbers is at most the square of 65,535
pub product_fits : (a b : ℕ) → a ≤ 65535 → b ≤ 65535 → a * b ≤ 4294836225
product_fits a b ha hb = mul-le-mul {n₁ = a} {m₁ = b} {n₂ = 65535} {m₂ = 65535} ha hb

module _ (u v w d p q r : ℕ) (e : u + v + w ≡ d) where
  -- corner numbers that are all at least lo, times weights that add up to d, make at least lo times d
  pub mean_least : (lo : ℕ) → lo ≤ p → lo ≤ q → lo ≤ r → lo * d ≤ p * u + q * v + r * w
  mean_least lo hp hq hr =
      omega (
        arith,
        mul-le-mul_right u hp,
        mul-le-mul_right v hq,
        mul-le-mul_right w hr,
        ap (λ (k : ℕ). lo * k) e,
        mul-add lo (u + v) w,
        mul-add lo u v,
      )

  -- corner numbers that are all at most hi, times weights that add up to d, make at most hi times d
  pub mean_most : (hi : ℕ) → p ≤ hi → q ≤ hi → r ≤ hi → p * u + q * v + r * w ≤ hi * d
  mean_most hi hp hq hr =
      omega (
        arith,
        mul-le-mul_right u hp,
        mul-le-mul_right v hq,
        mul-le-mul_right w hr,
        ap (λ (k : ℕ). hi * k) e,
        mul-add hi (u + v) w,
        mul-add hi u v,
      )

  -- at least the least
  pub mixed_least : 0 < d → (lo : ℕ) → lo ≤ p → lo ≤ q → lo ≤ r → lo ≤ mixed u v w d p q r
  unfolding mixed
  mixed_least pos lo hp hq hr =
      (le-div_iff_mul-le {k = 2 * d} {x = lo} {y = 2 * (p * u + q * v + r * w) + d} (omega arith)).1
      (omega (arith, mean_least lo hp hq hr, mul_left_comm lo 2 d))

  -- at most the greatest
  pub mixed_most : 0 < d → (hi : ℕ) → p ≤ hi → q ≤ hi → r ≤ hi → mixed u v w d p q r ≤ hi
  unfolding mixed
  mixed_most pos hi hp hq hr =
      le_of_suc-le-suc ((div-lt_iff_lt-mul {k = 2 * d} {x = 2 * (p * u + q * v + r * w) + d} {y = suc hi} (omega arith)).1
      (omega (arith, mean_most hi hp hq hr, suc-mul hi (2 * d), mul_left_comm hi 2 d)))

-- ---- a pixel that no edge leaves outside lies in the corners' box

-- mirrored at the diagonal, an edge adds what the edge from its second end to its first adds
pub flip_plus : (ax ay bx by x y : ℕ) → plus_of ay ax by bx y x ≡ plus_of bx by ax ay x y
unfolding plus_of
flip_plus ax ay bx by x y = omega (arith, mul_comm ay bx)

-- and it takes away what that edge takes away
pub flip_minus : (ax ay bx by x y : ℕ) → minus_of ay ax by bx y x ≡ minus_of bx by ax ay x y
unfolding minus_of
flip_minus ax ay bx by x y = omega (arith, mul_comm by ax)

-- the doubled area, from the next edge
pub next_plus : (ax ay bx by cx cy : ℕ) → plus_of cx cy ax ay bx by ≡ plus_of ax ay bx by cx cy
unfolding plus_of
next_plus ax ay bx by cx cy = omega (arith, mul_comm cx ay, mul_comm cy bx)

-- what is taken away of the doubled area is the same from the next edge
pub next_minus : (ax ay bx by cx cy : ℕ) → minus_of cx cy ax ay bx by ≡ minus_of ax ay bx by cx cy
unfolding minus_of
next_minus ax ay bx by cx cy = omega (arith, mul_comm cx by, mul_comm ay bx)

-- the other turning sense
pub turn_plus : (ax ay bx by cx cy : ℕ) → plus_of ax ay cx cy bx by ≡ minus_of ax ay bx by cx cy
unfolding plus_of minus_of
turn_plus ax ay bx by cx cy = omega (arith, mul_comm cx by, mul_comm ay bx)

-- with two corners exchanged, what is taken away of the doubled area is what was added
pub turn_minus : (ax ay bx by cx cy : ℕ) → minus_of ax ay cx cy bx by ≡ plus_of ax ay bx by cx cy
unfolding plus_of minus_of
turn_minus ax ay bx by cx cy = omega (arith, mul_comm cx ay, mul_comm cy bx)

module _ (ax ay bx by cx cy x y : ℕ)
    (turns : minus_of ax ay bx by cx cy < plus_of ax ay bx by cx cy)
    (ab : minus_of ax ay bx by x y ≤ plus_of ax ay bx by x y)
    (bc : minus_of bx by cx cy x y ≤ plus_of bx by cx cy x y)
    (ca : minus_of cx cy ax ay x y ≤ plus_of cx cy ax ay x y) where
  -- at a pixel that no edge leaves outside, the amounts of the three edges add up to the doubled area
  pub weights : (plus_of bx by cx cy x y - minus_of bx by cx cy x y) + (plus_of cx cy ax ay x y - minus_of cx cy ax ay x y)
      + (plus_of ax ay bx by x y - minus_of ax ay bx by x y) ≡ plus_of ax ay bx by cx cy - minus_of ax ay bx by cx cy
  weights = omega (arith, whole ax ay bx by cx cy x y)

  balance : ax * (plus_of bx by cx cy x y - minus_of bx by cx cy x y) + bx * (plus_of cx cy ax ay x y - minus_of cx cy ax ay x y)
      + cx * (plus_of ax ay bx by x y - minus_of ax ay bx by x y) ≡ x * (plus_of ax ay bx by cx cy - minus_of ax ay bx by cx cy)
  balance =
      omega (
        arith,
        centre ax ay bx by cx cy x y,
        split ax bc,
        split bx ca,
        split cx ab,
        split x (le_of_lt turns),
      )
    where
      split : (k : ℕ) {p m : ℕ} → m ≤ p → p * k ≡ m * k + k * (p - m)
      split k {p} {m} h = ap (λ (q : ℕ). q * k) (sym (add-sub_of_le h)) ∙ add-mul m (p - m) k ∙ ap (λ (q : ℕ). m * k + q) (mul_comm (p - m) k)

  box_least : (lo : ℕ) → lo ≤ ax → lo ≤ bx → lo ≤ cx → lo ≤ x
  box_least lo ha hb hc =
      le_of_mul-le-mul_right {k = plus_of ax ay bx by cx cy - minus_of ax ay bx by cx cy}
      (rw balance at (mean_least _ _ _ _ ax bx cx weights lo ha hb hc))
      (omega arith)

  box_most : (hi : ℕ) → ax ≤ hi → bx ≤ hi → cx ≤ hi → x ≤ hi
  box_most hi ha hb hc =
      le_of_mul-le-mul_right {k = plus_of ax ay bx by cx cy - minus_of ax ay bx by cx cy}
      (rw balance at (mean_most _ _ _ _ ax bx cx weights hi ha hb hc))
      (omega arith)

  -- such a pixel lies between the corners' least and greatest column
  pub across : (min ax (min bx cx) ≤ x) × (x ≤ max ax (max bx cx))
  across = (
    box_least (min ax (min bx cx)) (omega arith) (omega arith) (omega arith),
    box_most (max ax (max bx cx)) (omega arith) (omega arith) (omega arith),
  )

-- the same for y: the corners mirrored at the diagonal, in the other order
pub upward : (ax ay bx by cx cy x y : ℕ)
    → minus_of ax ay bx by cx cy < plus_of ax ay bx by cx cy
    → minus_of ax ay bx by x y ≤ plus_of ax ay bx by x y
    → minus_of bx by cx cy x y ≤ plus_of bx by cx cy x y
    → minus_of cx cy ax ay x y ≤ plus_of cx cy ax ay x y
    → (min ay (min cy by) ≤ y) × (y ≤ max ay (max cy by))
upward ax ay bx by cx cy x y turns ab bc ca =
    across ay ax cy cx by bx y x
    (rw (flip_plus ax ay cx cy bx by, flip_minus ax ay cx cy bx by, next_plus, next_minus) turns)
    (rw (flip_plus ax ay cx cy x y, flip_minus ax ay cx cy x y) ca)
    (rw (flip_plus cx cy bx by x y, flip_minus cx cy bx by x y) bc)
    (rw (flip_plus bx by ax ay x y, flip_minus bx by ax ay x y) ab)

-- ---- one pixel to the right

-- a pixel to the right adds the y of the edge's first end to what is added
pub right_plus : (ax ay bx by x y : ℕ) → plus_of ax ay bx by (x + 1) y ≡ plus_of ax ay bx by x y + ay
unfolding plus_of
right_plus ax ay bx by x y = omega (arith, mul-add ay x 1)

-- and it adds the y of the second end to what is taken away
pub right_minus : (ax ay bx by x y : ℕ) → minus_of ax ay bx by (x + 1) y ≡ minus_of ax ay bx by x y + by
unfolding minus_of
right_minus ax ay bx by x y = omega (arith, mul-add by x 1)

-- ---- one row up

-- a row up adds the x of the edge's second end to what is added
pub up_plus : (ax ay bx by x y : ℕ) → plus_of ax ay bx by x (y + 1) ≡ plus_of ax ay bx by x y + bx
unfolding plus_of
up_plus ax ay bx by x y = omega (arith, mul-add bx y 1)

-- and it adds the x of the first end to what is taken away
pub up_minus : (ax ay bx by x y : ℕ) → minus_of ax ay bx by x (y + 1) ≡ minus_of ax ay bx by x y + ax
unfolding minus_of
up_minus ax ay bx by x y = omega (arith, mul-add ax y 1)

-- ---- the columns that an edge keeps of a row

-- what is added at column x is what is added at column 0 and x times the y of the first end
pub plus_from : (ax ay bx by x y : ℕ) → plus_of ax ay bx by x y ≡ plus_of ax ay bx by 0 y + ay * x
unfolding plus_of
plus_from ax ay bx by x y = omega (arith, mul-zero ay)

-- what is taken away at column x is what is taken away at column 0 and x times the y of the second end
pub minus_from : (ax ay bx by x y : ℕ) → minus_of ax ay bx by x y ≡ minus_of ax ay bx by 0 y + by * x
unfolding minus_of
minus_from ax ay bx by x y = omega (arith, mul-zero by)

-- k / s + 1 is the first x whose x * s is above k
below : (x k s : ℕ) → 0 < s → x < k / s + 1 → x * s ≤ k
below x k s p h = (le-div_iff_mul-le {k = s} {x = x} {y = k} p).0 (omega arith)

above : (x k s : ℕ) → 0 < s → k / s + 1 ≤ x → k < x * s
above x k s p h = (div-lt_iff_lt-mul {k = s} {x = k} {y = x} p).0 (omega arith)

more : (a b x : ℕ) → b < a → a * x ≡ b * x + x * (a - b)
more a b x h = ap (λ (k : ℕ). k * x) (sym (add-sub_of_le (le_of_lt h))) ∙ add-mul b (a - b) x ∙ ap (λ (k : ℕ). b * x + k) (mul_comm (a - b) x)

module _ (p m a b x : ℕ) (h : b < a) (l : p < m) where
  -- an edge that falls, and leaves column 0 outside, keeps the columns from one past the quotient on
  pub first_in : (m - p - 1) / (a - b) + 1 ≤ x → m + b * x ≤ p + a * x
  first_in g = omega (arith, more a b x h, above x (m - p - 1) (a - b) (omega arith) g)

  -- and it keeps no column before that
  pub first_out : x < (m - p - 1) / (a - b) + 1 → m + b * x ≤ p + a * x → ⊥
  first_out g k = omega (arith, more a b x h, below x (m - p - 1) (a - b) (omega arith) g)

module _ (p m a b x : ℕ) (h : a < b) (l : m ≤ p) where
  -- an edge that rises, and keeps column 0, keeps the columns up to the quotient
  pub end_in : x < (p - m) / (b - a) + 1 → m + b * x ≤ p + a * x
  end_in g = omega (arith, more b a x h, below x (p - m) (b - a) (omega arith) g)

  -- and it keeps no column past that
  pub end_out : (p - m) / (b - a) + 1 ≤ x → m + b * x ≤ p + a * x → ⊥
  end_out g k = omega (arith, more b a x h, above x (p - m) (b - a) (omega arith) g)

-- the greater of two numbers is at most x where both are
pub max_le : (a b x : ℕ) → a ≤ x → b ≤ x → max a b ≤ x
max_le a b x h k = omega arith

-- where the greater of two numbers is at most x, the second is
pub max_le_r : (a b x : ℕ) → max a b ≤ x → b ≤ x
max_le_r a b x h = omega arith

-- a number below two others is below the lesser of them
pub lt_min : (a b x : ℕ) → x < a → x < b → x < min a b
lt_min a b x h k = omega arith

-- a number below the lesser of two is below the second
pub lt_min_r : (a b x : ℕ) → x < min a b → x < b
lt_min_r a b x h = omega arith

-- a number that is not below f is at least f
pub le_of_not : {f x : ℕ} → (x < f → ⊥) → f ≤ x
le_of_not {f} {x} h = go (ltb x f) refl
  where
    go : (b : Bool) → ltb x f ≡ b → f ≤ x
    go true q = absurd (h (ltb-true _ _ q))
    go false q = ltb-false _ _ q

-- a number that is not at least f is below f
pub lt_of_not : {f x : ℕ} → (f ≤ x → ⊥) → x < f
lt_of_not {f} {x} h = go (ltb x f) refl
  where
    go : (b : Bool) → ltb x f ≡ b → x < f
    go true q = ltb-true _ _ q
    go false q = absurd (h (ltb-false _ _ q))
