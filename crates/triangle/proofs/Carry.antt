-- Numbers carried along a row as 2 ^ 48 times themselves and a part: by a factor f near 2 ^ 48 / 2 D where the triangle is small, by a
-- quotient rounded up where it is not. One law, picture's `near_told`, says that both tell the number. Assumes nothing.
use Rattle.picture.specs.Draw.{carried_one}
use Rattle.std.proofs.Common.{◌≡◌, ℕ, Option, Some, None, zero, suc, ◌+◌, ◌-◌, ◌*◌, ◌/◌, ◌%◌, ◌^◌, ◌<◌, ◌≤◌, min, true, sym, refl, ap, ◌∙◌, le_of_suc-le-suc, add-zero, mul-le-mul_right, mod-lt, mod-eq_of_lt, mul_assoc, suc-mul, mul_comm, div-lt_iff_lt-mul, add-mul, mul-le-mul, lt_of_mul-lt-mul_right, mul-le-mul_left, div-add-mod', zero-mul, mul-add, le_of_mul-le-mul_right, mul_left_comm, add-one, arith}
use native.Mathlib.Nat.{lt-div-mul-add, mul-div-le}
use Rattle.picture.proofs.Near.{near_told}
use Rattle.triangle.specs.declared.Corners.{Corners}
use Rattle.triangle.specs.declared.Slopes.{Slopes}
use Rattle.triangle.specs.declared.Sum.{Sum}
use Rattle.triangle.specs.Edge.{covers, amount, area_of}
use Rattle.triangle.specs.Number.{mass_of, mixed, shade}
use Rattle.triangle.specs.Loops.{edges_at, ahead, behind, Slants, Turned, Ready, Sized, Leans, Sums, mass_by, scaled, Paces, Near, Drifts, Runs, Begins, Begun, Carries}
use Rattle.triangle.proofs.Plane.{mean_most, right_plus, right_minus}
use Rattle.triangle.proofs.Covers.{covered_ready, covered_within}
use Rattle.triangle.proofs.Sums.{sum_told}

-- ---- bare numbers

-- by a product: f is 2 ^ 48 over d, and a little more
pub told : (n d f : ℕ) → 0 < d → carried_one ≤ f * d → f * d ≤ carried_one + d → n * d < carried_one → n * f / carried_one ≡ n / d
told n d f pos least most small =
    near_told n d (n * f) pos
    (omega (arith, mul_assoc n f d, mul-le-mul_left n least))
    (omega (arith, mul_assoc n f d, mul-le-mul_left n most, mul-add n carried_one d))

-- a quotient below 65,536 by the reciprocal of an edge's height
module _ (v d f : ℕ) (pos : 0 < d) (few : d ≤ 65535) (least : carried_one ≤ f * d) (most : f * d ≤ carried_one + d) (h : v < 65536 * d) where
  over_small : v * d < carried_one
  over_small =
      let most : v ≤ 65536 * d = omega (arith, h) in
      omega (arith, mul-le-mul_right d most, mul-le-mul_left (65536 * d) few, few)

  -- the number times the reciprocal, divided by 2 ^ 48, is the quotient of the number by the height
  pub over_told : v * f / carried_one ≡ v / d
  over_told = told v d f pos least most over_small

  -- the number times the reciprocal is below 2 ^ 64
  pub over_fits : v * f < 65536 * carried_one
  over_fits =
      let q : v / d < 65536 = (div-lt_iff_lt-mul {k = d} {x = v} {y = 65536} pos).1 h in
      (div-lt_iff_lt-mul {k = carried_one} {x = v * f} {y = 65536} (omega arith)).0 (omega (arith, q, over_told))

-- ---- a part of 2 ^ 48, by two divisions

module _ (r m : ℕ) (pos : 0 < m) where
  abbrev twice : ℕ
  twice = r * 4294967296 / m * 65536 + r * 4294967296 % m * 65536 / m

  whole_of : twice * m + r * 4294967296 % m * 65536 % m ≡ r * carried_one
  whole_of =
      omega (
        arith,
        div-add-mod' (r * 4294967296) m,
        div-add-mod' (r * 4294967296 % m * 65536) m,
        add-mul (r * 4294967296 / m * 65536) (r * 4294967296 % m * 65536 / m) m,
        mul_assoc (r * 4294967296 / m) 65536 m,
        mul_left_comm (r * 4294967296 / m) 65536 m,
      )

  -- what the two divisions make, times m, is at most r times 2 ^ 48
  pub part_low : twice * m ≤ r * carried_one
  part_low = omega (arith, whole_of)

  -- and with m more it is above r times 2 ^ 48, so that it is their quotient rounded down
  pub part_high : r * carried_one < twice * m + m
  part_high = omega (arith, whole_of, mod-lt (r * 4294967296 % m * 65536) pos)

  -- the part is less than 2 ^ 48 where r is less than m
  pub part_small : r < m → twice < carried_one
  part_small h = lt_of_mul-lt-mul_right m {m = twice} {n = carried_one} (omega (arith, part_low))

-- a quotient has at most 16 bits where twice the number is at most 131,071 times the divisor
pub quotient_small : (n m : ℕ) → 0 < m → 2 * n ≤ 131071 * m → n / m ≤ 65535
quotient_small n m p h = le_of_suc-le-suc ((div-lt_iff_lt-mul {k = m} {x = n} {y = 65536} p).1 (omega arith))

-- the whole part before it
module _ (n m k : ℕ) (low : k * m ≤ n % m * carried_one) (high : n % m * carried_one < k * m + m) where
  parts : (n / m * carried_one + k) * m ≡ n / m * m * carried_one + k * m
  parts =
      omega (
        arith,
        add-mul (n / m * carried_one) k m,
        mul_assoc (n / m) carried_one m,
        mul_left_comm (n / m) carried_one m,
      )

  -- the whole part times 2 ^ 48 and the part k behind it, times m, are at most n times 2 ^ 48
  pub fixed_low : (n / m * carried_one + k) * m ≤ n * carried_one
  fixed_low = omega (arith, parts, div-add-mod' n m)

  -- and with m more they are above n times 2 ^ 48, so that they are 2 ^ 48 times n over m, rounded down
  pub fixed_high : n * carried_one < (n / m * carried_one + k) * m + m
  fixed_high = omega (arith, parts, div-add-mod' n m)

  -- they are at most 65,535.5 times 2 ^ 48 where twice n is at most 131,071 times m
  pub fixed_fits : 0 < m → 2 * n ≤ 131071 * m → n / m * carried_one + k ≤ 18446603336221196288
  fixed_fits p h = le_of_mul-le-mul_right {k = m} (omega (arith, fixed_low)) p

module _ (d f : ℕ) (few : 2 * d ≤ 65536) (most : f * (2 * d) ≤ carried_one + 2 * d) where
  unit : d * f ≤ 140737488388096
  unit = omega (arith, mul_left_comm f 2 d, mul_comm f d)

  -- the factor of a small triangle is at most 2 ^ 48 + 65,536
  pub factor_small : 0 < d → f ≤ 281474976776192
  factor_small p = omega (arith, mul-le-mul_left {m = 1} {n = 2 * d} f (omega arith))

  -- a sum of at most 131,071 times d, times the factor, is below 2 ^ 64
  pub sum_fits : (n : ℕ) → n ≤ 131071 * d → n * f < 18446744073709551616
  sum_fits n h = omega (arith, unit, mul-le-mul_right f h, mul_assoc 131071 d f)

  -- a step of at most 131,070 times d, times the factor, is below 2 ^ 64
  pub step_fits : (k : ℕ) → k ≤ 131070 * d → k * f < 18446744073709551616
  step_fits k h = omega (arith, unit, mul-le-mul_right f h, mul_assoc 131070 d f)

  -- a sum of at most 131,071 times d, times 2 d, is below 2 ^ 48, as the factor needs it to tell the quotient
  pub sum_small : (n : ℕ) → n ≤ 131071 * d → n * (2 * d) < carried_one
  sum_small n h = omega (arith, mul-le-mul {n₁ = n} {m₁ = 2 * d} {n₂ = 4294934528} {m₂ = 65536} (omega arith) few)

-- 2 ^ 48 over d, rounded down and one more, is a factor that times d is at least 2 ^ 48
pub factor_least : (d : ℕ) → 0 < d → carried_one ≤ (carried_one / d + 1) * d
factor_least d h = omega (arith, add-mul (carried_one / d) 1 d, lt-div-mul-add {a = carried_one} {b = d} h)

-- and that factor times d is at most 2 ^ 48 + d
pub factor_most : (d : ℕ) → (carried_one / d + 1) * d ≤ carried_one + d
factor_most d = omega (arith, add-mul (carried_one / d) 1 d, mul-div-le carried_one d, mul_comm d (carried_one / d))

-- 2 N + D is at most 131,071 D where the weights add up to D and no corner number is above 65,535
pub mass_most : (u v w d p q r : ℕ) → u + v + w ≡ d → p ≤ 65535 → q ≤ 65535 → r ≤ 65535 → mass_of u v w d p q r ≤ 131071 * d
mass_most u v w d p q r e hp hq hr = omega (arith, mean_most u v w d p q r e 65535 hp hq hr)

scale_up : (n m k f : ℕ) → m ≡ n + k → m * f ≡ n * f + k * f
scale_up n m k f e = ap (λ (j : ℕ). j * f) e ∙ add-mul n k f

up_mod : (n m v : ℕ) → m ≡ n + v → m < 18446744073709551616 → (n + v) % 2 ^ 64 ≡ m
up_mod n m v e h = rw (← e) (mod-eq_of_lt h)

down_mod : (n m w v : ℕ) → n ≡ m + w → m < 18446744073709551616 → (v + w) % 2 ^ 64 ≡ 0 → (n + v) % 2 ^ 64 ≡ m
down_mod n m w v e h z = omega arith

-- ---- a number added a step, modulo 2 ^ 64

run_zero : (k g : ℕ) → k < 18446744073709551616 → (k + 0 * g) % 2 ^ 64 ≡ k
run_zero k g h = rw (zero-mul, add-zero) (mod-eq_of_lt h)

run_suc : (k g j : ℕ) → (k + suc j * g) % 2 ^ 64 ≡ ((k + j * g) % 2 ^ 64 + g) % 2 ^ 64
run_suc k g j = omega (arith, suc-mul j g)

run_next : (lo j : ℕ) → lo + suc j ≡ lo + j + 1
run_next lo j = omega arith

-- ---- a step to the right

-- what a step adds to 2 N where that does not fall, and what it takes away where it does: from 2 ^ 63 on a number stands for one below 0
leans_up : {u v w p q r s : ℕ} → Slants u v w p q r s → s < 9223372036854775808 → s + 2 * behind u v w p q r ≡ 2 * ahead u v w p q r
leans_up k h = omega (arith, k.so, k.behind_low)

leans_down : {u v w p q r s : ℕ} → Slants u v w p q r s → 9223372036854775808 ≤ s → (n : ℕ) → (n + s) % 2 ^ 64 ≡ 0
    → n < 18446744073709551616 → n + 2 * ahead u v w p q r ≡ 2 * behind u v w p q r
leans_down k h n z fits = omega (arith, k.so, k.fits, k.ahead_low, k.behind_low)

module _ (t : Corners) (k : Turned t) (x y p q r : ℕ) (h : covers t x y ≡ true) (g : covers t (x + 1) y ≡ true) where
  mass_step : mass_by t p q r (x + 1) y + 2 * (p * t.c.y + q * t.a.y + r * t.b.y)
      ≡ mass_by t p q r x y + 2 * (p * t.b.y + q * t.c.y + r * t.a.y)
  mass_step =
      omega (
        arith,
        line p (amount (edges_at t x y).bc) (amount (edges_at t (x + 1) y).bc) t.b.y t.c.y
            (omega (arith, (covered_within t x y h).bc, (covered_within t (x + 1) y g).bc, right_plus t.b.x t.b.y t.c.x t.c.y x y, right_minus t.b.x t.b.y t.c.x t.c.y x y)),
        line q (amount (edges_at t x y).ca) (amount (edges_at t (x + 1) y).ca) t.c.y t.a.y
            (omega (arith, (covered_within t x y h).ca, (covered_within t (x + 1) y g).ca, right_plus t.c.x t.c.y t.a.x t.a.y x y, right_minus t.c.x t.c.y t.a.x t.a.y x y)),
        line r (amount (edges_at t x y).ab) (amount (edges_at t (x + 1) y).ab) t.a.y t.b.y
            (omega (arith, (covered_within t x y h).ab, (covered_within t (x + 1) y g).ab, right_plus t.a.x t.a.y t.b.x t.b.y x y, right_minus t.a.x t.a.y t.b.x t.b.y x y)),
      )
    where
      line : (p u v a b : ℕ) → v + b ≡ u + a → p * v + p * b ≡ p * u + p * a
      line p u v a b e = sym (mul-add p v b) ∙ ap (λ (j : ℕ). p * j) e ∙ mul-add p u a

module _ (t : Corners) (k : Turned t) (f : ℕ) (few : 2 * area_of t ≤ 65536) (most : f * (2 * area_of t) ≤ carried_one + 2 * area_of t)
    (p q r : ℕ) (hp : p ≤ 65535) (hq : q ≤ 65535) (hr : r ≤ 65535) where
  ready : (x y : ℕ) → covers t x y ≡ true → Ready t (area_of t) (edges_at t x y)
  ready x y h = covered_ready t k x y h (omega arith)

  -- at a pixel that a small triangle covers, 2 N + D is at most 131,071 times the doubled area
  pub mass_at : (x y : ℕ) → covers t x y ≡ true → mass_by t p q r x y ≤ 131071 * area_of t
  mass_at x y h = mass_most _ _ _ _ p q r (ready x y h).whole hp hq hr

  -- what a pixel to the right adds, and what it makes
  module _ (right : ℕ) (lean : Leans t p q r right) where
    -- where 2 N does not fall to the right, what a pixel adds to it (at most 131,070 D) times the factor is what is added to the scaled sum
    pub paces_up : right < 9223372036854775808 → Paces t f p q r (min right (131070 * area_of t) * f)
    unfolding scaled
    paces_up l =
        record {
          go = λ x y h g.
              let a = mass_step t k x y p q r h g in
              let b = mass_at x y h in
              let c = mass_at (x + 1) y g in
              let e : mass_by t p q r (x + 1) y ≡ mass_by t p q r x y + min right (131070 * area_of t) = omega (arith, leans_up lean l) in
              up_mod _ _ _ (scale_up (mass_by t p q r x y) _ (min right (131070 * area_of t)) f e) (sum_fits (area_of t) f few most _ c);
        }

    -- where 2 N does not rise to the right, what is added is what makes 0 modulo 2 ^ 64 with the pixel's loss (at most 131,070 D) times the factor
    pub paces_down : (v back : ℕ) → back < 18446744073709551616 → 9223372036854775808 ≤ right → (back + right) % 2 ^ 64 ≡ 0 → (v + min back (131070 * area_of t) * f) % 2 ^ 64 ≡ 0 → Paces t f p q r v
    unfolding scaled
    paces_down v back low l z n =
        record {
          go = λ x y h g.
              let a = mass_step t k x y p q r h g in
              let b = mass_at x y h in
              let c = mass_at (x + 1) y g in
              let e : mass_by t p q r x y ≡ mass_by t p q r (x + 1) y + min back (131070 * area_of t) = omega (arith, leans_down lean l back z low) in
              down_mod _ _ _ v (scale_up (mass_by t p q r (x + 1) y) _ (min back (131070 * area_of t)) f e) (sum_fits (area_of t) f few most _ c) n;
        }

  -- at a covered pixel the scaled sum, divided by 2 ^ 48, is the number mixed by the edges' amounts
  pub number : carried_one ≤ f * (2 * area_of t) → (x y : ℕ) → covers t x y ≡ true
      → scaled t f p q r x y / carried_one ≡ mixed (amount (edges_at t x y).bc) (amount (edges_at t x y).ca) (amount (edges_at t x y).ab) (area_of t) p q r
  unfolding scaled mixed
  number least x y h = told _ (2 * area_of t) f (omega (arith, (ready x y h).some)) least most (sum_small (area_of t) f few most _ (mass_at x y h))

-- ---- a long sum, one pixel to the right

-- the sum m is n and k; v is 2 ^ 48 times k over d, rounded
module _ (n m k d a b v : ℕ) (pos : 0 < d) (fits : 2 * m ≤ 131071 * d) (low : n * carried_one ≤ a * d) (high : a * d ≤ n * carried_one + b * d)
    (small : b ≤ 65535) where
  rise_low : m ≡ n + k → k * carried_one < v * d + d → m * carried_one ≤ (a + (v + 1)) * d
  rise_low e h = omega (arith, add-mul a (v + 1) d, add-mul v 1 d)

  rise_high : m ≡ n + k → v * d ≤ k * carried_one → (a + (v + 1)) * d ≤ m * carried_one + (b + 1) * d
  rise_high e h = omega (arith, add-mul a (v + 1) d, add-mul v 1 d, add-mul b 1 d)

  top : (j : ℕ) → j * d ≤ m * carried_one + (b + 1) * d → j < 18446744073709551616
  top j h =
      let l : j ≤ 18446603336221196288 + (b + 1) = le_of_mul-le-mul_right {k = d} (omega (arith, add-mul 18446603336221196288 (b + 1) d)) pos in
      omega arith

  fall_le : n ≡ m + k → v * d ≤ k * carried_one → v ≤ a
  fall_le e h = le_of_mul-le-mul_right {k = d} (omega arith) pos

  fall_split : v ≤ a → a * d ≡ (a - v) * d + v * d
  fall_split l = ap (λ (j : ℕ). j * d) (omega arith) ∙ add-mul (a - v) v d

  fall_low : n ≡ m + k → v * d ≤ k * carried_one → m * carried_one ≤ (a - v) * d
  fall_low e h = omega (arith, fall_split (fall_le e h))

  fall_high : n ≡ m + k → v * d ≤ k * carried_one → k * carried_one < v * d + d → (a - v) * d ≤ m * carried_one + (b + 1) * d
  fall_high e h l = omega (arith, fall_split (fall_le e h), add-mul b 1 d)

module _ (t : Corners) (k : Turned t) (fits : area_of t ≤ 2147483648) (p q r : ℕ) (hp : p ≤ 65535) (hq : q ≤ 65535) (hr : r ≤ 65535) where
  ready_long : (x y : ℕ) → covers t x y ≡ true → Ready t (area_of t) (edges_at t x y)
  ready_long x y h = covered_ready t k x y h (omega arith)

  mass_long : (x y : ℕ) → covers t x y ≡ true → mass_by t p q r x y ≤ 131071 * area_of t
  mass_long x y h = mass_most _ _ _ _ p q r (ready_long x y h).whole hp hq hr

  module _ (right : ℕ) (lean : Leans t p q r right) where
    -- where 2 N does not fall to the right, 2 ^ 48 times what a pixel adds over 2 D, rounded down and one more, carries a long sum on
    pub drifts_up : (v : ℕ) → right < 9223372036854775808
        → v * (2 * area_of t) ≤ min right (131070 * area_of t) * carried_one
        → min right (131070 * area_of t) * carried_one < v * (2 * area_of t) + 2 * area_of t
        → Drifts t p q r (v + 1)
    drifts_up v up lo hi =
        record {
          go = λ x y b a h g s n.
              let z : 0 < 2 * area_of t = omega (arith, (ready_long x y h).some) in
              let c = mass_long x y h in
              let e = mass_long (x + 1) y g in
              let j : mass_by t p q r (x + 1) y ≡ mass_by t p q r x y + min right (131070 * area_of t) = omega (arith, leans_up lean up, mass_step t k x y p q r h g) in
              let m : 2 * mass_by t p q r (x + 1) y ≤ 131071 * (2 * area_of t) = omega (arith, e) in
              let u = rise_low _ _ (min right (131070 * area_of t)) (2 * area_of t) a b v z m n.low n.high s j hi in
              let w = rise_high _ _ (min right (131070 * area_of t)) (2 * area_of t) a b v z m n.low n.high s j lo in
              let f = top _ _ (min right (131070 * area_of t)) (2 * area_of t) a b v z m n.low n.high s _ w in
              rw (mod-eq_of_lt f) (record { low = u; high = w });
        }

    -- where 2 N does not rise to the right, a number that takes away 2 ^ 48 times the pixel's loss over 2 D, rounded down, carries a long sum on
    pub drifts_down : (v g back : ℕ) → back < 18446744073709551616 → 9223372036854775808 ≤ right → (back + right) % 2 ^ 64 ≡ 0 → (g + v) % 2 ^ 64 ≡ 0
        → v * (2 * area_of t) ≤ min back (131070 * area_of t) * carried_one
        → min back (131070 * area_of t) * carried_one < v * (2 * area_of t) + 2 * area_of t
        → Drifts t p q r g
    drifts_down v g₀ back few down z₀ nil lo hi =
        record {
          go = λ x y b a h g s n.
              let z : 0 < 2 * area_of t = omega (arith, (ready_long x y h).some) in
              let c = mass_long x y h in
              let e = mass_long (x + 1) y g in
              let j : mass_by t p q r x y ≡ mass_by t p q r (x + 1) y + min back (131070 * area_of t) = omega (arith, leans_down lean down back z₀ few, mass_step t k x y p q r h g) in
              let m : 2 * mass_by t p q r (x + 1) y ≤ 131071 * (2 * area_of t) = omega (arith, e) in
              let i = fall_le _ _ (min back (131070 * area_of t)) (2 * area_of t) a b v z m n.low n.high s j lo in
              let u = fall_low _ _ (min back (131070 * area_of t)) (2 * area_of t) a b v z m n.low n.high s j lo in
              let w = fall_high _ _ (min back (131070 * area_of t)) (2 * area_of t) a b v z m n.low n.high s j lo hi in
              let f = top _ _ (min back (131070 * area_of t)) (2 * area_of t) a b v z m n.low n.high s _ w in
              rw (down_mod a (a - v) v g₀ (omega (arith, i)) f nil) (record { low = u; high = w });
        }

  number_long : (x y b a : ℕ) → covers t x y ≡ true → b ≤ 65535 → Near t p q r x y b a → a / carried_one ≡ shade t p q r x y
  unfolding shade mixed
  number_long x y b a h s n =
      near_told _ (2 * area_of t) a (omega (arith, (ready_long x y h).some)) n.low
      (omega (arith, n.high, mul-le-mul {n₁ = b} {m₁ = 2 * area_of t} {n₂ = 65535} {m₂ = 4294967296} s (omega arith)))

  -- ---- the numbers of a row

  -- 2 ^ 48 times the number at lo, or at most 1 more, carried on by a drift tells the number of each covered column from lo to hi
  pub runs_long : (lo hi y a g : ℕ) → ((j : ℕ) → lo + j < hi → covers t (lo + j) y ≡ true) → hi ≤ 65535 → a < 18446744073709551616
      → Near t p q r lo y 1 a → Drifts t p q r g → Runs t p q r lo hi y a g
  runs_long lo hi y a g cov wide low n h = record { tells = λ j l. number_long (lo + j) y (j + 1) _ (cov j l) (omega arith) (at j l) }
    where
      at : (j : ℕ) → lo + j < hi → Near t p q r (lo + j) y (j + 1) ((a + j * g) % 2 ^ 64)
      at zero l = rw (run_zero a g low, add-zero lo) n
      at (suc j) l =
          rw (run_suc a g j, run_next lo j, ← add-one j)
          (h.go (lo + j) y (j + 1) _ (cov j (omega arith)) (rw (run_next lo j) at (cov (suc j) l)) (omega arith) (at j (omega arith)))

-- the scaled sum of a small triangle at lo, with its pace added a pixel, tells the number of each covered column from lo to hi
pub runs_short : (t : Corners) (k : Turned t) (f : ℕ) (few : 2 * area_of t ≤ 65536) (least : carried_one ≤ f * (2 * area_of t)) (most : f * (2 * area_of t) ≤ carried_one + 2 * area_of t)
    (p q r : ℕ) (hp : p ≤ 65535) (hq : q ≤ 65535) (hr : r ≤ 65535) (lo hi y a g : ℕ)
    → ((j : ℕ) → lo + j < hi → covers t (lo + j) y ≡ true) → a < 18446744073709551616
    → a ≡ scaled t f p q r lo y → Paces t f p q r g → Runs t p q r lo hi y a g
unfolding shade
runs_short t k f few least most p q r hp hq hr lo hi y a g cov low n h =
    record { tells = λ j l. ap (λ (n : ℕ). n / carried_one) (at j l) ∙ number t k f few most p q r hp hq hr least (lo + j) y (cov j l) }
  where
    at : (j : ℕ) → lo + j < hi → (a + j * g) % 2 ^ 64 ≡ scaled t f p q r (lo + j) y
    at zero l = rw (run_zero a g low, add-zero lo) n
    at (suc j) l =
        rw (run_suc a g j, run_next lo j, at j (omega arith)) (h.go (lo + j) y (cov j (omega arith)) (rw (run_next lo j) at (cov (suc j) l)))

-- ---- either way

-- a sum that is begun by the factor or by a quotient, and carried on in the same way, tells the number of each covered column from lo to hi
pub runs_of : (t : Corners) → Turned t → area_of t ≤ 2147483648 → (p q r : ℕ) → p ≤ 65535 → q ≤ 65535 → r ≤ 65535 → (g : Slopes) (add lo hi y a d n : ℕ)
    → ((f : ℕ) → g.factor ≡ Some f → (2 * area_of t ≤ 65536) × (carried_one ≤ f * (2 * area_of t)) × (f * (2 * area_of t) ≤ carried_one + 2 * area_of t) × (Paces t f p q r add))
    → (g.factor ≡ None → Drifts t p q r add)
    → ((j : ℕ) → lo + j < hi → covers t (lo + j) y ≡ true) → hi ≤ 65535 → a < 18446744073709551616
    → d ≡ area_of t → n ≡ mass_by t p q r lo y → Begun d g n a → Runs t p q r lo hi y a add
unfolding scaled
runs_of t k fits p q r hp hq hr g add lo hi y a d n s l cov wide low hd hn b = go g.factor refl
  where
    go : (factor : Option ℕ) → g.factor ≡ factor → Runs t p q r lo hi y a add
    go (Some f) e =
        let m = s f e in
        runs_short t k f m.0 m.1 m.2 p q r hp hq hr lo hi y a add cov low (b.short f e ∙ ap (λ (k : ℕ). k * f) hn) m.3
    go None e =
        let m = rw (hd, hn) at (b.long e) in
        runs_long t k fits p q r hp hq hr lo hi y a add cov wide low (record { low = m.0; high = m.1 }) (l e)

-- ---- a column's sum

-- what a row's sum leads to at a covered column is 2 N + D, and that is at most 131,071 times the doubled area
pub column_told : (t : Corners) → Turned t → area_of t ≤ 2147483648 → (p q r : ℕ) → p ≤ 65535 → q ≤ 65535 → r ≤ 65535 → (y : ℕ) (s : Sum) → Sums t p q r y s
    → (x : ℕ) → covers t x y ≡ true → (n : ℕ) → n ≡ (s.at + x * s.right) % 2 ^ 64
    → (n ≡ mass_by t p q r x y) × (n ≤ 131071 * area_of t)
column_told t k fits p q r hp hq hr y s sums x h n e =
    let most : mass_by t p q r x y ≤ 131071 * area_of t = mass_long t k fits p q r hp hq hr x y h in
    let is : n ≡ mass_by t p q r x y = sum_told t p q r y s sums x h n e (omega arith) in
    (is, omega (arith, is, most))

-- and it can be carried
pub column_begins : (t : Corners) (d : ℕ) → Sized t d → (g : Slopes) → Carries t g → (n : ℕ) → n ≤ 131071 * area_of t → Begins d g n
column_begins t d k g c n low =
    record {
      some = omega (arith, k.area, k.turned.turns);
      fits = omega (arith, k.area, c.fits);
      low = omega (arith, k.area);
      factor = λ f e. let m = c.short f e in (omega (arith, k.area, m.few), rw k.area m.most);
    }
