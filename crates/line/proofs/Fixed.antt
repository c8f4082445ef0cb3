-- Why what is carried along a segment tells its numbers. With V what is carried but for the half, V times n is 2 ^ 48 times the sum
-- (n−k)·first + k·second, and less than n more for each step, since what a step adds is rounded up: far less than 2 ^ 48, so that the quotient
-- is the same. Assumes nothing.
use Rattle.std.proofs.Common.{◌≡◌, ℕ, ◌+◌, ◌-◌, ◌*◌, ◌/◌, ◌%◌, ◌<◌, ◌≤◌, sym, ap, ◌∙◌, mul-le-mul_right, mod-lt, mod-eq_of_lt, mul_assoc, mul_comm, div-lt_iff_lt-mul, add-mul, mul-le-mul, mul-le-mul_left, div-add-mod', mul-add, sub-add_cancel, mul_left_comm, arith, ne_eqb}
use lib.Arith.{digits_mod}
use Rattle.std.specs.Int.{div_ceil}
use Rattle.std.proofs.lemmas.Grind.{div_ceil_times}
use Rattle.picture.specs.declared.Carried.{Carried}
use Rattle.picture.specs.Draw.{carried_one, carried_to}
use Rattle.picture.proofs.Near.{near_told}
use Rattle.line.specs.Segment.{number_at}
use Rattle.line.specs.Walk.{Tells}
use Rattle.line.proofs.Rounding.{number_le}

-- what is carried, as a number and what a step adds
abbrev pub carried_by : ℕ → ℕ → Carried
carried_by first add = record { first = first; add = add }

-- a mean rounded to the nearest, from a number near it
nearest : (n s v : ℕ) → 0 < n → s * carried_one ≤ v * n → v * n ≤ s * carried_one + 4294836225
    → (v + 140737488355328) / carried_one ≡ (2 * s + n) / (2 * n)
nearest n s v p low high =
    near_told (2 * s + n) (2 * n) (v + 140737488355328) (omega arith)
    (omega (arith, add-mul v 140737488355328 (2 * n), mul_left_comm v 2 n))
    (omega (arith, add-mul v 140737488355328 (2 * n), mul_left_comm v 2 n))

module _ (n k first second : ℕ) (h : k ≤ n) (p : 0 < n) (u : n ≤ 65535) (f : first ≤ 65535) (s : second ≤ 65535) where
  abbrev sum : ℕ
  sum = (n - k) * first + k * second

  -- what n steps' roundings come to
  few : k * (n - 1) ≤ 4294836225
  few = mul-le-mul {n₁ = k} {m₁ = n - 1} {n₂ = 65535} {m₂ = 65535} (omega arith) (omega arith)

  split : n * first ≡ (n - k) * first + k * first
  split = ap (λ (x : ℕ). x * first) (sym (sub-add_cancel h)) ∙ add-mul (n - k) k first

  -- the number by what is carried
  number_near : (v : ℕ) → sum * carried_one ≤ v * n → v * n ≤ sum * carried_one + 4294836225
      → (v + 140737488355328) / carried_one ≡ number_at n k first second
  unfolding number_at
  number_near v low high = rw (ne_eqb n 0 (λ e. omega arith)) (nearest n sum v p low high)

  -- so that it fits a word
  fits : (v : ℕ) → (v + 140737488355328) / carried_one ≡ number_at n k first second → v + 140737488355328 < 18446744073709551616
  fits v e =
      let few : (v + 140737488355328) / carried_one < 65536 = omega (arith, e, number_le n k first second 65535 h f s) in
      (div-lt_iff_lt-mul {k = carried_one} {x = v + 140737488355328} {y = 65536} (omega arith)).0 few

  -- ---- rising: what a step adds is rounded up

  module _ (g : ℕ) (l : first ≤ second) (low : (second - first) * carried_one ≤ g * n) (high : g * n ≤ (second - first) * carried_one + (n - 1)) where
    rise_sum : sum ≡ n * first + k * (second - first)
    rise_sum = omega (arith, split, mul-add k first (second - first), ap (λ (x : ℕ). k * x) (sub-add_cancel l), ap (λ (x : ℕ). k * x) (risen))
      where
        risen : first + (second - first) ≡ second
        risen = omega arith

    rise_times : (first * carried_one + k * g) * n ≡ n * first * carried_one + k * (g * n)
    rise_times = omega (arith, add-mul (first * carried_one) (k * g) n, mul_assoc first carried_one n, mul_left_comm first carried_one n, mul_comm first n, mul_assoc k g n)

    rise_near : (first * carried_one + k * g + 140737488355328) / carried_one ≡ number_at n k first second
    rise_near =
        number_near (first * carried_one + k * g)
        (omega (arith, rise_sum, rise_times, mul-le-mul_left k low, mul_assoc k (second - first) carried_one))
        (omega (arith, rise_sum, rise_times, mul-le-mul_left k high, mul-add k ((second - first) * carried_one) (n - 1), mul_assoc k (second - first) carried_one, few))

    -- so between numbers that rise, what is carried from the first number and one half on tells the number of step k
    pub rise_told : carried_to (carried_by (first * carried_one + 140737488355328) g) k ≡ number_at n k first second
    unfolding carried_to
    rise_told =
        let e : first * carried_one + 140737488355328 + k * g ≡ first * carried_one + k * g + 140737488355328 = omega arith in
        rw (e, mod-eq_of_lt {m = 18446744073709551616} (fits (first * carried_one + k * g) rise_near)) rise_near

  -- ---- falling: what a step takes is rounded down, and what it adds is that below 2 ^ 64

  module _ (q g : ℕ) (l : second < first) (high : q * n ≤ (first - second) * carried_one) (low : (first - second) * carried_one ≤ q * n + (n - 1)) (wraps : (g + q) % 18446744073709551616 ≡ 0) where
    fall_sum : sum + k * (first - second) ≡ n * first
    fall_sum = omega (arith, split, mul-add k second (first - second), ap (λ (x : ℕ). k * x) fallen)
      where
        fallen : second + (first - second) ≡ first
        fallen = omega arith

    -- all that is taken is there
    fall_le : k * q ≤ first * carried_one
    fall_le = omega (arith, mul-le-mul_right q h, mul_comm n q)

    abbrev v : ℕ
    v = first * carried_one - k * q

    fall_times : v * n + k * (q * n) ≡ n * first * carried_one
    fall_times =
        let e : v + k * q ≡ first * carried_one = sub-add_cancel fall_le in
        omega (arith, add-mul v (k * q) n, ap (λ (x : ℕ). x * n) e, mul_assoc first carried_one n, mul_left_comm first carried_one n, mul_comm first n, mul_assoc k q n)

    fall_near : (v + 140737488355328) / carried_one ≡ number_at n k first second
    fall_near =
        number_near v
        (omega (arith, fall_sum, fall_times, mul-le-mul_left k high, mul_assoc k (first - second) carried_one))
        (omega (arith, fall_sum, fall_times, mul-le-mul_left k low, mul-add k (q * n) (n - 1), mul_assoc k (first - second) carried_one, few))

    -- so between numbers that fall, what is carried from the first number and one half on tells the number of step k
    pub fall_told : carried_to (carried_by (first * carried_one + 140737488355328) g) k ≡ number_at n k first second
    unfolding carried_to
    fall_told =
        let t : (g + q) / 18446744073709551616 * 18446744073709551616 ≡ g + q = omega (arith, div-add-mod' (g + q) 18446744073709551616) in
        let e : first * carried_one + 140737488355328 + k * g ≡ k * ((g + q) / 18446744073709551616) * 18446744073709551616 + (v + 140737488355328) =
        omega (arith, fall_le, mul_assoc k ((g + q) / 18446744073709551616) 18446744073709551616, ap (λ (x : ℕ). k * x) t, mul-add k g q) in
        rw (e, digits_mod (k * ((g + q) / 18446744073709551616)) {m = 18446744073709551616} (fits v fall_near)) fall_near

-- ---- what `carried` tells

still_told : (first second : ℕ) → second ≤ 65535 → carried_to (carried_by (second * carried_one) 0) 0 ≡ number_at 0 0 first second
unfolding carried_to number_at
still_told first second s =
    let e : second * carried_one + 0 * 0 ≡ second * carried_one = omega arith in
    rw (e, mod-eq_of_lt {n = second * carried_one} {m = 18446744073709551616} (omega arith)) (omega arith)

-- with no step to take it is the second number
pub still_tells : (first second : ℕ) → second ≤ 65535 → Tells 0 first second (carried_by (second * carried_one) 0)
still_tells first second s = record { told = λ k h. still k (omega arith) }
  where
    still : (k : ℕ) → k ≡ 0 → carried_to (carried_by (second * carried_one) 0) k ≡ number_at 0 k first second
    still k e = rw e (still_told first second s)

module _ (n first second : ℕ) (p : 0 < n) (u : n ≤ 65535) (f : first ≤ 65535) (s : second ≤ 65535) where
  -- from the first number and one half on, where numbers rise and a step adds the carried difference over n, rounded up, each number is told
  pub rise_tells : first ≤ second
      → Tells n first second (carried_by (first * carried_one + 140737488355328) (div_ceil ((second - first) * carried_one) n))
  rise_tells l =
      let t = div_ceil_times ((second - first) * carried_one) n p in
      record { told = λ k h. rise_told n k first second h p u f s (div_ceil ((second - first) * carried_one) n) l t.0 (omega (arith, t.1)) }

  -- and so it is where numbers fall, and what a step adds and the carried difference over n, rounded down, make 0 modulo 2 ^ 64
  pub fall_tells : second < first → (g : ℕ) → (g + (first - second) * carried_one / n) % 18446744073709551616 ≡ 0
      → Tells n first second (carried_by (first * carried_one + 140737488355328) g)
  fall_tells l g w =
      record {
        told = λ k h.
            fall_told n k first second h p u f s ((first - second) * carried_one / n) g l
            (omega (arith, div-add-mod' ((first - second) * carried_one) n))
            (omega (arith, div-add-mod' ((first - second) * carried_one) n, mod-lt ((first - second) * carried_one) p))
            w;
      }
