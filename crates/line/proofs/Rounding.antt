-- What rounding to the nearest keeps: a mean lies between the least and the greatest of the two ends, and is an end at either end.
-- Assumes nothing.
use Rattle.std.proofs.Common.{◌≡◌, ℕ, zero, suc, ◌+◌, ◌-◌, ◌*◌, ◌/◌, ◌<◌, ◌≤◌, min, max, sym, refl, ap, ◌∙◌, zero-le, le_refl, le_of_suc-le-suc, mul-le-mul_right, zero-lt-suc, suc-mul, mul_comm, div-lt_iff_lt-mul, add-mul, le_antisymm, mul-le-mul_left, mul-zero, le-div_iff_mul-le, zero-mul, sub-add_cancel, mul_left_comm, arith, ne_eqb}
use native.Mathlib.Nat.{sub_self, sub-zero, le-max_left, le-max_right, min-le_left, min-le_right}
use Rattle.line.specs.Segment.{side_at, number_at}

-- t / n, rounded to the nearest, is at most q if t is at most n * q, and at least q if t is at least n * q
round_le : (n t q : ℕ) → 0 < n → t ≤ n * q → (2 * t + n) / (2 * n) ≤ q
round_le n t q p h =
    le_of_suc-le-suc
    ((div-lt_iff_lt-mul {k = 2 * n} {x = 2 * t + n} {y = suc q} (omega arith)).1
    (omega (arith, suc-mul q (2 * n), mul_left_comm q 2 n, mul_comm q n)))

round_ge : (n t q : ℕ) → 0 < n → n * q ≤ t → q ≤ (2 * t + n) / (2 * n)
round_ge n t q p h =
    (le-div_iff_mul-le {k = 2 * n} {x = q} {y = 2 * t + n} (omega arith)).1 (omega (arith, mul_left_comm q 2 n, mul_comm q n))

-- ---- the axis that does not lead

-- no step moves further than the smaller distance
pub side_le : (n m k : ℕ) → k ≤ n → side_at n m k ≤ m
unfolding side_at
side_le zero m k h = zero-le
side_le (suc n) m k h = rw (ne_eqb (suc n) 0 (λ e. omega arith)) (round_le (suc n) (k * m) m (zero-lt-suc n) (mul-le-mul_right m h))

-- step 0 does not move, and step n moves all of it
pub side_first : (n m : ℕ) → side_at n m 0 ≡ 0
unfolding side_at
side_first zero m = refl
side_first (suc n) m =
    rw (ne_eqb (suc n) 0 (λ e. omega arith))
    (le_antisymm (round_le (suc n) (0 * m) 0 (zero-lt-suc n) (omega (arith, zero-mul m))) zero-le)

-- the last step moves by all of the smaller distance
pub side_last : (n m : ℕ) → m ≤ n → side_at n m n ≡ m
unfolding side_at
side_last zero m h = omega arith
side_last (suc n) m h =
    rw (ne_eqb (suc n) 0 (λ e. omega arith))
    (le_antisymm (round_le (suc n) (suc n * m) m (zero-lt-suc n) (le_refl _)) (round_ge (suc n) (suc n * m) m (zero-lt-suc n) (le_refl _)))

-- ---- the numbers of mode 2

module _ (n k first second q : ℕ) (h : k ≤ n) where
  parts : (n - k) * q + k * q ≡ n * q
  parts = sym (add-mul (n - k) k q) ∙ ap (λ (x : ℕ). x * q) (sub-add_cancel h)

  mean_le : first ≤ q → second ≤ q → (n - k) * first + k * second ≤ n * q
  mean_le f s = omega (arith, parts, mul-le-mul_left (n - k) f, mul-le-mul_left k s)

  mean_ge : q ≤ first → q ≤ second → n * q ≤ (n - k) * first + k * second
  mean_ge f s = omega (arith, parts, mul-le-mul_left (n - k) f, mul-le-mul_left k s)

-- a number is at most what both ends are at most
pub number_le : (n k first second q : ℕ) → k ≤ n → first ≤ q → second ≤ q → number_at n k first second ≤ q
unfolding number_at
number_le zero k first second q h f s = s
number_le (suc n) k first second q h f s =
    rw (ne_eqb (suc n) 0 (λ e. omega arith))
    (round_le (suc n) ((suc n - k) * first + k * second) q (zero-lt-suc n) (mean_le (suc n) k first second q h f s))

-- a number is at least what both ends are at least
pub number_ge : (n k first second q : ℕ) → k ≤ n → q ≤ first → q ≤ second → q ≤ number_at n k first second
unfolding number_at
number_ge zero k first second q h f s = s
number_ge (suc n) k first second q h f s =
    rw (ne_eqb (suc n) 0 (λ e. omega arith))
    (round_ge (suc n) ((suc n - k) * first + k * second) q (zero-lt-suc n) (mean_ge (suc n) k first second q h f s))

-- a number lies between the least and the greatest of the two ends
pub number_between : (n k first second : ℕ) → k ≤ n
    → (min first second ≤ number_at n k first second) × (number_at n k first second ≤ max first second)
number_between n k first second h = (
  number_ge n k first second (min first second) h (min-le_left first second) (min-le_right first second),
  number_le n k first second (max first second) h (le-max_left first second) (le-max_right first second),
)

-- with a step to take, step 0 has the first number; step n always has the second
pub number_first : (n first second : ℕ) → 0 < n → number_at n 0 first second ≡ first
unfolding number_at
number_first n first second p =
    let e : (n - 0) * first + 0 * second ≡ n * first = omega (arith, ap (λ (x : ℕ). x * first) (sub-zero n), zero-mul second) in
    rw (ne_eqb n 0 (λ e. omega arith), e) (le_antisymm (round_le n (n * first) first p (le_refl _)) (round_ge n (n * first) first p (le_refl _)))

-- the last step has the second number, even where it is the only one
pub number_last : (n first second : ℕ) → number_at n n first second ≡ second
unfolding number_at
number_last zero first second = refl
number_last (suc n) first second =
    let e : (suc n - suc n) * first + suc n * second ≡ suc n * second = omega (arith, ap (λ (x : ℕ). x * first) (sub_self (suc n)), zero-mul first) in
    rw (ne_eqb (suc n) 0 (λ e. omega arith), e)
    (le_antisymm (round_le (suc n) (suc n * second) second (zero-lt-suc n) (le_refl _)) (round_ge (suc n) (suc n * second) second (zero-lt-suc n) (le_refl _)))

-- how far to the side is a number from 0 to m
pub number_side : (n m k : ℕ) → k ≤ n → m ≤ n → number_at n k 0 m ≡ side_at n m k
unfolding number_at side_at
number_side zero m k h l = omega arith
number_side (suc n) m k h l =
    rw (ne_eqb (suc n) 0 (λ e. omega arith)) (ap (λ (x : ℕ). (2 * x + suc n) / (2 * suc n)) (omega (arith, mul-zero (suc n - k))))
