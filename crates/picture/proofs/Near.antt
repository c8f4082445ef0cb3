-- A quotient from a number near: what is carried as 2 ^ 48 times a number and a part tells the number. Assumes nothing.
use Rattle.picture.specs.Draw.{carried_one}
use Rattle.std.proofs.Common.{◌≡◌, ℕ, ◌+◌, ◌*◌, ◌/◌, ◌<◌, ◌≤◌, le_refl, mul_assoc, div-lt_iff_lt-mul, add-mul, lt_of_mul-lt-mul_right, le-div_iff_mul-le, le_of_mul-le-mul_right, mul_left_comm, arith}
use native.Mathlib.Nat.{lt-div-mul-add}

-- a quotient by a number near: k is 2 ^ 48 times n over d, and less than 2 ^ 48 over d more
module _ (n d k : ℕ) (pos : 0 < d) (least : n * carried_one ≤ k * d) (most : k * d < n * carried_one + carried_one) where
  low : n / d * carried_one ≤ k
  low =
      le_of_mul-le-mul_right {k = d}
      (omega (
        arith,
        least,
        (le-div_iff_mul-le {k = d} {x = n / d} {y = n} pos).0 (le_refl _),
        mul_assoc (n / d) carried_one d,
        mul_left_comm (n / d) carried_one d,
      ))
      pos

  high : k < (n / d + 1) * carried_one
  high =
      lt_of_mul-lt-mul_right d {m = k} {n = (n / d + 1) * carried_one}
      (omega (
        arith,
        most,
        lt-div-mul-add {a = n} {b = d} pos,
        add-mul (n / d * carried_one) carried_one d,
        add-mul (n / d) 1 carried_one,
        mul_assoc (n / d) carried_one d,
        mul_left_comm (n / d) carried_one d,
      ))

  -- k over 2 ^ 48, rounded down, is n over d, rounded down
  pub near_told : k / carried_one ≡ n / d
  near_told =
      let a : n / d ≤ k / carried_one = (le-div_iff_mul-le {k = carried_one} {x = n / d} {y = k} (omega arith)).1 low in
      let b : k / carried_one < n / d + 1 = (div-lt_iff_lt-mul {k = carried_one} {x = k} {y = n / d + 1} (omega arith)).1 high in
      omega arith
