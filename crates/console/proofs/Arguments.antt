-- Arguments, byte by byte. Assumes nothing.
use mathlib.Core.Path.{◌≡◌, refl, ap}
use mathlib.Core.Bool.{Bool, true, false, ◌&&◌}
use mathlib.Core.List.{List, [], ◌∷◌}
use Prim.Native.Nat.{ℕ, suc, ◌+◌, ◌*◌, ◌%◌, ◌≤◌, ◌<◌, min}
use native.Mathlib.Numerals.{add-one}
use native.Mathlib.Omega.{arith}
use borrow.Author.Tests.{ltb-true, ltb-false}
use lib.Dec.{ltb}
use lib.ListN.{length, get_or, drop}
use lib.Seq.{drop-cons}
use Rattle.std.specs.List.{list_all}
use Rattle.console.specs.Digits.{is_digit, digits_only, value_of}

-- ---- digits

-- the test of each byte
pub all_digits : (arg : List ℕ) → list_all is_digit arg ≡ digits_only arg
unfolding digits_only
all_digits [] = refl
all_digits (byte ∷ rest) = ap (λ b. is_digit byte && b) (all_digits rest)

-- ---- numbers

value_grows : (n : ℕ) (rest : List ℕ) → n ≤ value_of n rest
unfolding value_of
value_grows n [] = omega arith
value_grows n (byte ∷ rest) = omega (arith, value_grows (n * 10 + byte % 16) rest)

-- a number that is too large may be cut, since no digit makes it smaller
value_cut : (m most : ℕ) (rest : List ℕ) → min (value_of (min m most) rest) most ≡ min (value_of m rest) most
value_cut m most rest = go (ltb m most) refl
  where
    go : (b : Bool) → ltb m most ≡ b → min (value_of (min m most) rest) most ≡ min (value_of m rest) most
    go true t =
        let low = ltb-true m most t in
        let e : min m most ≡ m = omega arith in
        rw e
    go false t =
        let high = ltb-false m most t in
        let e : min m most ≡ most = omega arith in
        rw e (omega (arith, high, value_grows most rest, value_grows m rest))

-- one digit more
pub value_more : (arg : List ℕ) (most n k : ℕ) {r : ℕ} → k < length arg → r ≡ min (n * 10 + get_or arg k 0 % 16) most
    → min (value_of r (drop (k + 1) arg)) most ≡ min (value_of n (drop k arg)) most
unfolding value_of
value_more arg most n k h e = rw (e, drop-cons arg k 0 h, add-one k) (value_cut (n * 10 + get_or arg k 0 % 16) most (drop (suc k) arg))

-- where no digit is left, the number is what was told so far
pub value_end : (n most : ℕ) → n ≤ most → min (value_of n []) most ≡ n
unfolding value_of
value_end n most h = omega arith
