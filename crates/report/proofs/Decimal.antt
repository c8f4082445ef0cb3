-- Numbers in decimal: the last digit apart, how many digits there are, and all of them as the last so many. Assumes nothing.
use mathlib.Core.Path.{◌≡◌, refl, ap, ◌∙◌}
use mathlib.Core.Bool.{Bool, true, false, cond}
use mathlib.Core.List.{List, [], ◌∷◌, ◌++◌}
use Prim.Native.Nat.{ℕ, zero, suc, ◌+◌, ◌/◌, ◌%◌, ◌^◌, ◌≤◌, ◌<◌}
use native.Mathlib.Nat.{pow-suc}
use native.Mathlib.Omega.{arith}
use native.Mathlib.Numerals.{add-one}
use borrow.Author.Tests.{lt-ltb, le-ltb, ltb-true, ltb-false}
use lib.ListN.{length, length-append}
use lib.Dec.{ltb}
use Rattle.report.specs.Text.{glyph, last_digits, digits, decimal}

-- once there are enough digits, how many are allowed does not matter
digits_enough : (k m n : ℕ) → n < k → n < m → digits k n ≡ digits m n
unfolding digits
digits_enough zero m n h g = absurd (omega arith)
digits_enough (suc k) zero n h g = absurd (omega arith)
digits_enough (suc k) (suc m) n h g = go (ltb n 10) refl (λ big. digits_enough k m (n / 10) (omega arith) (omega arith))
  where
    go : (b : Bool) → ltb n 10 ≡ b → (10 ≤ n → digits k (n / 10) ≡ digits m (n / 10))
        → cond b [] (digits k (n / 10)) ++ ((48 + n % 10) ∷ []) ≡ cond b [] (digits m (n / 10)) ++ ((48 + n % 10) ∷ [])
    go true t e = refl
    go false t e = ap (λ (l : List ℕ). l ++ ((48 + n % 10) ∷ [])) (e (ltb-false n 10 t))

-- a number below 10 is its digit
pub decimal_small : (n : ℕ) → n < 10 → decimal n ≡ (48 + n % 10) ∷ []
unfolding decimal digits
decimal_small n h = rw (lt-ltb n 10 h)

-- any other is the number without its last digit, and that digit
pub decimal_more : (n : ℕ) → 10 ≤ n → decimal n ≡ decimal (n / 10) ++ ((48 + n % 10) ∷ [])
unfolding decimal digits
decimal_more n h =
    rw (le-ltb n 10 h) (ap (λ (l : List ℕ). l ++ ((48 + n % 10) ∷ [])) (digits_enough n (suc (n / 10)) (n / 10) (omega arith) (omega arith)))

-- a number below 10 has one digit
pub length_small : (n : ℕ) → n < 10 → length (decimal n) ≡ 1
length_small n h = rw (decimal_small n h)

-- any other number has one digit more than the number without its last digit
pub length_more : (n : ℕ) → 10 ≤ n → length (decimal n) ≡ length (decimal (n / 10)) + 1
length_more n h = rw (decimal_more n h) (length-append (decimal (n / 10)) ((48 + n % 10) ∷ []))

-- a number below 10 ^ k has at most k digits
pub decimal_below : (k n : ℕ) → n < 10 ^ suc k → length (decimal n) ≤ suc k
decimal_below zero n h = omega (arith, length_small n (omega arith))
decimal_below (suc k) n h = go (ltb n 10) refl (decimal_below k (n / 10) (omega (arith, pow-suc 10 (suc k))))
  where
    go : (b : Bool) → ltb n 10 ≡ b → length (decimal (n / 10)) ≤ suc k → length (decimal n) ≤ suc (suc k)
    go true t e = omega (arith, length_small n (ltb-true n 10 t))
    go false t e = omega (arith, length_more n (ltb-false n 10 t))

-- a number of 64 bits has at most 20
pub decimal_short : (n : ℕ) → n < 2 ^ 64 → length (decimal n) ≤ 20
decimal_short n h = decimal_below 19 n (omega arith)

-- every number has at least one digit
pub decimal_some : (n : ℕ) → 1 ≤ length (decimal n)
decimal_some n = go (ltb n 10) refl
  where
    go : (b : Bool) → ltb n 10 ≡ b → 1 ≤ length (decimal n)
    go true t = omega (arith, length_small n (ltb-true n 10 t))
    go false t = omega (arith, length_more n (ltb-false n 10 t))

-- ---- the last digits

-- the last k digits of a number are k bytes, in any base
pub length_digits : (base k n : ℕ) → length (last_digits base k n) ≡ k
unfolding last_digits
length_digits base zero n = refl
length_digits base (suc k) n =
    length-append (last_digits base k (n / base)) (glyph (n % base) ∷ []) ∙ rw (length_digits base k (n / base)) (add-one k)

-- a digit below 10 in ASCII
small_glyph : (n : ℕ) → glyph (n % 10) ≡ 48 + n % 10
unfolding glyph
small_glyph n = rw (lt-ltb (n % 10) 10 (omega arith))

-- the digits of a number are the last so many
digits_last : (k n : ℕ) → last_digits 10 (length (digits k n)) n ≡ digits k n
unfolding digits last_digits
digits_last zero n = refl
digits_last (suc k) n = go (ltb n 10) (digits_last k (n / 10))
  where
    go : (b : Bool) → last_digits 10 (length (digits k (n / 10))) (n / 10) ≡ digits k (n / 10)
        → last_digits 10 (length (cond b [] (digits k (n / 10)) ++ ((48 + n % 10) ∷ []))) n ≡ cond b [] (digits k (n / 10)) ++ ((48 + n % 10) ∷ [])
    go true e = ap (λ (g : ℕ). g ∷ []) (small_glyph n)
    go false e = rw (length-append (digits k (n / 10)) ((48 + n % 10) ∷ []), add-one (length (digits k (n / 10))), e, small_glyph n)

-- so that a number in decimal is its last digits, as many as it has
pub decimal_last : (n : ℕ) → last_digits 10 (length (decimal n)) n ≡ decimal n
unfolding decimal
decimal_last n = digits_last (suc n) n
