-- Numbers and their bits: the two directions, and how a row of bits is taken apart. Assumes nothing.
use mathlib.Core.Path.{◌≡◌, refl, sym, ap, ap₂, ◌∙◌}
use mathlib.Core.Bool.{Bool, true, false, ◌&&◌}
use mathlib.Core.List.{List, [], ◌∷◌, ◌++◌}
use Prim.Native.Nat.{ℕ, zero, suc, ◌+◌, ◌*◌, ◌/◌, ◌%◌, ◌^◌, ◌≤◌, ◌<◌}
use native.Mathlib.Nat.{mod-one, add_comm, add-mul, mul_assoc, add_assoc, zero-add, zero-mul, suc-add, pow-zero, pow-succ', mod-lt, mod-eq_of_lt, mul-add-div_right, mul-add-mod_self_right}
use native.Mathlib.Omega.{arith}
use lib.ListN.{length, get_or, take, drop, length-append}
use lib.Arith.{mod-mul, digits_lt, digits_div}
use borrow.Author.Tests.{lt-ltb, le-ltb, ltb-true, ltb-false}
use lib.Dec.{ltb}
use Rattle.std.specs.Prelude.{fold}
use lib.Bits.{bit_or, or_lt, or_add_and, and_le_l, and_le_r}
use lib.Pow.{pow-add, pow_pos, shr-shr}
use Rattle.ground.proofs.Truth.{both}
use Rattle.stream.specs.Format.{bits, number, fit}

-- k bits are k
pub length_bits : (k n : ℕ) → length (bits k n) ≡ k
unfolding bits
length_bits zero n = refl
length_bits (suc k) n = ap suc (length_bits k n)

-- the bits of a number, split: those above the last k, then the last k
pub bits_split : (j k n : ℕ) → bits (j + k) n ≡ bits j (n / 2 ^ k) ++ bits k n
unfolding bits
bits_split zero k n = rw zero-add
bits_split (suc j) k n =
    ap (λ (m : ℕ). bits m n) (suc-add j k)
    ∙ ap₂ (λ (b : ℕ) (bs : List ℕ). b ∷ bs) (ap (λ (x : ℕ). x % 2) (ap (λ (e : ℕ). n / 2 ^ e) (add_comm j k) ∙ sym (shr-shr n k j))) (bits_split j k n)

-- two rows of bits, one behind the other, are a number of two digits
pub number_append : (hs ls : List ℕ) → number (hs ++ ls) ≡ number hs * 2 ^ length ls + number ls
unfolding number
number_append [] ls = sym (ap (λ (m : ℕ). m + number ls) (zero-mul (2 ^ length ls)) ∙ zero-add (number ls))
number_append (h ∷ hs) ls = ap₂ (λ (l n : ℕ). h * l + n) (ap (λ (l : ℕ). 2 ^ l) (length-append hs ls) ∙ pow-add 2 (length hs) (length ls)) (number_append hs ls) ∙ (simp (add-mul, mul_assoc, add_assoc))

-- the last k bits of a number are the number mod 2 ^ k
pub number_bits : (k n : ℕ) → number (bits k n) ≡ n % 2 ^ k
unfolding bits number
number_bits zero n = sym (ap (λ (m : ℕ). n % m) (pow-zero 2) ∙ mod-one n)
number_bits (suc k) n =
    ap₂ (λ (l m : ℕ). n / 2 ^ k % 2 * 2 ^ l + m) (length_bits k n) (number_bits k n)
    ∙ sym (mod-mul n {m = 2} {c = 2 ^ k} (omega arith) (pow_pos k))
    ∙ ap (λ (m : ℕ). n % m) (sym (pow-succ' 2 k))

-- the last k bits do not see what lies above them
pub bits_low : (k q n : ℕ) → bits k (q * 2 ^ k + n) ≡ bits k n
unfolding bits
bits_low zero q n = refl
bits_low (suc k) q n =
    let e : q * 2 ^ suc k ≡ q * 2 * 2 ^ k = ap (λ (m : ℕ). q * m) (pow-succ' 2 k) ∙ sym (mul_assoc q 2 (2 ^ k)) in
    ap (λ (m : ℕ). bits (suc k) (m + n)) e
    ∙ ap₂ (λ (b : ℕ) (bs : List ℕ). b ∷ bs)
    (ap (λ (m : ℕ). m % 2) (mul-add-div_right (pow_pos k) (q * 2) n) ∙ mul-add-mod_self_right q 2 (n / 2 ^ k))
    (bits_low k (q * 2) n)

-- ---- numbers that fit

-- every number has at most k bits, to go by cases on
pub data Fits : ℕ → List ℕ → Type 0 where
  none : {k : ℕ} → Fits k []
  more : {k n : ℕ} {ns : List ℕ} → n < 2 ^ k → Fits k ns → Fits k (n ∷ ns)

-- numbers that pass the test have at most k bits each
pub fits : (k : ℕ) (ns : List ℕ) → fit k ns ≡ true → Fits k ns
unfolding fit
fits k [] e = none
fits k (n ∷ ns) e = more (ltb-true n (2 ^ k) (both (ltb n (2 ^ k)) (fit k ns) e).0) (fits k ns (both (ltb n (2 ^ k)) (fit k ns) e).1)

-- numbers that have at most k bits each pass the test
pub fits_test : {k : ℕ} {ns : List ℕ} → Fits k ns → fit k ns ≡ true
unfolding fit
fits_test none = refl
fits_test (more h f) = rw (lt-ltb _ _ h) (fits_test f)

-- one of numbers that fit, and 0 past them
pub fits_at : {k : ℕ} {ns : List ℕ} → Fits k ns → (i : ℕ) → get_or ns i 0 < 2 ^ k
fits_at {k} none i = pow_pos k
fits_at (more h f) zero = h
fits_at (more h f) (suc i) = fits_at f i

-- bits are set together as they are apart
or_ge : (a b : ℕ) → (a ≤ bit_or a b) × (b ≤ bit_or a b)
or_ge a b = (omega (arith, or_add_and a b, and_le_r a b), omega (arith, or_add_and a b, and_le_l a b))

or_below : (k a b : ℕ) → ltb (bit_or a b) (2 ^ k) ≡ ltb a (2 ^ k) && ltb b (2 ^ k)
or_below k a b = go (ltb a (2 ^ k)) (ltb b (2 ^ k)) refl refl
  where
    go : (p q : Bool) → ltb a (2 ^ k) ≡ p → ltb b (2 ^ k) ≡ q → ltb (bit_or a b) (2 ^ k) ≡ p && q
    go true true e f = lt-ltb (bit_or a b) (2 ^ k) (or_lt k a b (ltb-true a (2 ^ k) e) (ltb-true b (2 ^ k) f))
    go true false e f = le-ltb (bit_or a b) (2 ^ k) (omega (arith, ltb-false b (2 ^ k) f, (or_ge a b).1))
    go false q e f = le-ltb (bit_or a b) (2 ^ k) (omega (arith, ltb-false a (2 ^ k) e, (or_ge a b).0))

-- the bits that are set in numbers, and in one before them, tell whether all of them fit
pub fit_bits : (k set : ℕ) (ns : List ℕ) → ltb (fold bit_or set ns) (2 ^ k) ≡ ltb set (2 ^ k) && fit k ns
unfolding fit
fit_bits k set [] = go (ltb set (2 ^ k))
  where
    go : (p : Bool) → p ≡ p && true
    go true = refl
    go false = refl
fit_bits k set (n ∷ ns) = fit_bits k (bit_or set n) ns ∙ rw (or_below k set n) (go (ltb set (2 ^ k)) (ltb n (2 ^ k)) (fit k ns))
  where
    go : (p q r : Bool) → p && q && r ≡ p && (q && r)
    go true q r = refl
    go false q r = refl

-- two lists of numbers that fit, one behind the other, fit
pub fits_append : {k : ℕ} {ms ns : List ℕ} → Fits k ms → Fits k ns → Fits k (ms ++ ns)
fits_append none g = g
fits_append (more h f) g = more h (fits_append f g)

-- numbers that fit still do where some are dropped from the front
pub fits_drop : {k : ℕ} {ns : List ℕ} (i : ℕ) → Fits k ns → Fits k (drop i ns)
fits_drop zero f = f
fits_drop (suc i) none = none
fits_drop (suc i) (more h f) = fits_drop i f

-- the first of numbers that fit, however many are taken, fit
pub fits_take : {k : ℕ} {ns : List ℕ} (i : ℕ) → Fits k ns → Fits k (take i ns)
fits_take zero f = none
fits_take (suc i) none = none
fits_take (suc i) (more h f) = more h (fits_take i f)

-- bits are numbers of one bit
pub bits_fit_lem : (k n : ℕ) → Fits 1 (bits k n)
unfolding bits
bits_fit_lem zero n = none
bits_fit_lem (suc k) n = more (mod-lt (n / 2 ^ k) {m = 2} (omega arith)) (bits_fit_lem k n)

-- as many bits as there are hold the number
pub number_lt : {bs : List ℕ} → Fits 1 bs → number bs < 2 ^ length bs
unfolding number
number_lt none = omega arith
number_lt (more {ns = bs} h f) = rw (pow-succ' 2 (length bs)) (digits_lt h (number_lt f))

-- bits, written as a number of as many bits, come back
pub bits_number : {bs : List ℕ} → Fits 1 bs → bits (length bs) (number bs) ≡ bs
unfolding bits number
bits_number none = refl
bits_number (more {n = b} {ns = bs} h f) =
    ap₂ (λ (c : ℕ) (cs : List ℕ). c ∷ cs)
    (ap (λ (m : ℕ). m % 2) (digits_div b (number_lt f)) ∙ mod-eq_of_lt h)
    (bits_low (length bs) b (number bs) ∙ bits_number f)
