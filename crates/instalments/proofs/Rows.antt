-- Rows of bits as the code holds them, a number and how many they are: a byte more, a word off the front, and what is left behind the
-- words. Assumes nothing.
use Rattle.std.proofs.Common.{◌≡◌, ℕ, zero, suc, ◌+◌, ◌-◌, ◌*◌, ◌/◌, ◌%◌, ◌^◌, ◌<◌, ◌≤◌, true, false, ◌&&◌, eqb, ltb, List, [], ◌∷◌, ◌++◌, length, take, drop, sym, refl, ap, ◌∙◌, ap₂, mod-lt, mod-eq_of_lt, div-lt_iff_lt-mul, arith, length-drop, drop-drop, take_at, drop_at, pow_pos, pow_mono, pow-add, shr_lt, ltb-true, lt-ltb, eqb-true}
use native.Mathlib.Nat.{div-eq_of_lt, mul-add-mod_self_right}
use lib.Arith.{digits_lt}
use Rattle.stream.specs.Format.{bits, number, cut, whole}
use Rattle.stream.proofs.Bits.{length_bits, bits_split, bits_low, number_bits}
use Rattle.ground.proofs.Truth.{both}
use Rattle.instalments.specs.Instalments.{bits_fit}

-- ---- bits that are held

-- bits that bytes may have left are fewer than twenty, whole bytes with those of the words, and a number of no more bits
pub bits_open : (index h k : ℕ) → bits_fit false index h k ≡ true → (k < 20) × ((20 * index + k) % 8 ≡ 0) × (h < 2 ^ k)
unfolding bits_fit
bits_open index h k e =
    let eights = eqb ((20 * index + k) % 8) 0 in
    let p = both (ltb k 20) (eights && eqb (h / 2 ^ k) 0) e in
    let q = both eights (eqb (h / 2 ^ k) 0) p.1 in
    let none : h / 2 ^ k < 1 = omega (arith, eqb-true (h / 2 ^ k) 0 q.1) in
    (ltb-true k 20 p.0, eqb-true ((20 * index + k) % 8) 0 q.0, omega (arith, (div-lt_iff_lt-mul (pow_pos k)).0 none))

-- and the other way round
pub open_bits : (index h k : ℕ) → k < 20 → (20 * index + k) % 8 ≡ 0 → h < 2 ^ k → bits_fit false index h k ≡ true
unfolding bits_fit
open_bits index h k few eights fits = rw (lt-ltb _ _ few, eights, div-eq_of_lt fits)

-- whole bytes may be left out of a count of bits
eights_out : (q m n : ℕ) → m ≡ q * 8 + n → n % 8 ≡ m % 8
eights_out q m n e = sym (ap (λ (k : ℕ). k % 8) e ∙ mul-add-mod_self_right q 8 n)

module _ (index k : ℕ) where
  -- so of the words it matters whether they are even
  pub even_words : (20 * (index % 2) + k) % 8 ≡ (20 * index + k) % 8
  even_words = eights_out (5 * (index / 2)) (20 * index + k) (20 * (index % 2) + k) (omega arith)

  -- and they may be counted modulo 2 ^ 64
  pub counted_words : (20 * (index % 2 ^ 64) + k) % 8 ≡ (20 * index + k) % 8
  counted_words = eights_out (5 * 2 ^ 63 * (index / 2 ^ 64)) (20 * index + k) (20 * (index % 2 ^ 64) + k) (omega arith)

-- half a byte is left only behind an odd number of words
pub half_odd : (index : ℕ) → (20 * index + 4) % 8 ≡ 0 → index % 2 ≡ 1
half_odd index e = go (index % 2) refl (mod-lt index (omega arith))
  where
    go : (q : ℕ) → index % 2 ≡ q → q < 2 → q ≡ 1
    go zero z h = absurd (omega (arith, ap (λ (r : ℕ). (20 * r + 4) % 8) (sym z) ∙ even_words index 4 ∙ e))
    go (suc zero) z h = refl
    go (suc (suc q)) z h = absurd (omega arith)

-- where none are held, a record may be closed
pub closed_bits : (index : ℕ) → bits_fit true index 0 0 ≡ true
unfolding bits_fit
closed_bits index = refl

-- a row, as the number that it is
pub number_row : (k v : ℕ) → v < 2 ^ k → number (bits k v) ≡ v
number_row k v h = number_bits k v ∙ mod-eq_of_lt h

-- ---- a byte more

module _ (k h b : ℕ) (byte : b < 256) where
  -- the number grows by a digit of base 256
  pub byte_row : bits (k + 8) (h * 256 + b) ≡ bits k h ++ bits 8 b
  byte_row =
      let high : (h * 256 + b) / 256 ≡ h = omega arith in
      bits_split k 8 (h * 256 + b) ∙ ap₂ (λ (x y : List ℕ). x ++ y) (ap (bits k) high) (bits_low 8 h b)

  -- and still fits
  pub byte_fits : h < 2 ^ k → h * 256 + b < 2 ^ (k + 8)
  byte_fits l = rw (pow-add 2 k 8) (digits_lt l byte)

-- what is held leaves room for a byte
pub held_low : (k h : ℕ) → k < 20 → h < 2 ^ k → h < 524288
held_low k h few l = let m : k ≤ 19 = omega arith in omega (arith, l, pow_mono m)

-- ---- a word off the front

module _ (n v : ℕ) (enough : 20 ≤ n) where
  -- twenty bits and those behind them
  split : n ≡ 20 + (n - 20)
  split = omega arith

  halves : bits n v ≡ bits 20 (v / 2 ^ (n - 20)) ++ bits (n - 20) v
  halves = ap (λ (k : ℕ). bits k v) split ∙ bits_split 20 (n - 20) v

  -- the word, as a number
  pub front_fits : v < 2 ^ n → v / 2 ^ (n - 20) < 2 ^ 20
  front_fits h = shr_lt 20 (n - 20) (rw split at h)

  -- the first twenty bits of a row are, as a number, the row's number without the bits behind them
  pub front_word : v < 2 ^ n → number (take 20 (bits n v)) ≡ v / 2 ^ (n - 20)
  front_word h =
      ap (λ (row : List ℕ). number (take 20 row)) halves
      ∙ ap number (take_at (bits 20 (v / 2 ^ (n - 20))) (bits (n - 20) v) 20 (length_bits 20 (v / 2 ^ (n - 20))))
      ∙ number_row 20 (v / 2 ^ (n - 20)) (front_fits h)

  -- the bits behind it
  pub front_rest : drop 20 (bits n v) ≡ bits (n - 20) v
  front_rest = ap (drop 20) halves ∙ drop_at (bits 20 (v / 2 ^ (n - 20))) (bits (n - 20) v) 20 (length_bits 20 (v / 2 ^ (n - 20)))

-- the code's divisor for the bits behind it
pub rest_power : (k : ℕ) → k < 8 → 1 * 2 ^ k % 4294967296 ≡ 2 ^ k
rest_power k h = let m : k ≤ 7 = omega arith in mod-eq_of_lt (omega (arith, pow_mono m)) ∙ omega arith

-- ---- words and what is left

-- the bits behind the last whole word
unfoldable pub past : List ℕ → List ℕ
past row = drop (length row / 20 * 20) row

module _ (row : List ℕ) where
  module _ (short : length row < 20) where
    none : length row / 20 ≡ 0
    none = omega arith

    -- fewer bits than a word has are no word
    pub whole_short : whole 20 row ≡ []
    unfolding whole cut
    whole_short = rw none

    -- and are left
    pub past_short : past row ≡ row
    unfolding past
    past_short = rw none

  module _ (long : 20 ≤ length row) where
    -- the first word, and those behind it
    pub whole_more : whole 20 row ≡ number (take 20 row) ∷ whole 20 (drop 20 row)
    unfolding whole cut
    whole_more =
        let n : length row / 20 ≡ suc (length (drop 20 row) / 20) = omega (arith, length-drop 20 row) in
        ap (λ (m : ℕ). cut 20 m row) n

    -- what is left behind the first word is left behind all
    pub past_more : past row ≡ past (drop 20 row)
    unfolding past
    past_more =
        let n : length row / 20 * 20 ≡ 20 + length (drop 20 row) / 20 * 20 = omega (arith, length-drop 20 row) in
        ap (λ (m : ℕ). drop m row) n ∙ sym (drop-drop (length (drop 20 row) / 20 * 20) 20 row)

  -- how many are left
  pub past_length : length (past row) ≡ length row % 20
  unfolding past
  past_length = omega (arith, length-drop (length row / 20 * 20) row)
