-- What the code's shifts and masks come to: the number in a row of bits. Both sides meet in sums of products. Assumes nothing.
use mathlib.Core.Path.{◌≡◌, refl, sym, ap, ap₂, ◌∙◌}
use mathlib.Core.List.{List, [], ◌∷◌, ◌++◌}
use Prim.Native.Nat.{ℕ, ◌+◌, ◌*◌, ◌/◌, ◌%◌, ◌^◌, ◌≤◌, ◌<◌}
use native.Mathlib.Nat.{mod-eq_of_lt, mul-le-mul}
use native.Mathlib.Omega.{arith}
use lib.Bits.{bit_and, bit_or, and_mask, or_shifted}
use lib.ListN.{take, drop}
use Rattle.stream.specs.Format.{bits, number, joined}
use Rattle.std.specs.Int.{w32, w64, to_be_bytes}
use Rattle.stream.specs.Loops.{pair_front, group_front}
use Rattle.stream.proofs.Bits.{bits_split, number_append, number_bits}

-- ---- rows of bits, in sums of products

high_number : (a b c : ℕ) → number (take 20 (joined 8 (a ∷ b ∷ c ∷ []))) ≡ a % 256 * 4096 + (b % 256 * 16 + c / 16 % 16)
unfolding joined bits
high_number a b c =
    ap (λ (l : List ℕ). number (bits 8 a ++ (bits 8 b ++ take 4 l))) (bits_split 4 4 c)
    ∙ number_append (bits 8 a) (bits 8 b ++ bits 4 (c / 16))
    ∙ ap₂ (λ (x y : ℕ). x * 4096 + y) (number_bits 8 a)
    (number_append (bits 8 b) (bits 4 (c / 16)) ∙ ap₂ (λ (x y : ℕ). x * 16 + y) (number_bits 8 b) (number_bits 4 (c / 16)))

low_number : (c d e : ℕ) → number (drop 4 (joined 8 (c ∷ d ∷ e ∷ []))) ≡ c % 16 * 65536 + (d % 256 * 256 + e % 256)
unfolding joined bits
low_number c d e =
    number_append (bits 4 c) (bits 8 d ++ bits 8 e)
    ∙ ap₂ (λ (x y : ℕ). x * 65536 + y) (number_bits 4 c)
    (number_append (bits 8 d) (bits 8 e) ∙ ap₂ (λ (x y : ℕ). x * 256 + y) (number_bits 8 d) (number_bits 8 e))

-- the last four bits of one number and of another, back to back, are 16 times the first and the second
pub seam_number : (v w : ℕ) → number (bits 4 v ++ bits 4 w) ≡ v % 16 * 16 + w % 16
unfolding bits
seam_number v w = number_append (bits 4 v) (bits 4 w) ∙ ap₂ (λ (x y : ℕ). x * 16 + y) (number_bits 4 v) (number_bits 4 w)

-- ---- shifts and masks, in sums of products

-- `x | y`, where x is a multiple z of a power that y is below
or_add : (k z x y : ℕ) → x ≡ z * 2 ^ k → y < 2 ^ k → bit_or x y ≡ x + y
or_add k z x y e h = ap (λ (n : ℕ). bit_or n y) e ∙ or_shifted z k y h ∙ ap (λ (n : ℕ). n + y) (sym e)

-- a shift to the left that loses nothing
shl : (x k : ℕ) → x * k < 4294967296 → x * k % 4294967296 ≡ x * k
shl x k h = mod-eq_of_lt h

-- two bytes and the high half of a third, shifted and set together, are the first 20 bits of the three
pub high_word : (a b c : ℕ) → a < 256 → b < 256 → c < 256
    → bit_or (bit_or (a * 4096 % 4294967296) (b * 16 % 4294967296)) (c / 16) ≡ number (take 20 (joined 8 (a ∷ b ∷ c ∷ [])))
high_word a b c ha hb hc =
    ap₂ (λ (x y : ℕ). bit_or (bit_or x y) (c / 16)) (shl a 4096 (omega arith)) (shl b 16 (omega arith))
    ∙ ap (λ (x : ℕ). bit_or x (c / 16)) (or_add 12 a (a * 4096) (b * 16) refl (omega arith))
    ∙ or_add 4 (a * 256 + b) (a * 4096 + b * 16) (c / 16) (omega arith) (omega arith)
    ∙ omega (arith, high_number a b c)

-- the low half of a byte and two bytes more, shifted and set together, are the last 20 bits of the three
pub low_word : (c d e : ℕ) → d < 256 → e < 256
    → bit_or (bit_or (bit_and c 15 * 65536 % 4294967296) (d * 256 % 4294967296)) e ≡ number (drop 4 (joined 8 (c ∷ d ∷ e ∷ [])))
low_word c d e hd he =
    ap₂ (λ (x y : ℕ). bit_or (bit_or x y) e)
    (ap (λ (x : ℕ). x * 65536 % 4294967296) (and_mask c 4) ∙ shl (c % 16) 65536 (omega arith)) (shl d 256 (omega arith))
    ∙ ap (λ (x : ℕ). bit_or x e) (or_add 16 (c % 16) (c % 16 * 65536) (d * 256) refl (omega arith))
    ∙ or_add 8 (c % 16 * 256 + d) (c % 16 * 65536 + d * 256) e (omega arith) (omega arith)
    ∙ omega (arith, low_number c d e)

-- the mask 255 leaves the number of the last eight bits
pub low_byte : (x : ℕ) → bit_and x 255 ≡ number (bits 8 x)
low_byte x = and_mask x 8 ∙ sym (number_bits 8 x)

-- the last four bits of one word and the first four of the next, shifted and set together, are the number of those eight bits
pub seam_byte : (v w : ℕ) → bit_or (bit_and v 15 * 16 % 4294967296) (bit_and (w / 65536) 15) ≡ number (bits 4 v ++ bits 4 (w / 65536))
seam_byte v w =
    ap₂ bit_or (ap (λ (x : ℕ). x * 16 % 4294967296) (and_mask v 4) ∙ mod-eq_of_lt (omega arith)) (and_mask (w / 65536) 4)
    ∙ or_add 4 (v % 16) (v % 16 * 16) (w / 65536 % 16) refl (omega arith)
    ∙ sym (seam_number v (w / 65536))

-- ---- four bytes at once

-- four bytes as one number, the first the highest, divided by 4096 are the first 20 bits
pub high_four : (a b c d x : ℕ) → a < 256 → b < 256 → c < 256 → d < 256
    → x ≡ a * 16777216 + b * 65536 + c * 256 + d → x / 4096 ≡ number (take 20 (joined 8 (a ∷ b ∷ c ∷ [])))
high_four a b c d x ha hb hc hd e =
    let e₁ : x / 4096 ≡ a * 4096 + b * 16 + c / 16 = omega (arith, hc, hd, e) in
    e₁ ∙ omega (arith, high_number a b c, mod-eq_of_lt ha, mod-eq_of_lt hb)

-- the last 12 bits of that number, with a byte behind them, are the 20 bits after those
pub low_four : (a b c d g x : ℕ) → d < 256 → g < 256
    → x ≡ a * 16777216 + b * 65536 + c * 256 + d → x % 4096 * 256 + g ≡ number (drop 4 (joined 8 (c ∷ d ∷ g ∷ [])))
low_four a b c d g x hd hg e = omega (arith, low_number c d g)

-- ---- bytes to be stored, the highest first

-- the last four bytes of a number, the highest first
abbrev pub highest_first : ℕ → List ℕ
highest_first x = x / 16777216 % 256 ∷ x / 65536 % 256 ∷ x / 256 % 256 ∷ x % 256 ∷ []

-- four pairs of equal numbers make equal lists
four_same : {a b c d a' b' c' d' : ℕ} → a ≡ a' → b ≡ b' → c ≡ c' → d ≡ d' → ◌≡◌ {A = List ℕ} (a ∷ b ∷ c ∷ d ∷ []) (a' ∷ b' ∷ c' ∷ d' ∷ [])
four_same p q r s = cc

-- eight bytes are those of the two halves
halves : (x : ℕ) → to_be_bytes w64 x ≡ highest_first (x / 4294967296) ++ highest_first (x % 4294967296)
halves x =
    let above : x / 72057594037927936 % 256 ∷ x / 281474976710656 % 256 ∷ x / 1099511627776 % 256 ∷ x / 4294967296 % 256 ∷ [] ≡ highest_first (x / 4294967296) =
    four_same (omega arith) (omega arith) (omega arith) (omega arith) in
    let below : x / 16777216 % 256 ∷ x / 65536 % 256 ∷ x / 256 % 256 ∷ x % 256 ∷ [] ≡ highest_first (x % 4294967296) =
    four_same (omega arith) (omega arith) (omega arith) (omega arith) in
    ap₂ (λ (l r : List ℕ). l ++ r) above below

-- the first four bytes of two words
pub pair_bytes : (v w x : ℕ) → x ≡ pair_front v w
    → to_be_bytes w32 x ≡ number (bits 8 (v / 4096)) ∷ number (bits 8 (v / 16)) ∷ number (bits 4 v ++ bits 4 (w / 65536)) ∷ number (bits 8 (w / 256)) ∷ []
pair_bytes v w x e =
    four_same
    (omega (arith, number_bits 8 (v / 4096)))
    (omega (arith, number_bits 8 (v / 16)))
    (omega (arith, seam_number v (w / 65536)))
    (omega (arith, number_bits 8 (w / 256)))

-- the four bytes after those, of the second word of four, the third and the last
middle_bytes : (b c d x : ℕ) → x ≡ b % 256 * 16777216 + c % 1048576 * 16 + d / 65536 % 16
    → highest_first x ≡ number (bits 8 b) ∷ number (bits 8 (c / 4096)) ∷ number (bits 8 (c / 16)) ∷ number (bits 4 c ++ bits 4 (d / 65536)) ∷ []
middle_bytes b c d x e =
    four_same
    (omega (arith, number_bits 8 b))
    (omega (arith, number_bits 8 (c / 4096)))
    (omega (arith, number_bits 8 (c / 16)))
    (omega (arith, seam_number c (d / 65536)))

-- the last 20 bits of a word, shifted to the left within 64 bits
shifted : (x k : ℕ) → k ≤ 17592186044416 → bit_and x 1048575 * k % 18446744073709551616 ≡ x % 1048576 * k
shifted x k h =
    ap (λ (n : ℕ). n * k % 18446744073709551616) (and_mask x 20)
    ∙ mod-eq_of_lt (omega (arith, mul-le-mul {n₁ = x % 1048576} {m₁ = k} {n₂ = 1048575} {m₂ = 17592186044416} (omega arith) h))

-- all of three words and four bits of the next, shifted and set together, are the first 64 bits of the four
pub group_front_lem : (a b c d : ℕ)
    → bit_or (bit_or (bit_or (bit_and a 1048575 * 17592186044416 % 18446744073709551616) (bit_and b 1048575 * 16777216 % 18446744073709551616))
    (bit_and c 1048575 * 16 % 18446744073709551616)) (bit_and (d / 65536) 15) ≡ group_front a b c d
group_front_lem a b c d =
    ap₂ (λ (x y : ℕ). bit_or (bit_or x (bit_and c 1048575 * 16 % 18446744073709551616)) y)
    (ap₂ (λ (x y : ℕ). bit_or x y) (shifted a 17592186044416 (omega arith)) (shifted b 16777216 (omega arith))
    ∙ or_add 44 (a % 1048576) (a % 1048576 * 17592186044416) (b % 1048576 * 16777216) refl (omega arith))
    (and_mask (d / 65536) 4)
    ∙ ap (λ (y : ℕ). bit_or (bit_or (a % 1048576 * 17592186044416 + b % 1048576 * 16777216) y) (d / 65536 % 16)) (shifted c 16 (omega arith))
    ∙ ap (λ (x : ℕ). bit_or x (d / 65536 % 16))
    (or_add 24 (a % 1048576 * 1048576 + b % 1048576) (a % 1048576 * 17592186044416 + b % 1048576 * 16777216) (c % 1048576 * 16) (omega arith) (omega arith))
    ∙ or_add 4 (a % 1048576 * 1099511627776 + b % 1048576 * 1048576 + c % 1048576)
    (a % 1048576 * 17592186044416 + b % 1048576 * 16777216 + c % 1048576 * 16) (d / 65536 % 16) (omega arith) (omega arith)

-- the first eight bytes of four words
pub group_bytes : (a b c d x : ℕ) → x ≡ group_front a b c d
    → to_be_bytes w64 x
    ≡ number (bits 8 (a / 4096)) ∷ number (bits 8 (a / 16)) ∷ number (bits 4 a ++ bits 4 (b / 65536)) ∷ number (bits 8 (b / 256))
    ∷ number (bits 8 b) ∷ number (bits 8 (c / 4096)) ∷ number (bits 8 (c / 16)) ∷ number (bits 4 c ++ bits 4 (d / 65536)) ∷ []
group_bytes a b c d x e =
    halves x
    ∙ ap₂ (λ (l r : List ℕ). l ++ r) (pair_bytes a b (x / 4294967296) (omega (arith, e))) (middle_bytes b c d (x % 4294967296) (omega (arith, e)))
