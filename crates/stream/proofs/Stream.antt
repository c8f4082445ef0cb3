-- Streams by five bytes and two words, which is how the code goes through them. Assumes nothing.
use mathlib.Core.Path.{◌≡◌, refl, sym, ap, ap₂, ◌∙◌}
use mathlib.Core.Bool.{Bool, true, false}
use mathlib.Core.Logic.{◌⊎◌, inl, inr, ⊎_elim}
use mathlib.Core.List.{List, [], ◌∷◌, ◌++◌}
use Prim.Native.Nat.{ℕ, suc, ◌+◌, ◌-◌, ◌*◌, ◌/◌, ◌%◌, ◌≤◌}
use native.Mathlib.Nat.{add-zero}
use native.Mathlib.Omega.{arith}
use borrow.Author.Tests.{eqb-true, eqb-false}
use lib.Dec.{eqb}
use lib.ListN.{length, get_or, take, drop, length-append, length-drop, drop_of_length-le, get_or-eq_default}
use lib.Seq.{drop-cons, drop-append-le, get_or-drop}
use Rattle.stream.specs.Format.{bits, number, joined, cut, whole, unpack_of, pack_of, closing, word_at}
use Rattle.stream.proofs.Bits.{bits_split}
use Rattle.stream.proofs.Cut.{length_joined, drop_joined, length_cut, drop_cut, get_d_cut_lem}

-- ---- how many

-- n bytes hold 2 n / 5 words, rounded down
pub length_unpack : (s : List ℕ) → length (unpack_of s) ≡ length s * 2 / 5
unfolding unpack_of whole
length_unpack s = length_cut 20 (length (joined 8 s) / 20) (joined 8 s) ∙ omega (arith, length_joined 8 s)

-- a number is even or odd
pub parity : (n : ℕ) → (n % 2 ≡ 0) ⊎ (n % 2 ≡ 1)
parity n = go (eqb (n % 2) 1) refl
  where
    go : (b : Bool) → eqb (n % 2) 1 ≡ b → (n % 2 ≡ 0) ⊎ (n % 2 ≡ 1)
    go true t = inr (eqb-true (n % 2) 1 t)
    go false t = inl (omega (arith, eqb-false (n % 2) 1 t))

-- the closing bits go by whether the number is odd
pub closing_same : (m n : ℕ) → m % 2 ≡ n % 2 → closing m ≡ closing n
unfolding closing
closing_same m n e = rw e

length_closing : (n : ℕ) → length (closing n) ≡ n % 2 * 4
unfolding closing
length_closing n =
    ⊎_elim (λ e. ap length (closing_same n 0 e) ∙ ap (λ (b : ℕ). b * 4) (sym e)) (λ e. ap length (closing_same n 1 e) ∙ ap (λ (b : ℕ). b * 4) (sym e)) (parity n)

-- the bits of some words and those that close them are 20 for each word, and four more where the number of words is odd
pub length_row : (ws : List ℕ) → length (joined 20 ws ++ closing (length ws)) ≡ length ws * 20 + length ws % 2 * 4
length_row ws = length-append (joined 20 ws) (closing (length ws)) ∙ ap₂ (λ (i j : ℕ). i + j) (length_joined 20 ws) (length_closing (length ws))

-- n words make 5 n / 2 bytes, rounded up
pub length_pack : (ws : List ℕ) → length (pack_of ws) ≡ (length ws * 5 + 1) / 2
unfolding pack_of whole
length_pack ws = length_cut 8 (length (joined 20 ws ++ closing (length ws)) / 8) (joined 20 ws ++ closing (length ws)) ∙ omega (arith, length_row ws)

-- ---- past so many pairs

-- past 2 j words stand the words past 5 j bytes
pub drop_unpack : (j : ℕ) (s : List ℕ) → drop (2 * j) (unpack_of s) ≡ unpack_of (drop (5 * j) s)
unfolding unpack_of whole
drop_unpack j s =
    let e : 2 * j * 20 ≡ 5 * j * 8 = omega arith in
    let row : drop (2 * j * 20) (joined 8 s) ≡ joined 8 (drop (5 * j) s) = ap (λ (i : ℕ). drop i (joined 8 s)) e ∙ drop_joined 8 (5 * j) s in
    let count : length (joined 8 s) / 20 - 2 * j ≡ length (joined 8 (drop (5 * j) s)) / 20 =
    omega (arith, length_joined 8 s, length_joined 8 (drop (5 * j) s), length-drop (5 * j) s) in
    drop_cut 20 (2 * j) (length (joined 8 s) / 20) (joined 8 s) ∙ ap₂ (λ (n : ℕ) (bs : List ℕ). cut 20 n bs) count row

-- past 5 j bytes stand the bytes of the words past 2 j
pub drop_pack : (j : ℕ) (ws : List ℕ) → 2 * j ≤ length ws → drop (5 * j) (pack_of ws) ≡ pack_of (drop (2 * j) ws)
unfolding pack_of whole
drop_pack j ws h =
    let e : 5 * j * 8 ≡ 2 * j * 20 = omega arith in
    let m : length (drop (2 * j) ws) ≡ length ws - 2 * j = length-drop (2 * j) ws in
    let row : drop (5 * j * 8) (joined 20 ws ++ closing (length ws)) ≡ joined 20 (drop (2 * j) ws) ++ closing (length (drop (2 * j) ws)) =
    ap (λ (i : ℕ). drop i (joined 20 ws ++ closing (length ws))) e
    ∙ drop-append-le (2 * j * 20) (joined 20 ws) (closing (length ws)) (omega (arith, length_joined 20 ws))
    ∙ ap₂ (λ (l r : List ℕ). l ++ r) (drop_joined 20 (2 * j) ws) (closing_same (length ws) (length (drop (2 * j) ws)) (omega arith)) in
    let count : length (joined 20 ws ++ closing (length ws)) / 8 - 5 * j ≡ length (joined 20 (drop (2 * j) ws) ++ closing (length (drop (2 * j) ws))) / 8 =
    omega (arith, length_row ws, length_row (drop (2 * j) ws)) in
    drop_cut 8 (5 * j) (length (joined 20 ws ++ closing (length ws)) / 8) (joined 20 ws ++ closing (length ws)) ∙ ap₂ (λ (n : ℕ) (bs : List ℕ). cut 8 n bs) count row

-- ---- a word from its bytes

-- the first word of a stream: two bytes and the high half of a third
first_word : (s : List ℕ) → 3 ≤ length s → word_at s 0 ≡ number (take 20 (joined 8 (get_or s 0 0 ∷ get_or s 1 0 ∷ get_or s 2 0 ∷ [])))
unfolding word_at unpack_of whole joined bits
first_word [] h = absurd (omega arith)
first_word (a ∷ []) h = absurd (omega arith)
first_word (a ∷ b ∷ []) h = absurd (omega arith)
first_word (a ∷ b ∷ c ∷ s) h = get_d_cut_lem 20 0 (length (joined 8 (a ∷ b ∷ c ∷ s)) / 20) (joined 8 (a ∷ b ∷ c ∷ s)) (omega arith)

-- the second: the low half of the third byte and two more
second_word : (s : List ℕ) → 5 ≤ length s → word_at s 1 ≡ number (drop 4 (joined 8 (get_or s 2 0 ∷ get_or s 3 0 ∷ get_or s 4 0 ∷ [])))
unfolding word_at unpack_of whole joined bits
second_word [] h = absurd (omega arith)
second_word (a ∷ []) h = absurd (omega arith)
second_word (a ∷ b ∷ []) h = absurd (omega arith)
second_word (a ∷ b ∷ c ∷ []) h = absurd (omega arith)
second_word (a ∷ b ∷ c ∷ d ∷ []) h = absurd (omega arith)
second_word (a ∷ b ∷ c ∷ d ∷ e ∷ s) h =
    get_d_cut_lem 20 1 (length (joined 8 (a ∷ b ∷ c ∷ d ∷ e ∷ s)) / 20) (joined 8 (a ∷ b ∷ c ∷ d ∷ e ∷ s)) (omega arith)

-- the same, from byte i on
module _ (s : List ℕ) (i : ℕ) where
  -- the first word from byte i on is two bytes and the high half of a third
  pub word_high : i + 3 ≤ length s → word_at (drop i s) 0 ≡ number (take 20 (joined 8 (get_or s i 0 ∷ get_or s (i + 1) 0 ∷ get_or s (i + 2) 0 ∷ [])))
  word_high h =
      first_word (drop i s) (omega (arith, length-drop i s))
      ∙ rw (get_or-drop i s 0 0, get_or-drop i s 1 0, get_or-drop i s 2 0, add-zero i)

  -- the second word from byte i on is the low half of the third byte and two bytes more
  pub word_low : i + 5 ≤ length s → word_at (drop i s) 1 ≡ number (drop 4 (joined 8 (get_or s (i + 2) 0 ∷ get_or s (i + 3) 0 ∷ get_or s (i + 4) 0 ∷ [])))
  word_low h =
      second_word (drop i s) (omega (arith, length-drop i s))
      ∙ rw (get_or-drop i s 2 0, get_or-drop i s 3 0, get_or-drop i s 4 0)

-- word 2 j + i of a stream is word i from byte 5 j on
pub word_there : (s : List ℕ) (j i : ℕ) → word_at s (2 * j + i) ≡ word_at (drop (5 * j) s) i
unfolding word_at
word_there s j i = sym (get_or-drop (2 * j) (unpack_of s) i 0) ∙ ap (λ (l : List ℕ). get_or l i 0) (drop_unpack j s)

-- ---- bytes from their words

-- no words make no bytes
pub pack_none : pack_of [] ≡ []
unfolding pack_of whole joined closing cut
pack_none = refl

-- the first word of a pair gives two bytes and a half, the second a half and two bytes
first_bits : (v : ℕ) → bits 20 v ≡ bits 8 (v / 4096) ++ (bits 8 (v / 16) ++ bits 4 v)
first_bits v = bits_split 8 12 v ∙ ap (λ (l : List ℕ). bits 8 (v / 4096) ++ l) (bits_split 8 4 v)

second_bits : (w : ℕ) → bits 20 w ≡ bits 4 (w / 65536) ++ (bits 8 (w / 256) ++ bits 8 w)
second_bits w = bits_split 4 16 w ∙ ap (λ (l : List ℕ). bits 4 (w / 65536) ++ l) (bits_split 8 8 w)

-- a last word, with the four zero bits after it
pub pack_one : (v : ℕ) → pack_of (v ∷ []) ≡ number (bits 8 (v / 4096)) ∷ number (bits 8 (v / 16)) ∷ number (bits 4 v ++ bits 4 (0 / 65536)) ∷ []
unfolding pack_of whole joined closing cut bits
pack_one v = ap (λ (l : List ℕ). whole 8 ((l ++ []) ++ closing 1)) (first_bits v)

-- two words, and those after them
pub pack_two : (v w : ℕ) (ws : List ℕ)
    → pack_of (v ∷ w ∷ ws)
    ≡ number (bits 8 (v / 4096)) ∷ number (bits 8 (v / 16)) ∷ number (bits 4 v ++ bits 4 (w / 65536)) ∷ number (bits 8 (w / 256)) ∷ number (bits 8 w) ∷ pack_of ws
unfolding pack_of whole joined closing cut bits
pack_two v w ws =
    let rest = joined 20 ws ++ closing (length ws) in
    let count : length (joined 20 (v ∷ w ∷ ws) ++ closing (length ws)) / 8 ≡ suc (suc (suc (suc (suc (length rest / 8))))) = omega arith in
    ap (λ (c : List ℕ). whole 8 (joined 20 (v ∷ w ∷ ws) ++ c)) (closing_same (suc (suc (length ws))) (length ws) (omega arith))
    ∙ ap (λ (m : ℕ). cut 8 m (joined 20 (v ∷ w ∷ ws) ++ closing (length ws))) count
    ∙ ap₂ (λ (l r : List ℕ). cut 8 (suc (suc (suc (suc (suc (length rest / 8)))))) ((l ++ (r ++ joined 20 ws)) ++ closing (length ws))) (first_bits v) (second_bits w)

-- four words, and none after them
pub pack_four : (a b c d : ℕ)
    → pack_of (a ∷ b ∷ c ∷ d ∷ [])
    ≡ number (bits 8 (a / 4096)) ∷ number (bits 8 (a / 16)) ∷ number (bits 4 a ++ bits 4 (b / 65536)) ∷ number (bits 8 (b / 256)) ∷ number (bits 8 b)
    ∷ number (bits 8 (c / 4096)) ∷ number (bits 8 (c / 16)) ∷ number (bits 4 c ++ bits 4 (d / 65536)) ∷ number (bits 8 (d / 256)) ∷ number (bits 8 d) ∷ []
pack_four a b c d = rw (pack_two a b (c ∷ d ∷ []), pack_two c d [], pack_none)

-- past the pairs of an odd number of words stands the last
pub pack_end : (ws : List ℕ) (j : ℕ) → 2 * j + 1 ≡ length ws → drop (5 * j) (pack_of ws) ≡ pack_of (get_or ws (2 * j) 0 ∷ [])
pack_end ws j h =
    drop_pack j ws (omega arith)
    ∙ ap pack_of
    (drop-cons ws (2 * j) 0 (omega arith) ∙ ap (λ (l : List ℕ). get_or ws (2 * j) 0 ∷ l) (drop_of_length-le ws {i = suc (2 * j)} (omega arith)))

-- past the last word stands none
pub word_past : (s : List ℕ) (k : ℕ) → length (unpack_of s) ≤ k → word_at s k ≡ 0
unfolding word_at
word_past s k h = get_or-eq_default (unpack_of s) 0 h
