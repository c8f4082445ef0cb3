-- The round trips, over the definitions: bits that are cut into numbers and joined again are the same bits, and numbers that are
-- joined and cut the same numbers (proofs/Cut), so what is left is where a stream ends. Assumes nothing.
use mathlib.Core.Path.{◌≡◌, refl, sym, ap, ap₂, ◌∙◌}
use mathlib.Core.Bool.{Bool, true, false, not, ◌&&◌, ◌||◌}
use mathlib.Core.Logic.{◌⊎◌, inl, inr, ⊎_elim}
use mathlib.Core.List.{List, [], ◌∷◌, ◌++◌, append-nil}
use Prim.Native.Nat.{ℕ, zero, suc, ◌+◌, ◌-◌, ◌*◌, ◌/◌, ◌%◌, ◌^◌, ◌≤◌, ◌<◌}
use native.Mathlib.Nat.{lt_of_lt_of_le}
use native.Mathlib.Omega.{arith}
use borrow.Author.Tests.{eqb-true, eqb-false, not-false, eq-eqb}
use lib.Dec.{eqb}
use lib.ListN.{length, get_or, take, drop, take-append-drop, length-drop, length-take, drop_of_length-le}
use lib.Pow.{pow_mono}
use lib.Seq.{take_all, drop-drop, get_or-drop}
use Rattle.ground.proofs.Truth.{neither}
use Rattle.stream.specs.Format.{bits, number, joined, cut, whole, closing, unpack_of, pack_of, word_at}
use Rattle.stream.specs.Calls.{bad_length, bad_tail, checked}
use Rattle.stream.proofs.Bits.{Fits, none, more, fits_at, fits_append, fits_drop, fits_take, number_lt, bits_low}
use Rattle.stream.proofs.Cut.{length_joined, joined_fit, drop_joined, length_cut, cut_joined, joined_cut}
use Rattle.stream.proofs.Stream.{parity, closing_same, length_pack, length_row, pack_end, pack_one}
use Rattle.stream.proofs.Masks.{seam_number}
use Rattle.stream.proofs.Calls.{next_told, good}

-- numbers that are cut from bits have no more bits than that
cut_fits : (k n : ℕ) {bs : List ℕ} → Fits 1 bs → Fits k (cut k n bs)
unfolding cut
cut_fits k zero f = none
cut_fits k (suc n) {bs} f =
    let short : length (take k bs) ≤ k = omega (arith, length-take k bs) in
    more (lt_of_lt_of_le (number_lt (fits_take k f)) (pow_mono short)) (cut_fits k n (fits_drop k f))

zero_bit : 0 < 2 ^ 1
zero_bit = omega arith

closing_fits : (n : ℕ) → Fits 1 (closing n)
unfolding closing
closing_fits n = ⊎_elim (λ e. rw (closing_same n 0 e) none) (λ e. rw (closing_same n 1 e) (more zero_bit (more zero_bit (more zero_bit (more zero_bit none))))) (parity n)

-- a stream's words have at most 20 bits
pub unpack_fits : (s : List ℕ) → Fits 20 (unpack_of s)
unfolding unpack_of whole
unpack_fits s = cut_fits 20 (length (joined 8 s) / 20) (joined_fit 8 s)

-- and so has the word at each place
pub word_fits : (s : List ℕ) (k : ℕ) → word_at s k < 2 ^ 20
unfolding word_at
word_fits s k = fits_at (unpack_fits s) k

-- whole bytes of bits, cut and joined again
whole_joined : (k : ℕ) {bs : List ℕ} → Fits 1 bs → length bs / k * k ≡ length bs → joined k (whole k bs) ≡ bs
unfolding whole
whole_joined k {bs} f e = joined_cut k (length bs / k) f (omega arith) ∙ take_all (length bs / k * k) bs (omega arith)

-- numbers that fit, joined and cut again, whatever follows them that is no whole number
whole_back : (k : ℕ) {ns : List ℕ} → Fits k ns → (rest : List ℕ) → length (joined k ns ++ rest) / k ≡ length ns → whole k (joined k ns ++ rest) ≡ ns
unfolding whole
whole_back k {ns} f rest e = ap (λ (n : ℕ). cut k n (joined k ns ++ rest)) e ∙ cut_joined f rest

-- words of 20 bits, packed and unpacked, are the same words
pub unpack_pack : {ws : List ℕ} → Fits 20 ws → unpack_of (pack_of ws) ≡ ws
unfolding unpack_of pack_of
unpack_pack {ws} f =
    ap (whole 20) (whole_joined 8 (fits_append (joined_fit 20 ws) (closing_fits (length ws))) (omega (arith, length_row ws)))
    ∙ whole_back 20 f (closing (length ws)) (omega (arith, length_row ws))

-- ---- where a good stream ends

-- a good stream's length is that of whole words
length_good : (s : List ℕ) → bad_length s ≡ false → (length s % 5 ≡ 0) ⊎ (length s % 5 ≡ 3)
unfolding bad_length
length_good s e = go (eqb n 3) refl
  where
    n : ℕ
    n = length s % 5

    go : (b : Bool) → eqb n 3 ≡ b → (n ≡ 0) ⊎ (n ≡ 3)
    go true t = inr (eqb-true n 3 t)
    go false t =
        let ones = neither (eqb n 1 || eqb n 2) (eqb n 4) e in
        let one = neither (eqb n 1) (eqb n 2) ones.0 in
        inl (omega (arith, eqb-false n 1 one.0, eqb-false n 2 one.1, eqb-false n 4 ones.1, eqb-false n 3 t))

-- an odd stream's last half byte is 0
tail_zero : (s : List ℕ) → bad_tail s ≡ false → length s % 5 ≡ 3 → get_or s (length s - 1) 0 % 16 ≡ 0
unfolding bad_tail
tail_zero s e h = eqb-true (get_or s (length s - 1) 0 % 16) 0 (not-false (eqb (get_or s (length s - 1) 0 % 16) 0) (rw (eq-eqb (length s % 5) 3 h) at e))

-- past the word in three bytes stands the low half of the last
last_half : (t : List ℕ) → length t ≡ 3 → get_or t 2 0 % 16 ≡ 0 → drop 20 (joined 8 t) ≡ 0 ∷ 0 ∷ 0 ∷ 0 ∷ []
unfolding joined bits
last_half [] e h = absurd (omega arith)
last_half (a ∷ []) e h = absurd (omega arith)
last_half (a ∷ b ∷ []) e h = absurd (omega arith)
last_half (a ∷ b ∷ c ∷ []) e h =
    let high : c ≡ c / 16 * 16 + 0 = omega arith in
    ap (bits 4) high ∙ bits_low 4 (c / 16) 0
last_half (a ∷ b ∷ c ∷ d ∷ t) e h = absurd (omega arith)

-- what lies past the words of a good stream is what packing puts there
module _ (s : List ℕ) where
  past_even : length s % 5 ≡ 0 → drop (length (joined 8 s) / 20 * 20) (joined 8 s) ≡ closing (length (joined 8 s) / 20)
  unfolding closing
  past_even e =
      let words : length (joined 8 s) / 20 ≡ 2 * (length s / 5) = omega (arith, length_joined 8 s) in
      let even : length (joined 8 s) / 20 % 2 ≡ 0 = omega arith in
      drop_of_length-le (joined 8 s) {i = length (joined 8 s) / 20 * 20} (omega (arith, length_joined 8 s)) ∙ sym (rw even)

  past_odd : length s % 5 ≡ 3 → get_or s (length s - 1) 0 % 16 ≡ 0 → drop (length (joined 8 s) / 20 * 20) (joined 8 s) ≡ closing (length (joined 8 s) / 20)
  unfolding closing
  past_odd e z =
      let q = length s / 5 in
      let words : length (joined 8 s) / 20 ≡ 2 * q + 1 = omega (arith, length_joined 8 s) in
      let odd : length (joined 8 s) / 20 % 2 ≡ 1 = omega arith in
      let at : length (joined 8 s) / 20 * 20 ≡ 5 * q * 8 + 20 = omega arith in
      let last : length s - 1 ≡ 5 * q + 2 = omega arith in
      ap (λ (i : ℕ). drop i (joined 8 s)) at
      ∙ sym (drop-drop 20 (5 * q * 8) (joined 8 s))
      ∙ ap (drop 20) (drop_joined 8 (5 * q) s)
      ∙ last_half (drop (5 * q) s) (omega (arith, length-drop (5 * q) s)) (ap (λ (c : ℕ). c % 16) (get_or-drop (5 * q) s 2 0) ∙ (rw last at z))
      ∙ sym (rw odd)

  past_words : bad_length s ≡ false → bad_tail s ≡ false → drop (length (joined 8 s) / 20 * 20) (joined 8 s) ≡ closing (length (joined 8 s) / 20)
  past_words a b = ⊎_elim past_even (λ e. past_odd e (tail_zero s b e)) (length_good s a)

-- a good stream of bytes, unpacked and packed, is the same stream
pub pack_unpack : {s : List ℕ} → Fits 8 s → checked s 0 ≡ 0 → pack_of (unpack_of s) ≡ s
unfolding unpack_of pack_of whole
pack_unpack {s} f g =
    let row = joined 8 s in
    let n = length row / 20 in
    let same : joined 20 (cut 20 n row) ++ closing (length (cut 20 n row)) ≡ row =
    ap₂ (λ (l r : List ℕ). l ++ r) (joined_cut 20 n (joined_fit 8 s) (omega arith)) (ap closing (length_cut 20 n row) ∙ sym (past_words s (good s 0 g).0 (good s 0 g).1))
    ∙ take-append-drop (n * 20) row in
    ap (whole 8) (same ∙ sym (append-nil row)) ∙ whole_back 8 f [] (ap (λ (l : List ℕ). length l / 8) (append-nil row) ∙ omega (arith, length_joined 8 s))

-- ---- what is packed is a good stream

packed_length : (ws : List ℕ) → bad_length (pack_of ws) ≡ false
unfolding bad_length
packed_length ws = ⊎_elim even odd (parity (length ws))
  where
    even : length ws % 2 ≡ 0 → bad_length (pack_of ws) ≡ false
    even t =
        let p : length (pack_of ws) ≡ 5 * (length ws / 2) = omega (arith, length_pack ws) in
        let e : length (pack_of ws) % 5 ≡ 0 = omega arith in
        rw e

    odd : length ws % 2 ≡ 1 → bad_length (pack_of ws) ≡ false
    odd t =
        let p : length (pack_of ws) ≡ 5 * (length ws / 2) + 3 = omega (arith, length_pack ws) in
        let e : length (pack_of ws) % 5 ≡ 3 = omega arith in
        rw e

-- the last byte of an odd number of words ends with the four closing bits
packed_zero : (ws : List ℕ) → length (pack_of ws) % 5 ≡ 3 → get_or (pack_of ws) (length (pack_of ws) - 1) 0 % 16 ≡ 0
packed_zero ws e =
    let j = length ws / 2 in
    let v = get_or ws (2 * j) 0 in
    let last : length (pack_of ws) - 1 ≡ 5 * j + 2 = omega (arith, length_pack ws) in
    let byte : get_or (pack_of ws) (5 * j + 2) 0 ≡ number (bits 4 v ++ bits 4 0) =
    sym (get_or-drop (5 * j) (pack_of ws) 2 0) ∙ ap (λ (l : List ℕ). get_or l 2 0) (pack_end ws j (omega (arith, length_pack ws)) ∙ pack_one v) in
    ap (λ (i : ℕ). get_or (pack_of ws) i 0 % 16) last ∙ ap (λ (b : ℕ). b % 16) (byte ∙ seam_number v 0) ∙ omega arith

packed_tail : (ws : List ℕ) → bad_tail (pack_of ws) ≡ false
unfolding bad_tail
packed_tail ws = go (eqb (length (pack_of ws) % 5) 3) refl
  where
    go : (b : Bool) → eqb (length (pack_of ws) % 5) 3 ≡ b → b && not (eqb (get_or (pack_of ws) (length (pack_of ws) - 1) 0 % 16) 0) ≡ false
    go true t = ap not (eq-eqb (get_or (pack_of ws) (length (pack_of ws) - 1) 0 % 16) 0 (packed_zero ws (eqb-true (length (pack_of ws) % 5) 3 t)))
    go false t = refl

-- packed words are a stream that neither 11 nor 12 refuses
pub packed_good : (ws : List ℕ) → checked (pack_of ws) 0 ≡ 0
packed_good ws = next_told (pack_of ws) 0 (packed_length ws) (packed_tail ws)
