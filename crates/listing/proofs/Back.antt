-- What is listed reads back: the text that `list` writes of some words is read as the same words. Digits come to their number, a line to its
-- word and the next line, and so all lines to all words. Assumes nothing.
use Rattle.std.proofs.Common.{◌≡◌, ℕ, zero, suc, ◌+◌, ◌*◌, ◌/◌, ◌%◌, ◌^◌, ◌<◌, ◌≤◌, Bool, true, false, cond, ◌&&◌, T, ltb, List, [], ◌∷◌, ◌++◌, length, get_or, take, drop, set, sym, refl, ap, ◌∙◌, subst, ap₂, mod-lt, mul_comm, div-lt_iff_lt-mul, zero-add, add-one, arith, length-take-le, take-suc, ltb-false, ltb-true, le-ltb, lt-ltb, ne_eqb}
use mathlib.Core.List.{foldl-append}
use native.Mathlib.Nat.{pow-succ'}
use lib.Seq.{sets, length-sets, take-length, take-append_seam}
use Rattle.stream.specs.Format.{unpack_of, pack_of}
use Rattle.stream.specs.Calls.{checked, over}
use Rattle.stream.proofs.Bits.{Fits, fits_at}
use Rattle.stream.proofs.Round.{unpack_fits, pack_unpack}
use Rattle.report.specs.Calls.{Put}
use Rattle.report.proofs.Putting.{put_byte, put_append, put_over}
use Rattle.listing.specs.declared.read.Mood.TheVariants.{Words, Remark}
use Rattle.report.specs.Text.{glyph, last_digits}
use Rattle.listing.specs.Text.{names, name_of, placed, line, lines, listing}
use Rattle.listing.specs.Reading.{Reading, reading, reader, digit_of, is_end, grown, stored, closed, passed, ended, in_words, remarked, taken, read_on, words_in, at_start}

-- ---- reading on, in parts

-- to read two texts joined is to read the first, and then on through the second
pub read_append : (s : Reading) (a b : List ℕ) → read_on s (a ++ b) ≡ read_on (read_on s a) b
unfolding read_on
read_append s a b = foldl-append taken s a b

-- one part, and then another
reads : (s : Reading) (a b : List ℕ) {t u : Reading} → read_on s a ≡ t → read_on t b ≡ u → read_on s (a ++ b) ≡ u
reads s a b p q = read_append s a b ∙ ap (λ (x : Reading). read_on x b) p ∙ q

-- ---- a digit

digit_low : (d : ℕ) → d < 10 → digit_of (glyph d) ≡ d
unfolding digit_of glyph
digit_low d l = rw (lt-ltb d 10 l, le-ltb (48 + d) 48 (omega arith), lt-ltb (48 + d) 58 (omega (arith, l))) (omega arith)

digit_high : (d : ℕ) → 10 ≤ d → d < 16 → digit_of (glyph d) ≡ d
unfolding digit_of glyph
digit_high d g h =
    rw (
      le-ltb d 10 g,
      le-ltb (55 + d) 48 (omega arith),
      le-ltb (55 + d) 58 (omega (arith, g)),
      le-ltb (55 + d) 65 (omega (arith, g)),
      lt-ltb (55 + d) 71 (omega (arith, h)),
    )
    (omega arith)

-- a digit's character is that digit
digit_glyph : (d : ℕ) → d < 16 → digit_of (glyph d) ≡ d
digit_glyph d h = go (ltb d 10) refl
  where
    go : (b : Bool) → ltb d 10 ≡ b → digit_of (glyph d) ≡ d
    go true e = digit_low d (ltb-true d 10 e)
    go false e = digit_high d (ltb-false d 10 e) h

-- and it ends no line
glyph_quiet : (d : ℕ) → 13 < glyph d
unfolding glyph
glyph_quiet d = go (ltb d 10)
  where
    go : (b : Bool) → 13 < cond b (48 + d) (55 + d)
    go true = omega arith
    go false = omega arith

-- ---- texts without a line's end, which is 10 or 13

-- each byte of the text is above 13, so that none ends a line
pub data Quiet : List ℕ → Type 0 where
  none : Quiet []
  more : {b : ℕ} {text : List ℕ} → 13 < b → Quiet text → Quiet (b ∷ text)

quiet_append : {a b : List ℕ} → Quiet a → Quiet b → Quiet (a ++ b)
quiet_append none r = r
quiet_append (more e q) r = more e (quiet_append q r)

quiet_take : {text : List ℕ} (n : ℕ) → Quiet text → Quiet (take n text)
quiet_take zero q = none
quiet_take (suc n) none = none
quiet_take (suc n) (more e q) = more e (quiet_take n q)

quiet_drop : {text : List ℕ} (n : ℕ) → Quiet text → Quiet (drop n text)
quiet_drop zero q = q
quiet_drop (suc n) none = none
quiet_drop (suc n) (more e q) = quiet_drop n q

quiet_digits : (base k n : ℕ) → Quiet (last_digits base k n)
unfolding last_digits
quiet_digits base zero n = none
quiet_digits base (suc k) n = quiet_append (quiet_digits base k (n / base)) (more (glyph_quiet (n % base)) none)

-- a test of it, which is computed for the names
is_quiet : List ℕ → Bool
is_quiet [] = true
is_quiet (b ∷ text) = ltb 13 b && is_quiet text

quiet_test : (text : List ℕ) → T (is_quiet text) → Quiet text
unfolding is_quiet
quiet_test [] t = none
quiet_test (b ∷ text) t = go (ltb 13 b) refl (quiet_test text) t
  where
    go : (x : Bool) → ltb 13 b ≡ x → (T (is_quiet text) → Quiet text) → T (x && is_quiet text) → Quiet (b ∷ text)
    go true e rest u = more (ltb-true 13 b e) (rest u)
    go false e rest u = absurd u

quiet_names : Quiet names
unfolding names is_quiet
quiet_names = quiet_test names tt

quiet_name : (command : ℕ) → Quiet (name_of command)
unfolding name_of
quiet_name command = quiet_take 6 (quiet_drop (6 * command) quiet_names)

-- ---- a word

module _ (held ln : ℕ) (ws : List ℕ) where
  -- some digits of the next word have come
  begun : ℕ → ℕ → Reading
  begun value count = reading (reader Words value count held ln) ws

  takes_digit : (v n d : ℕ) → d < 16 → n < 5 → taken (begun v n) (glyph d) ≡ begun (v % 65536 * 16 + d) (n + 1)
  unfolding begun taken in_words grown
  takes_digit v n d h l = rw (digit_glyph d h, lt-ltb d 16 h, lt-ltb n 5 l)

  -- a digit, where the digits before it are a number's, without its last digit
  takes_last : (v n : ℕ) → v < 2 ^ 20 → n < 5 → taken (begun (v / 16) n) (glyph (v % 16)) ≡ begun v (n + 1)
  takes_last v n h l =
      let e : v / 16 % 65536 * 16 + v % 16 ≡ v = omega (arith, h) in
      takes_digit (v / 16) n (v % 16) (mod-lt v (omega arith)) l ∙ ap (λ (u : ℕ). begun u (n + 1)) e

  -- the digits of a number, one after the other
  takes_digits : (k v : ℕ) → v < 2 ^ 20 → k ≤ 5 → v < 16 ^ k → read_on (begun 0 0) (last_digits 16 k v) ≡ begun v k
  unfolding read_on last_digits
  takes_digits zero v h l low =
      let none : 0 ≡ v = omega (arith, low) in ap (λ (u : ℕ). begun u 0) none
  takes_digits (suc k) v h l low =
      let less : v / 16 < 16 ^ k = (div-lt_iff_lt-mul {k = 16} {x = v} {y = 16 ^ k} (omega arith)).1 (subst (λ (m : ℕ). v < m) (pow-succ' 16 k ∙ mul_comm 16 (16 ^ k)) low) in
      reads (begun 0 0) (last_digits 16 k (v / 16)) (glyph (v % 16) ∷ []) (takes_digits k (v / 16) (omega (arith, h)) (omega (arith, l)) less) (takes_last v k h (omega (arith, l)))
      ∙ ap (λ (n : ℕ). begun v n) (add-one k)

  -- a space stores the word
  takes_word : (v : ℕ) → held < length ws → taken (begun v 5) 32 ≡ reading (reader Words 0 0 (held + 1) ln) (set ws held v)
  unfolding begun taken in_words digit_of is_end closed stored ended passed
  takes_word v h = rw (lt-ltb held (length ws) h)

  -- a line's end ends it
  takes_end : taken (reading (reader Remark 0 0 held ln) ws) 10 ≡ reading (reader Words 0 0 held ((ln + 1) % 2 ^ 64)) ws
  unfolding taken remarked
  takes_end = refl

  -- and nothing else does
  takes_quiet : (b : ℕ) → 13 < b → taken (reading (reader Remark 0 0 held ln) ws) b ≡ reading (reader Remark 0 0 held ln) ws
  unfolding taken remarked
  takes_quiet b h = rw (ne_eqb b 10 (λ (e : b ≡ 10). omega (arith, e, h)), ne_eqb b 13 (λ (e : b ≡ 13). omega (arith, e, h)))

  takes_remark : {text : List ℕ} → Quiet text → read_on (reading (reader Remark 0 0 held ln) ws) text ≡ reading (reader Remark 0 0 held ln) ws
  unfolding read_on
  takes_remark none = refl
  takes_remark (more {b} {text} e q) = ap (λ (s : Reading). read_on s text) (takes_quiet b e) ∙ takes_remark q

  -- the word is stored, and a remark begins
  takes_marked : (w : ℕ) → held < length ws → read_on (begun w 5) (32 ∷ 35 ∷ 32 ∷ []) ≡ reading (reader Remark 0 0 (held + 1) ln) (set ws held w)
  unfolding read_on taken remarked in_words digit_of is_end closed ended passed
  takes_marked w room = ap (λ (s : Reading). taken (taken s 35) 32) (takes_word w room)

-- ---- a line

-- a line is read as its word, from the next place of the buffer
pub read_line : (held ln index w : ℕ) (ws : List ℕ) → w < 2 ^ 20 → held < length ws
    → read_on (reading (reader Words 0 0 held ln) ws) (line index w) ≡ reading (reader Words 0 0 (held + 1) ((ln + 1) % 2 ^ 64)) (set ws held w)
unfolding line placed begun read_on
read_line held ln index w ws h room =
    let s = reading (reader Words 0 0 held ln) ws in
    let word = last_digits 16 5 w in
    let mark : List ℕ = 32 ∷ 35 ∷ 32 ∷ [] in
    let place = last_digits 10 7 index in
    let name = name_of (w / 65536 % 16) in
    let operand = last_digits 16 4 w in
    let marked = reads s word mark (takes_digits held ln ws 5 w h (omega arith) h) (takes_marked held ln ws w room) in
    let placed = reads s (word ++ mark) place marked (takes_remark (held + 1) ln (set ws held w) (quiet_digits 10 7 index)) in
    let named = reads s (word ++ mark ++ place) name placed (takes_remark (held + 1) ln (set ws held w) (quiet_name (w / 65536 % 16))) in
    let all = reads s (word ++ mark ++ place ++ name) operand named (takes_remark (held + 1) ln (set ws held w) (quiet_digits 16 4 w)) in
    reads s (word ++ mark ++ place ++ name ++ operand) (10 ∷ []) all (takes_end (held + 1) ln (set ws held w))

-- ---- all lines

module _ (from : ℕ) (ws buffer : List ℕ) (f : Fits 20 ws) (room : length ws ≤ length buffer) where
  -- one word more stands behind the others
  stored_more : (k : ℕ) → k < length ws → set (sets buffer 0 (take k ws)) k (get_or ws k 0) ≡ sets buffer 0 (take (k + 1) ws)
  stored_more k h =
      let all : Put (take k ws) buffer 0 (sets buffer 0 (take k ws)) k =
      record { stands = refl; ends = sym (zero-add (length (take k ws)) ∙ length-take-le k ws (omega (arith, h))) } in
      (put_append all (put_byte (sets buffer 0 (take k ws)) k (get_or ws k 0))).stands
      ∙ ap (sets buffer 0) (sym (take-suc ws k 0 h) ∙ ap (λ (n : ℕ). take n ws) (sym (add-one k)))

  read_lines : (k : ℕ) → k ≤ length ws → read_on (reading at_start buffer) (lines from ws k) ≡ reading (reader Words 0 0 k ((1 + k) % 2 ^ 64)) (sets buffer 0 (take k ws))
  unfolding lines read_on
  read_lines zero h = refl
  read_lines (suc k) h =
      let low : k < length (sets buffer 0 (take k ws)) = omega (arith, h, room, length-sets buffer 0 (take k ws)) in
      let next : ((1 + k) % 2 ^ 64 + 1) % 2 ^ 64 ≡ (1 + suc k) % 2 ^ 64 = omega arith in
      reads (reading at_start buffer) (lines from ws k) (line (from + k) (get_or ws k 0)) (read_lines k (omega (arith, h)))
      (read_line k ((1 + k) % 2 ^ 64) (from + k) (get_or ws k 0) (sets buffer 0 (take k ws)) (fits_at f k) low)
      ∙ ap₂ (λ (ln : ℕ) (stored : List ℕ). reading (reader Words 0 0 (k + 1) ln) stored) next (stored_more k h)
      ∙ rw (add-one k)

  -- what is listed is read as the same words, from the front of the buffer on; the reader stands between words, on the line after the last
  pub back : read_on (reading at_start buffer) (listing from ws) ≡ reading (reader Words 0 0 (length ws) ((1 + length ws) % 2 ^ 64)) (over ws buffer)
  unfolding listing
  back =
      let whole : Put ws buffer 0 (sets buffer 0 ws) (length ws) = record { stands = refl; ends = sym (zero-add (length ws)) } in
      read_lines (length ws) (omega arith)
      ∙ ap (reading (reader Words 0 0 (length ws) ((1 + length ws) % 2 ^ 64))) (ap (sets buffer 0) (take-length ws) ∙ (put_over room whole).1)

-- a recording that is listed, read and packed again is the same recording
pub recording_back : {bytes : List ℕ} (buffer : List ℕ) (from : ℕ) → Fits 8 bytes → checked bytes 0 ≡ 0 → length (unpack_of bytes) ≤ length buffer
    → pack_of (words_in (read_on (reading at_start buffer) (listing from (unpack_of bytes)))) ≡ bytes
unfolding words_in over
recording_back {bytes} buffer from f good room =
    let words = unpack_of bytes in
    ap (λ (s : Reading). pack_of (words_in s)) (back from words buffer (unpack_fits bytes) room)
    ∙ ap pack_of (take-append_seam words (drop (length words) buffer))
    ∙ pack_unpack f good
