-- Bytes, one by one: what is open takes them and what is closed does not, and what they come to: the words that are whole are run, and the
-- bits behind them wait. Assumes nothing.
use Rattle.std.proofs.Common.{◌≡◌, ℕ, ◌+◌, ◌-◌, ◌*◌, ◌/◌, ◌%◌, ◌^◌, ◌<◌, ◌≤◌, Bool, true, false, not, ◌||◌, eqb, ltb, ◌≢◌, List, [], ◌∷◌, ◌++◌, length, get_or, take, drop, sym, refl, ap, ◌∙◌, ap₂, append_assoc, append-nil, add-one, arith, length-append, length-drop, drop_of_length-le, drop-cons, ltb-false, ltb-true, le-ltb, lt-ltb, eq-eqb, ne_eqb, eqb-true}
use mathlib.Core.List.{foldl, foldl-append}
use lib.Seq.{take-append-le, drop-append-le}
use borrow.Author.Tests.{not-false}
use Rattle.stream.specs.Format.{bits, number, joined, whole}
use Rattle.stream.proofs.Bits.{Fits, fits_append, fits_drop, bits_fit_lem, length_bits, bits_number, number_bits}
use Rattle.registers.specs.declared.Registers.{Registers}
use Rattle.ground.proofs.Truth.{neither}
use Rattle.machine.specs.Run.{Ran}
use Rattle.machine.specs.Machine.{Memories}
use Rattle.machine.proofs.Runs.{zero_or_not}
use Rattle.instalments.specs.Instalments.{Taking, is_closed, word_in, holding, waiting, poured, byte_in, bytes_in}
use Rattle.instalments.proofs.Rows.{byte_row, number_row, front_word, front_rest, past, whole_short, past_short, whole_more, past_more}
use Rattle.instalments.proofs.Words.{word_low, words_stay}

-- ---- open and closed

-- a number that is not 0 closes
pub closed_refused : (n over : ℕ) → n ≢ 0 → is_closed n over ≡ true
closed_refused n over e = rw (ne_eqb n 0 e)

-- and so does the end
pub closed_told : (n : ℕ) → is_closed n 1 ≡ true
closed_told n = go (eqb n 0)
  where
    go : (b : Bool) → not b || true ≡ true
    go true = refl
    go false = refl

-- with 0, it is open before the end
pub open_before : (n : ℕ) → n ≡ 0 → is_closed n 0 ≡ false
open_before n e = rw (eq-eqb n 0 e)

-- what is open has 0, and the end was not told
pub open_parts : (n over : ℕ) → is_closed n over ≡ false → (n ≡ 0) × (over ≡ 0)
open_parts n over e =
    let p = neither (not (eqb n 0)) (not (eqb over 0)) e in
    (eqb-true n 0 (not-false _ p.0), eqb-true over 0 (not-false _ p.1))

-- a byte of an open record
pub byte_open : (t : Taking) (b : ℕ) → is_closed t.so.refusal t.over ≡ false → byte_in t b ≡ poured t.so (bits t.count t.held ++ bits 8 b)
unfolding byte_in
byte_open t b e = rw e

-- as the code takes it
pub byte_taken : (t : Taking) (b : ℕ) → b < 256 → is_closed t.so.refusal t.over ≡ false
    → poured t.so (bits (t.count + 8) (t.held * 256 + b)) ≡ byte_in t b
byte_taken t b byte e = ap (poured t.so) (byte_row t.count t.held b byte) ∙ sym (byte_open t b e)

-- a closed one takes none
pub byte_closed : (t : Taking) (b : ℕ) → is_closed t.so.refusal t.over ≡ true → byte_in t b ≡ t
unfolding byte_in
byte_closed t b e = rw e

-- ---- a row of bits, as the code pours it

module _ (a : Ran Registers Memories) (row : List ℕ) where
  -- bits wait
  pub waiting_open : a.refusal ≡ 0 → waiting a row ≡ holding a row
  unfolding waiting
  waiting_open e = rw (eq-eqb _ _ e)

  -- after a refused word none do
  pub waiting_closed : a.refusal ≢ 0 → waiting a row ≡ holding a []
  unfolding waiting
  waiting_closed e = rw (ne_eqb _ _ e)

  -- too few for a word
  pub poured_short : length row < 20 → poured a row ≡ waiting a row
  unfolding poured
  poured_short h = rw (lt-ltb _ _ h)

  -- a word and more
  pub poured_word : 20 ≤ length row → poured a row ≡ waiting (word_in a (number (take 20 row))) (drop 20 row)
  unfolding poured
  poured_word h = rw (le-ltb _ _ h)

-- n bits, held as a number
abbrev pub held_of : Ran Registers Memories → ℕ → ℕ → Taking
held_of a v n = record { so = a; held = v; count = n; over = 0 }

module _ (a : Ran Registers Memories) (n v : ℕ) (fits : v < 2 ^ n) where
  -- too few for a word
  pub pour_short : a.refusal ≡ 0 → n < 20 → held_of a v n ≡ poured a (bits n v)
  pour_short goes h =
      sym
      (poured_short a (bits n v) (rw (length_bits n v) h)
      ∙ waiting_open a (bits n v) goes
      ∙ ap₂ (held_of a) (number_row n v fits) (length_bits n v))

  module _ (enough : 20 ≤ n) {b : Ran Registers Memories} (told : b ≡ word_in a (v / 2 ^ (n - 20))) where
    -- the word is run, and the bits behind it wait
    word_off : waiting b (bits (n - 20) v) ≡ poured a (bits n v)
    word_off =
        sym
        (poured_word a (bits n v) (rw (length_bits n v) enough)
        ∙ ap₂ waiting (ap (word_in a) (front_word n v enough fits) ∙ sym told) (front_rest n v enough))

    -- a word that is accepted: these bits as a number
    pub pour_word : b.refusal ≡ 0 → held_of b (v % 2 ^ (n - 20)) (n - 20) ≡ poured a (bits n v)
    pour_word e =
        sym (waiting_open b (bits (n - 20) v) e ∙ ap₂ (held_of b) (number_bits (n - 20) v) (length_bits (n - 20) v))
        ∙ word_off

    -- a word that is refused
    pub pour_refused : b.refusal ≢ 0 → held_of b 0 0 ≡ poured a (bits n v)
    unfolding number
    pour_refused e = sym (waiting_closed b (bits (n - 20) v) e) ∙ word_off

-- ---- one turn of a loop over bytes

-- the bytes that are left are the first of them, and then the rest
pub turn : (bytes : List ℕ) (k : ℕ) → k < length bytes → (t : Taking) → bytes_in t (drop k bytes) ≡ bytes_in (byte_in t (get_or bytes k 0)) (drop (k + 1) bytes)
unfolding bytes_in
turn bytes k h t = rw (add-one, drop-cons bytes k 0 h)

-- nothing is left
pub turn_none : (bytes : List ℕ) (k : ℕ) → length bytes ≤ k → (t : Taking) → bytes_in t (drop k bytes) ≡ t
unfolding bytes_in
turn_none bytes k h t = rw (drop_of_length-le bytes h)

-- ---- what bytes come to

-- bytes in two parts are one part after the other
pub bytes_append : (t : Taking) (bytes more : List ℕ) → bytes_in t (bytes ++ more) ≡ bytes_in (bytes_in t bytes) more
unfolding bytes_in
bytes_append t bytes more = foldl-append byte_in t bytes more

-- a closed record takes none
pub bytes_closed : (bytes : List ℕ) (t : Taking) → is_closed t.so.refusal t.over ≡ true → bytes_in t bytes ≡ t
unfolding bytes_in
bytes_closed [] t e = refl
bytes_closed (b ∷ bytes) t e =
    ap (λ (u : Taking). foldl byte_in u bytes) (byte_closed t b e) ∙ bytes_closed bytes t e

-- a byte's bits come behind those that wait
byte_behind : (a : Ran Registers Memories) (row : List ℕ) (b : ℕ) → a.refusal ≡ 0 → Fits 1 row
    → byte_in (waiting a row) b ≡ poured a (row ++ bits 8 b)
byte_behind a row b goes f =
    ap (λ (t : Taking). byte_in t b) (waiting_open a row goes)
    ∙ byte_open (holding a row) b (open_before _ goes)
    ∙ ap (λ (r : List ℕ). poured a (r ++ bits 8 b)) (bits_number f)

-- what a row of bits comes to: its whole words are run, and the bits behind them wait
abbrev pub come : Ran Registers Memories → List ℕ → Taking
come a row = waiting (foldl word_in a (whole 20 row)) (past row)

-- too few bits for a word wait
come_short : (a : Ran Registers Memories) (row : List ℕ) → length row < 20 → waiting a row ≡ come a row
come_short a row h = ap₂ (λ (ws r : List ℕ). waiting (foldl word_in a ws) r) (sym (whole_short row h)) (sym (past_short row h))

-- a word off the front, and then the rest
come_word : (a : Ran Registers Memories) (row rest : List ℕ) → 20 ≤ length row → come (word_in a (number (take 20 row))) (drop 20 row ++ rest) ≡ come a (row ++ rest)
come_word a row rest h =
    let long : 20 ≤ length (row ++ rest) = omega (arith, length-append row rest) in
    let behind = drop-append-le 20 row rest h in
    sym
    (ap₂ (λ (ws r : List ℕ). waiting (foldl word_in a ws) r) (whole_more (row ++ rest) long) (past_more (row ++ rest) long)
    ∙ ap₂ (λ (w : ℕ) (r : List ℕ). come (word_in a w) r) (ap number (take-append-le 20 row rest h)) behind)

-- one byte, and then the rest
module _ (b : ℕ) (bytes : List ℕ)
    (rest : (a : Ran Registers Memories) (row : List ℕ) → a.index < 2 ^ 64 → Fits 1 row → length row < 20
    → bytes_in (waiting a row) bytes ≡ come a (row ++ joined 8 bytes))
    (a : Ran Registers Memories) (row : List ℕ) (low : a.index < 2 ^ 64) (f : Fits 1 row) (short : length row < 20) where
  -- the bits that wait now
  next : List ℕ
  next = row ++ bits 8 b

  joins : next ++ joined 8 bytes ≡ row ++ (bits 8 b ++ joined 8 bytes)
  unfolding next
  joins = append_assoc row (bits 8 b) (joined 8 bytes)

  size : length next ≡ length row + 8
  unfolding next
  size = length-append row (bits 8 b) ∙ ap (λ (k : ℕ). length row + k) (length_bits 8 b)

  fitting : Fits 1 next
  unfolding next
  fitting = fits_append f (bits_fit_lem 8 b)

  -- before a refused word
  byte_goes : a.refusal ≡ 0 → bytes_in (byte_in (waiting a row) b) bytes ≡ come a (row ++ (bits 8 b ++ joined 8 bytes))
  unfolding next
  byte_goes e = ap (λ (t : Taking). bytes_in t bytes) (byte_behind a row b e f) ∙ go (ltb (length next) 20) refl ∙ ap (come a) joins
    where
      go : (t : Bool) → ltb (length next) 20 ≡ t → bytes_in (poured a next) bytes ≡ come a (next ++ joined 8 bytes)
      go true h =
          let few = ltb-true (length next) 20 h in
          ap (λ (t : Taking). bytes_in t bytes) (poured_short a next few) ∙ rest a next low fitting few
      go false h =
          let enough = ltb-false (length next) 20 h in
          let w = number (take 20 next) in
          ap (λ (t : Taking). bytes_in t bytes) (poured_word a next enough)
          ∙ rest (word_in a w) (drop 20 next) (word_low a w) (fits_drop 20 fitting) (omega (arith, size, length-drop 20 next, short))
          ∙ come_word a next (joined 8 bytes) enough

  -- after one
  byte_stopped : a.refusal ≢ 0 → bytes_in (byte_in (waiting a row) b) bytes ≡ come a (row ++ (bits 8 b ++ joined 8 bytes))
  unfolding bytes_in
  byte_stopped e =
      let all = row ++ (bits 8 b ++ joined 8 bytes) in
      let shut : is_closed (holding a []).so.refusal (holding a []).over ≡ true = closed_refused a.refusal 0 e in
      ap (λ (t : Taking). bytes_in t (b ∷ bytes)) (waiting_closed a row e)
      ∙ bytes_closed (b ∷ bytes) (holding a []) shut
      ∙ sym (waiting_closed a (past all) e)
      ∙ ap (λ (c : Ran Registers Memories). waiting c (past all)) (sym (words_stay (whole 20 all) a low e))

-- bytes behind bits that wait: the words that are whole are run, and the bits behind them wait
pub bytes_row : (bytes : List ℕ) (a : Ran Registers Memories) (row : List ℕ) → a.index < 2 ^ 64 → Fits 1 row → length row < 20
    → bytes_in (waiting a row) bytes ≡ come a (row ++ joined 8 bytes)
unfolding bytes_in joined
bytes_row [] a row low f short = come_short a row short ∙ ap (come a) (sym (append-nil row))
bytes_row (b ∷ bytes) a row low f short =
    zero_or_not a.refusal (byte_goes b bytes (bytes_row bytes) a row low f short) (byte_stopped b bytes (bytes_row bytes) a row low f short)
