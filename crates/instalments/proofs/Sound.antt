-- Records that break no bound: what that comes to, that every call leaves one, and what a call makes of any other. Assumes nothing.
use Rattle.std.proofs.Common.{◌≡◌, ℕ, ◌+◌, ◌*◌, ◌%◌, ◌^◌, ◌<◌, Bool, true, false, cond, not, ◌&&◌, ◌||◌, eqb, ltb, ◌≢◌, List, [], ◌∷◌, ◌++◌, length, take, drop, refl, ap, ◌∙◌, arith, length-append, length-drop, length-take-le, ltb-false, ltb-true, eq-eqb, eqb-true}
use borrow.Author.Tests.{eqb-false}
use Rattle.stream.specs.Format.{bits, number}
use Rattle.stream.proofs.Bits.{Fits, fits_append, fits_drop, fits_take, bits_fit_lem, length_bits, number_lt}
use Rattle.registers.specs.declared.Registers.{Registers}
use Rattle.registers.specs.Record.{settings}
use Rattle.refusals.specs.Bounds.{in_bounds}
use Rattle.ground.proofs.Truth.{both, and_both}
use Rattle.refusals.proofs.Kept.{reset_kept}
use Rattle.machine.specs.Run.{Ran}
use Rattle.machine.specs.Machine.{Memories}
use Rattle.machine.proofs.Runs.{zero_or_not}
use Rattle.instalments.specs.declared.Intake.{Intake}
use Rattle.instalments.specs.Instalments.{Taking, intake_of, fresh, is_closed, is_word_number, is_end_number, number_fits, bits_fit, begun_fits, is_sound, unsound, given, word_in, waiting, poured, byte_in, bytes_in, feeding, end_number, end_number_of, end_told, ending}
use Rattle.instalments.proofs.Rows.{bits_open, open_bits, half_odd, closed_bits}
use Rattle.instalments.proofs.Words.{Fine, word_fine, word_bits}
use Rattle.instalments.proofs.Bytes.{closed_refused, closed_told, open_before, open_parts, waiting_open, waiting_closed, poured_short, poured_word, byte_open, byte_closed, bytes_append, bytes_closed}

-- ---- the bounds, one by one

-- each bound of a record by itself: on the bits held, the number told, the words run before the first INIT, and the registers
pub record Parts (s : Intake) : Type 0 where
  pub bits : bits_fit (is_closed s.refusal s.over) s.index s.held s.count ≡ true
  pub tells : number_fits s.over s.index s.refusal ≡ true
  pub begun : begun_fits s.index s.sum s.registers ≡ true
  pub kept : in_bounds s.registers ≡ true

module _ (s : Intake) where
  -- a record that breaks no bound keeps each of them
  pub sound_parts : is_sound s ≡ true → Parts s
  unfolding is_sound
  sound_parts e =
      let tells = number_fits s.over s.index s.refusal in
      let begun = begun_fits s.index s.sum s.registers in
      let p = both (bits_fit (is_closed s.refusal s.over) s.index s.held s.count) (tells && (begun && in_bounds s.registers)) e in
      let q = both tells (begun && in_bounds s.registers) p.1 in
      let r = both begun (in_bounds s.registers) q.1 in
      record { bits = p.0; tells = q.0; begun = r.0; kept = r.1 }

  -- a record that keeps each of them breaks no bound
  pub parts_sound : Parts s → is_sound s ≡ true
  unfolding is_sound
  parts_sound p = and_both p.bits (and_both p.tells (and_both p.begun p.kept))

  -- what an open one holds
  pub open_holds : is_sound s ≡ true → is_closed s.refusal s.over ≡ false
      → (s.count < 20) × ((20 * s.index + s.count) % 8 ≡ 0) × (s.held < 2 ^ s.count)
  open_holds e opened = bits_open s.index s.held s.count (rw opened at (sound_parts e).bits)

-- ---- what a call comes to

module _ (t next : Taking) where
  -- a record that breaks no bound goes on
  pub given_sound : is_sound (intake_of t) ≡ true → given t next ≡ next
  unfolding given
  given_sound e = rw e

  -- any other is refused
  pub given_unsound : is_sound (intake_of t) ≡ false → given t next ≡ unsound t
  unfolding given
  given_unsound e = rw e

module _ (t : Taking) where
  -- so an instalment is its bytes
  pub feeding_bytes : is_sound (intake_of t) ≡ true → (bytes : List ℕ) → feeding t bytes ≡ bytes_in t bytes
  unfolding feeding
  feeding_bytes e bytes = given_sound t (bytes_in t bytes) e

  -- or is refused
  pub feeding_refused : is_sound (intake_of t) ≡ false → (bytes : List ℕ) → feeding t bytes ≡ unsound t
  unfolding feeding
  feeding_refused e bytes = given_unsound t (bytes_in t bytes) e

  -- the end of an open record is told
  pub ending_open : is_sound (intake_of t) ≡ true → is_closed t.so.refusal t.over ≡ false → ending t ≡ end_told t
  unfolding ending
  ending_open e c = rw (given_sound t _ e, c)

  -- a closed one stays
  pub ending_stays : is_sound (intake_of t) ≡ true → is_closed t.so.refusal t.over ≡ true → ending t ≡ t
  unfolding ending
  ending_stays e c = rw (given_sound t _ e, c)

  -- and one that breaks a bound is refused
  pub ending_refused : is_sound (intake_of t) ≡ false → ending t ≡ unsound t
  unfolding ending
  ending_refused e = given_unsound t _ e

-- what was refused is refused again by the next instalment, or repeated where only the number broke a bound
pub refused_again : (t : Taking) (bytes : List ℕ) → feeding (unsound t) bytes ≡ unsound t
refused_again t bytes = go (is_sound (intake_of (unsound t))) refl
  where
    go : (b : Bool) → is_sound (intake_of (unsound t)) ≡ b → feeding (unsound t) bytes ≡ unsound t
    go true e = feeding_bytes (unsound t) e bytes ∙ bytes_closed bytes (unsound t) refl
    go false e = feeding_refused (unsound t) e bytes

-- ---- every call leaves a record that breaks no bound

-- the first
pub fresh_sound : is_sound fresh ≡ true
unfolding settings
fresh_sound = parts_sound fresh (record { bits = open_bits 0 0 0 (omega arith) refl (omega arith); tells = refl; begun = refl; kept = reset_kept })

-- bits that wait
waiting_sound : (a : Ran Registers Memories) (row : List ℕ) → Fine a → Fits 1 row
    → (a.refusal ≡ 0 → (length row < 20) × ((20 * a.index + length row) % 8 ≡ 0))
    → is_sound (intake_of (waiting a row)) ≡ true
unfolding number
waiting_sound a row h f left = zero_or_not a.refusal goes stopped
  where
    tells : number_fits 0 a.index a.refusal ≡ true
    tells = rw h.tells

    goes : a.refusal ≡ 0 → is_sound (intake_of (waiting a row)) ≡ true
    goes e =
        let bits = open_bits a.index (number row) (length row) (left e).0 (left e).1 (number_lt f) in
        rw (waiting_open a row e)
        (parts_sound _ (record { bits = rw (open_before a.refusal e) bits; tells = tells; begun = h.begun; kept = h.kept }))

    stopped : a.refusal ≢ 0 → is_sound (intake_of (waiting a row)) ≡ true
    stopped e =
        let bits = closed_bits a.index in
        rw (waiting_closed a row e)
        (parts_sound _ (record { bits = rw (closed_refused a.refusal 0 e) bits; tells = tells; begun = h.begun; kept = h.kept }))

-- a byte's bits behind fewer than twenty
poured_sound : (a : Ran Registers Memories) (row : List ℕ) → Fine a → Fits 1 row → length row < 28 → (20 * a.index + length row) % 8 ≡ 0
    → is_sound (intake_of (poured a row)) ≡ true
poured_sound a row h f few left = go (ltb (length row) 20) refl
  where
    go : (b : Bool) → ltb (length row) 20 ≡ b → is_sound (intake_of (poured a row)) ≡ true
    go true e = let short = ltb-true (length row) 20 e in rw (poured_short a row short) (waiting_sound a row h f (λ z. (short, left)))
    go false e =
        let enough = ltb-false (length row) 20 e in
        let w = number (take 20 row) in
        let twenty : length (take 20 row) ≡ 20 = length-take-le 20 row enough in
        let low : w < 2 ^ 20 = rw twenty at (number_lt (fits_take 20 f)) in
        rw (poured_word a row enough)
        (waiting_sound (word_in a w) (drop 20 row) (word_fine a w low h) (fits_drop 20 f)
        (λ z.
        let behind : length row ≡ 20 + length (drop 20 row) = omega (arith, enough, length-drop 20 row) in
        (omega (arith, few, behind), word_bits a w z (length (drop 20 row)) (rw behind at left))))

-- a byte
pub byte_sound : (t : Taking) (b : ℕ) → is_sound (intake_of t) ≡ true → is_sound (intake_of (byte_in t b)) ≡ true
byte_sound t b h = go (is_closed t.so.refusal t.over) refl
  where
    go : (c : Bool) → is_closed t.so.refusal t.over ≡ c → is_sound (intake_of (byte_in t b)) ≡ true
    go true e = rw (byte_closed t b e) h
    go false e =
        let p = sound_parts (intake_of t) h in
        let q = open_holds (intake_of t) h e in
        let goes = (open_parts t.so.refusal t.over e).0 in
        let fine : Fine t.so = record { kept = p.kept; tells = ap is_word_number goes; begun = p.begun } in
        let row = bits t.count t.held ++ bits 8 b in
        let size : length row ≡ t.count + 8 = length-append (bits t.count t.held) (bits 8 b) ∙ omega (arith, length_bits t.count t.held, length_bits 8 b) in
        rw (byte_open t b e)
        (poured_sound t.so row fine (fits_append (bits_fit_lem t.count t.held) (bits_fit_lem 8 b)) (omega (arith, size, q.0)) (omega (arith, size, q.1)))

-- bytes
pub bytes_sound : (bytes : List ℕ) (t : Taking) → is_sound (intake_of t) ≡ true → is_sound (intake_of (bytes_in t bytes)) ≡ true
unfolding bytes_in
bytes_sound [] t h = h
bytes_sound (b ∷ bytes) t h = bytes_sound bytes (byte_in t b) (byte_sound t b h)

-- the end tells one of its numbers
end_tells : (index held count ni nz : ℕ) → (20 * index + count) % 8 ≡ 0 → held < 2 ^ count → is_end_number index (end_number held count ni nz) ≡ true
end_tells index held count ni nz left fits = go (eqb count 0) (eqb count 4) (eqb held 0) (eqb ni nz) refl refl refl
  where
    go : (none half still same : Bool) → eqb count 0 ≡ none → eqb count 4 ≡ half → eqb held 0 ≡ still
        → is_end_number index (cond (not (none || half)) 11 (cond (not still) 12 (cond same 0 2))) ≡ true
    go true half true true p q r = refl
    go true half true false p q r = refl
    go true half false same p q r =
        let empty = eqb-true count 0 p in
        let low : held < 2 ^ 0 = rw empty at fits in
        absurd (eqb-false held 0 r (omega arith))
    go false true true true p q r = refl
    go false true true false p q r = refl
    go false true false same p q r = let half = eqb-true count 4 q in eq-eqb (index % 2) 1 (half_odd index (rw half at left))
    go false false still same p q r = refl

module _ (t : Taking) (h : is_sound (intake_of t) ≡ true) where
  -- an instalment
  pub feeding_sound : (bytes : List ℕ) → is_sound (intake_of (feeding t bytes)) ≡ true
  feeding_sound bytes = rw (feeding_bytes t h bytes) (bytes_sound bytes t h)

  -- the end
  pub ending_sound : is_sound (intake_of (ending t)) ≡ true
  ending_sound = go (is_closed t.so.refusal t.over) refl
    where
      go : (c : Bool) → is_closed t.so.refusal t.over ≡ c → is_sound (intake_of (ending t)) ≡ true
      go true e = rw (ending_stays t h e) h
      go false e =
          let p = sound_parts (intake_of t) h in
          let q = open_holds (intake_of t) h e in
          let tells = end_tells t.so.index t.held t.count (length t.so.memories.i) (length t.so.memories.z) q.1 q.2 in
          rw (ending_open t h e)
          (parts_sound _ (record { bits = rw (closed_told (end_number_of t)) (closed_bits t.so.index); tells = tells; begun = p.begun; kept = p.kept }))

-- ---- an instalment in two parts

-- is one after the other, from every record
pub feeding_append : (t : Taking) (bytes more : List ℕ) → feeding t (bytes ++ more) ≡ feeding (feeding t bytes) more
feeding_append t bytes more = go (is_sound (intake_of t)) refl
  where
    go : (b : Bool) → is_sound (intake_of t) ≡ b → feeding t (bytes ++ more) ≡ feeding (feeding t bytes) more
    go true e =
        rw (feeding_bytes t e (bytes ++ more), feeding_bytes t e bytes, feeding_bytes (bytes_in t bytes) (bytes_sound bytes t e) more) (bytes_append t bytes more)
    go false e = rw (feeding_refused t e (bytes ++ more), feeding_refused t e bytes, refused_again t more)
