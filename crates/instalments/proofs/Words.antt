-- Words, one by one: a word's outcome, added to a run that is counted modulo 2 ^ 64; words in a row are the chip's run, so counted; and the
-- bounds that a run keeps. Assumes nothing.
use Rattle.std.proofs.Common.{◌≡◌, ℕ, ◌+◌, ◌*◌, ◌/◌, ◌%◌, ◌^◌, ◌<◌, Bool, true, false, not, ◌&&◌, ◌||◌, eqb, ltb, ◌≢◌, List, [], ◌∷◌, map, length, sym, refl, ap, ◌∙◌, subst, ap₂, true≢false, mod-lt, mod-eq_of_lt, arith, ltb-false, le-ltb, eq-eqb, ne_eqb, eqb-true}
use mathlib.Core.List.{foldl}
use Rattle.registers.specs.declared.Registers.{Registers}
use Rattle.registers.specs.Word.{word_of}
use Rattle.refusals.specs.Bounds.{in_bounds}
use Rattle.refusals.specs.Refusal.{is_unknown, is_cold, refusal_of}
use Rattle.ground.proofs.Truth.{both, and_both}
use Rattle.refusals.proofs.Commands.{decode_unknown}
use Rattle.refusals.proofs.Refusals.{given_1, given_11, given_12, given_13, given_most}
use Rattle.refusals.proofs.Begun.{accepted_begun}
use Rattle.machine.specs.Run.{Outcome, outcome, Ran, ran, advance, run_from}
use Rattle.machine.specs.Machine.{Memories, step_of}
use Rattle.machine.proofs.Runs.{advance_accepted, advance_refused, advance_stays, Comes, took, halted, stood, comes}
use Rattle.machine.proofs.Steps.{step_accepted, step_number, refused_leaves}
use Rattle.chip.specs.Chip.{chip}
use Rattle.chip.proofs.Laws.{step_kept}
use Rattle.instalments.specs.Instalments.{is_word_number, begun_fits, counted, word_in}
use Rattle.instalments.proofs.Rows.{counted_words}

-- a count below 2 ^ 64 is told as it is
pub counted_low : (a : Ran Registers Memories) → a.index < 2 ^ 64 → counted a ≡ a
counted_low a h = ap (λ (k : ℕ). ran a.refusal k a.sum a.registers a.memories) (mod-eq_of_lt h)

-- counted twice is counted once
twice : (a : Ran Registers Memories) → counted (counted a) ≡ counted a
twice a = ap (λ (k : ℕ). ran a.refusal k a.sum a.registers a.memories) (mod-eq_of_lt (mod-lt a.index (omega arith)))

-- and one more may be counted before or after
count_on : (k : ℕ) → (k % 2 ^ 64 + 1) % 2 ^ 64 ≡ (k + 1) % 2 ^ 64
count_on k = omega arith

module _ (a : Ran Registers Memories) (w : ℕ) where
  -- ---- for code that has found a word's outcome

  module _ (goes : a.refusal ≡ 0) {n p : ℕ} {r' : Registers} {m' : Memories} (told : outcome n p r' m' ≡ step_of chip a.registers (word_of w) a.memories) where
    number : n ≡ (step_of chip a.registers (word_of w) a.memories).refusal
    number = ap (λ (o : Outcome Registers Memories). o.refusal) told

    -- an accepted word is counted
    pub word_accepted : n ≡ 0 → ran a.refusal ((a.index + 1) % 2 ^ 64) ((a.sum + p) % 2 ^ 64) r' m' ≡ word_in a w
    unfolding word_in
    word_accepted e =
        ap (λ (k : ℕ). ran k ((a.index + 1) % 2 ^ 64) ((a.sum + p) % 2 ^ 64) r' m') goes
        ∙ ap (λ (o : Outcome Registers Memories). ran 0 ((a.index + 1) % 2 ^ 64) ((a.sum + o.passed) % 2 ^ 64) o.registers o.memories) told
        ∙ sym (ap counted (advance_accepted (step_of chip) a (word_of w) goes (sym number ∙ e)))

    -- a refused word leaves the run where it stands
    pub word_refused : a.index < 2 ^ 64 → n ≢ 0 → ran n a.index a.sum a.registers m' ≡ word_in a w
    unfolding word_in
    word_refused low e =
        ap₂ (λ (k : ℕ) (c : Memories). ran k a.index a.sum a.registers c) number (refused_leaves chip a.registers (word_of w) a.memories told e).2
        ∙ sym
        (ap counted (advance_refused (step_of chip) a (word_of w) goes (λ z. e (number ∙ z)))
        ∙ counted_low (ran (step_of chip a.registers (word_of w) a.memories).refusal a.index a.sum a.registers a.memories) low)

  -- ---- a run of them

  -- words are counted below 2 ^ 64
  pub word_low : (word_in a w).index < 2 ^ 64
  unfolding word_in
  word_low = mod-lt (advance (step_of chip) a (word_of w)).index (omega arith)

  -- after a refused word none is run
  pub word_stays : a.index < 2 ^ 64 → a.refusal ≢ 0 → word_in a w ≡ a
  unfolding word_in
  word_stays low e = ap counted (advance_stays (step_of chip) a (word_of w) e) ∙ counted_low a low

  -- a run that is counted modulo 2 ^ 64 goes on as one that is not
  word_counted : word_in (counted a) w ≡ counted (advance (step_of chip) a (word_of w))
  unfolding word_in
  word_counted = go (comes (step_of chip) a (word_of w))
    where
      o : Outcome Registers Memories
      o = step_of chip a.registers (word_of w) a.memories

      go : Comes (step_of chip) a (word_of w) → counted (advance (step_of chip) (counted a) (word_of w)) ≡ counted (advance (step_of chip) a (word_of w))
      go (took e f) = ap counted (advance_accepted (step_of chip) (counted a) (word_of w) e f) ∙ ap (λ (k : ℕ). ran 0 k ((a.sum + o.passed) % 2 ^ 64) o.registers o.memories) (count_on a.index) ∙ sym (ap counted (advance_accepted (step_of chip) a (word_of w) e f))
      go (halted e f) = ap counted (advance_refused (step_of chip) (counted a) (word_of w) e f) ∙ twice _ ∙ sym (ap counted (advance_refused (step_of chip) a (word_of w) e f))
      go (stood e) = ap counted (advance_stays (step_of chip) (counted a) (word_of w) e) ∙ twice a ∙ sym (ap counted (advance_stays (step_of chip) a (word_of w) e))

-- after a refused word none is run
pub words_stay : (ws : List ℕ) (a : Ran Registers Memories) → a.index < 2 ^ 64 → a.refusal ≢ 0 → foldl word_in a ws ≡ a
words_stay [] a low e = refl
words_stay (w ∷ ws) a low e = ap (λ (b : Ran Registers Memories). foldl word_in b ws) (word_stays a w low e) ∙ words_stay ws a low e

-- words one by one are the chip's run, counted modulo 2 ^ 64
pub words_run_lem : (ws : List ℕ) (a : Ran Registers Memories) → foldl word_in (counted a) ws ≡ counted (run_from (step_of chip) a (map word_of ws))
words_run_lem [] a = refl
words_run_lem (w ∷ ws) a =
    ap (λ (b : Ran Registers Memories). foldl word_in b ws) (word_counted a w) ∙ words_run_lem ws (advance (step_of chip) a (word_of w))

-- ---- what a run keeps

-- a word of 20 bits has a known command
pub known : (w : ℕ) → w < 2 ^ 20 → is_unknown (word_of w) ≡ false
unfolding word_of
known w h = decode_unknown (w / 65536) (w % 65536) ∙ le-ltb 15 (w / 65536) (omega arith)

-- so that none gets 1; and none gets 11, 12 or 13
pub word_number : (ni nz : ℕ) (r : Registers) (w : ℕ) → w < 2 ^ 20 → is_word_number (refusal_of ni nz r (word_of w)) ≡ true
word_number ni nz r w h = go (ltb n 11) refl
  where
    n : ℕ
    n = refusal_of ni nz r (word_of w)

    not_1 : n ≢ 1
    not_1 e = true≢false (sym ((given_1 ni nz r (word_of w)).0 e) ∙ known w h)

    go : (b : Bool) → ltb n 11 ≡ b → (b && not (eqb n 1)) || eqb n 14 ≡ true
    go true e = rw (ne_eqb n 1 not_1)
    go false e =
        let last : n ≡ 14 =
        omega (arith, ltb-false n 11 e, given_most ni nz r (word_of w), given_11 ni nz r (word_of w), given_12 ni nz r (word_of w), given_13 ni nz r (word_of w)) in
        eq-eqb n 14 last

-- the registers are within their bounds, the number is one that a word gets, and before the first accepted INIT no word was run
pub record Fine (a : Ran Registers Memories) : Type 0 where
  pub kept : in_bounds a.registers ≡ true
  pub tells : is_word_number a.refusal ≡ true
  pub begun : begun_fits a.index a.sum a.registers ≡ true

-- that none was run may be told of the count
counted_begun : (index sum : ℕ) (cold : Bool) → not cold || (eqb index 0 && eqb sum 0) ≡ true → not cold || (eqb (index % 2 ^ 64) 0 && eqb sum 0) ≡ true
counted_begun index sum true e =
    let p = both (eqb index 0) (eqb sum 0) e in
    and_both (eq-eqb (index % 2 ^ 64) 0 (omega (arith, eqb-true index 0 p.0))) p.1
counted_begun index sum false e = refl

module _ (a : Ran Registers Memories) (w : ℕ) where
  o : Outcome Registers Memories
  o = step_of chip a.registers (word_of w) a.memories

  -- behind an accepted word an INIT was accepted
  took_begun : o.refusal ≡ 0 → is_cold o.registers ≡ false
  unfolding o
  took_begun f =
      let none = sym (step_number chip a.registers (word_of w) a.memories) ∙ f in
      ap (λ (p : Outcome Registers Memories). is_cold p.registers) (step_accepted chip a.registers (word_of w) a.memories none)
      ∙ accepted_begun (length a.memories.i) (length a.memories.z) a.registers (word_of w) none

  -- words keep that
  pub word_fine : w < 2 ^ 20 → Fine a → Fine (word_in a w)
  unfolding word_in o
  word_fine low h = go (comes (step_of chip) a (word_of w))
    where
      stays : (n : ℕ) → is_word_number n ≡ true → Fine (counted (ran n a.index a.sum a.registers a.memories))
      stays n e = record { kept = h.kept; tells = e; begun = counted_begun a.index a.sum (is_cold a.registers) h.begun }

      go : Comes (step_of chip) a (word_of w) → Fine (counted (advance (step_of chip) a (word_of w)))
      go (took e f) =
          subst (λ (b : Ran Registers Memories). Fine (counted b)) (sym (advance_accepted (step_of chip) a (word_of w) e f))
          (record { kept = step_kept a.registers (word_of w) a.memories h.kept; tells = refl; begun = rw (took_begun f) })
      go (halted e f) =
          let told = step_number chip a.registers (word_of w) a.memories in
          let number = word_number (length a.memories.i) (length a.memories.z) a.registers w low in
          subst (λ (b : Ran Registers Memories). Fine (counted b)) (sym (advance_refused (step_of chip) a (word_of w) e f))
          (stays o.refusal (ap is_word_number told ∙ number))
      go (stood e) = subst (λ (b : Ran Registers Memories). Fine (counted b)) (sym (advance_stays (step_of chip) a (word_of w) e)) (stays a.refusal h.tells)

  -- with a word that is accepted, twenty bits more have come
  pub word_bits : (word_in a w).refusal ≡ 0 → (n : ℕ) → (20 * a.index + (20 + n)) % 8 ≡ 0 → (20 * (word_in a w).index + n) % 8 ≡ 0
  unfolding word_in
  word_bits z n eights = go (comes (step_of chip) a (word_of w))
    where
      go : Comes (step_of chip) a (word_of w) → (20 * ((advance (step_of chip) a (word_of w)).index % 2 ^ 64) + n) % 8 ≡ 0
      go (took e f) =
          let twenty : 20 * (a.index + 1) + n ≡ 20 * a.index + (20 + n) = omega arith in
          ap (λ (b : Ran Registers Memories). (20 * (b.index % 2 ^ 64) + n) % 8) (advance_accepted (step_of chip) a (word_of w) e f)
          ∙ counted_words (a.index + 1) n
          ∙ ap (λ (k : ℕ). k % 8) twenty
          ∙ eights
      go (halted e f) = absurd (f (sym (ap (λ (b : Ran Registers Memories). b.refusal) (advance_refused (step_of chip) a (word_of w) e f)) ∙ z))
      go (stood e) = absurd (e (sym (ap (λ (b : Ran Registers Memories). b.refusal) (advance_stays (step_of chip) a (word_of w) e)) ∙ z))
