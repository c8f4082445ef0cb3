-- The turns of a trace come to the run that `running` tells: what is left of the whole run stays the same from turn to turn, and after as many
-- turns as there are words nothing is left. Assumes nothing.
use Rattle.std.proofs.Common.{◌≡◌, ℕ, zero, suc, ◌+◌, ◌%◌, ◌^◌, ◌<◌, ◌≤◌, Bool, true, false, not, ◌||◌, eqb, leb, ◌≢◌, List, length, get_or, drop, sym, refl, ap, ◌∙◌, arith, eq-eqb, ne_eqb, eqb-true, le-leb, leb-false, leb-true}
use borrow.Author.Tests.{eqb-false}
use Rattle.stream.specs.Format.{unpack_of}
use Rattle.registers.specs.declared.Registers.{Registers}
use Rattle.registers.specs.declared.word.Word.{Word}
use Rattle.registers.specs.Record.{reset_of}
use Rattle.registers.specs.Word.{word_of}
use Rattle.machine.specs.Run.{Outcome, ran, taken, run_from, run_of}
use Rattle.machine.specs.Machine.{Memories, step_of}
use Rattle.machine.proofs.Runs.{zero_or_not, stays, turn_accepted, turn_refused, turn_none}
use Rattle.chip.specs.Chip.{chip}
use Rattle.chip.specs.Stream.{words_of}
use Rattle.chip.proofs.Streams.{word_at_lem, words_length}
use Rattle.tracing.specs.Trace.{Run, is_over, answer_to, onward, reached, start}
use Rattle.tracing.proofs.Words.{left_neither}

module _ (bytes : List ℕ) where
  -- the run of the words that are left
  abbrev rest : Run → Run
  rest a = run_from (step_of chip) a (drop a.index (words_of bytes))

  abbrev over : Run → Bool
  over a = is_over bytes a.refusal a.index

  onward_stays : (a : Run) → over a ≡ true → onward bytes a ≡ a
  unfolding onward
  onward_stays a e = rw e

  onward_takes : (a : Run) → over a ≡ false → onward bytes a ≡ taken a (answer_to bytes a)
  unfolding onward
  onward_takes a e = rw e

  left_both : (a : Run) → over a ≡ false → (a.refusal ≡ 0) × (a.index < length (unpack_of bytes))
  unfolding is_over
  left_both a e =
      let h = left_neither (eqb a.refusal 0) (leb (length (unpack_of bytes)) a.index) e in
      (eqb-true a.refusal 0 h.0, leb-false (length (unpack_of bytes)) a.index h.1)

  over_refused : (a : Run) → a.refusal ≢ 0 → over a ≡ true
  unfolding is_over
  over_refused a e = rw (ne_eqb a.refusal 0 e)

  over_last : (a : Run) → length (unpack_of bytes) ≤ a.index → over a ≡ true
  unfolding is_over
  over_last a h = rw (le-leb (length (unpack_of bytes)) a.index h) (go (not (eqb a.refusal 0)))
    where
      go : (b : Bool) → b || true ≡ true
      go true = refl
      go false = refl

  over_parts : (a : Run) {A : Type 0} → over a ≡ true → (a.refusal ≢ 0 → A) → (length (unpack_of bytes) ≤ a.index → A) → A
  unfolding is_over
  over_parts a {A} e f g = go (eqb a.refusal 0) refl e
    where
      go : (b : Bool) → eqb a.refusal 0 ≡ b → not b || leb (length (unpack_of bytes)) a.index ≡ true → A
      go true q t = g (leb-true (length (unpack_of bytes)) a.index t)
      go false q t = f (eqb-false a.refusal 0 q)

  -- a run from 0, by its parts
  begun : (a : Run) → a.refusal ≡ 0 → a ≡ ran 0 a.index a.sum a.registers a.memories
  begun a e = ap (λ (n : ℕ). ran n a.index a.sum a.registers a.memories) e

  taken_accepted : (a : Run) (o : Outcome Registers Memories) → o.refusal ≡ 0
      → taken a o ≡ ran 0 (a.index + 1) ((a.sum + o.passed) % 2 ^ 64) o.registers o.memories
  taken_accepted a o e = rw (eq-eqb o.refusal 0 e)

  taken_refused : (a : Run) (o : Outcome Registers Memories) → o.refusal ≢ 0 → taken a o ≡ ran o.refusal a.index a.sum a.registers a.memories
  taken_refused a o e = rw (ne_eqb o.refusal 0 e)

  module _ (a : Run) (left : over a ≡ false) where
    parts : (a.refusal ≡ 0) × (a.index < length (unpack_of bytes))
    parts = left_both a left

    below : a.index < length (words_of bytes)
    below = rw (words_length bytes) parts.1

    here : answer_to bytes a ≡ step_of chip a.registers (get_or (words_of bytes) a.index (word_of 0)) a.memories
    here = ap (λ (w : Word). step_of chip a.registers w a.memories) (sym (word_at_lem bytes a.index))

    -- one word more leaves what is left of the whole run
    rest_taken : rest (taken a (answer_to bytes a)) ≡ rest a
    rest_taken =
        zero_or_not (answer_to bytes a).refusal
        (λ e.
        ap rest (taken_accepted a (answer_to bytes a) e)
        ∙ sym (turn_accepted (step_of chip) (words_of bytes) a.index (word_of 0) below a.sum a.registers a.memories here e)
        ∙ ap (λ (b : Run). run_from (step_of chip) b (drop a.index (words_of bytes))) (sym (begun a parts.0)))
        (λ e.
        let b = ran (answer_to bytes a).refusal a.index a.sum a.registers a.memories in
        ap rest (taken_refused a (answer_to bytes a) e)
        ∙ stays (step_of chip) (drop a.index (words_of bytes)) b e
        ∙ sym (turn_refused (step_of chip) (words_of bytes) a.index (word_of 0) below a.sum a.registers a.memories here e)
        ∙ ap (λ (c : Run). run_from (step_of chip) c (drop a.index (words_of bytes))) (sym (begun a parts.0)))

  rest_onward : (a : Run) → rest (onward bytes a) ≡ rest a
  rest_onward a = go (over a) refl
    where
      go : (b : Bool) → over a ≡ b → rest (onward bytes a) ≡ rest a
      go true e = ap rest (onward_stays a e)
      go false e = ap rest (onward_takes a e) ∙ rest_taken a e

  rest_reached : (n : ℕ) (a : Run) → rest (reached bytes n a) ≡ rest a
  unfolding reached
  rest_reached zero a = refl
  rest_reached (suc n) a = rest_reached n (onward bytes a) ∙ rest_onward a

  -- nothing is left of a run that is over
  rest_over : (a : Run) → over a ≡ true → rest a ≡ a
  rest_over a e =
      over_parts a e (λ r. stays (step_of chip) (drop a.index (words_of bytes)) a r)
      (λ h. turn_none (step_of chip) (words_of bytes) a.index a (rw (words_length bytes) h))

  over_reached : (n : ℕ) (a : Run) → over a ≡ true → over (reached bytes n a) ≡ true
  unfolding reached
  over_reached zero a e = e
  over_reached (suc n) a e = over_reached n (onward bytes a) (ap over (onward_stays a e) ∙ e)

  -- so many turns as words are left come to the end
  next_over : (n : ℕ) (a : Run) → ((b : Run) → length (unpack_of bytes) ≤ b.index + n → over (reached bytes n b) ≡ true)
      → length (unpack_of bytes) ≤ a.index + suc n → over a ≡ false → over (reached bytes n (onward bytes a)) ≡ true
  next_over n a ih h e =
      zero_or_not (answer_to bytes a).refusal
      (λ z.
      let is = onward_takes a e ∙ taken_accepted a (answer_to bytes a) z in
      ih (onward bytes a) (omega (arith, h, ap (λ (b : Run). b.index) is)))
      (λ z.
      let is = onward_takes a e ∙ taken_refused a (answer_to bytes a) z in
      over_reached n (onward bytes a) (over_refused (onward bytes a) (λ q. z (sym (ap (λ (b : Run). b.refusal) is) ∙ q))))

  step_over : (n : ℕ) (a : Run) → ((b : Run) → length (unpack_of bytes) ≤ b.index + n → over (reached bytes n b) ≡ true)
      → length (unpack_of bytes) ≤ a.index + suc n → over (reached bytes n (onward bytes a)) ≡ true
  step_over n a ih h = go (over a) refl
    where
      go : (b : Bool) → over a ≡ b → over (reached bytes n (onward bytes a)) ≡ true
      go true e = over_reached n (onward bytes a) (ap over (onward_stays a e) ∙ e)
      go false e = next_over n a ih h e

  all_over : (n : ℕ) (a : Run) → length (unpack_of bytes) ≤ a.index + n → over (reached bytes n a) ≡ true
  unfolding reached
  all_over zero a h = over_last a (omega (arith, h))
  all_over (suc n) a h = step_over n a (λ b. all_over n b) h

  -- the turns of a whole trace come to the run of all words, to the first that is refused
  pub trace_runs : (m : Memories) → reached bytes (length (unpack_of bytes)) (start m) ≡ run_of (step_of chip) reset_of (words_of bytes) m
  trace_runs m =
      let end = reached bytes (length (unpack_of bytes)) (start m) in
      sym (rest_over end (all_over (length (unpack_of bytes)) (start m) (omega arith))) ∙ rest_reached (length (unpack_of bytes)) (start m)
