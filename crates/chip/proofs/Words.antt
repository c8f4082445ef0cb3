-- How the outcome of a word follows from what the code of a step has found. Assumes nothing.
use Rattle.std.proofs.Common.{◌≡◌, ℕ, List, [], length, refl, sym, ap, ◌∙◌, ap₂, arith}
use Rattle.std.specs.Prelude.{Result, Err}
use Rattle.ground.specs.declared.Refusal.{Refusal}
use Rattle.ground.specs.Refusal.{number, told}
use Rattle.ground.proofs.Numbers.{number_positive}
use Rattle.picture.specs.Place.{rows_of}
use Rattle.picture.specs.Picture.{picture}
use Rattle.picture.specs.Store.{Store, filled}
use Rattle.registers.specs.declared.Registers.{Registers}
use Rattle.registers.specs.declared.word.Word.{Word}
use Rattle.registers.specs.declared.shape.Completed.{Completed}
use Rattle.registers.specs.declared.shape.Completed.TheVariants.{Nothing}
use Rattle.registers.specs.Next.{record_after, completed_by}
use Rattle.refusals.specs.Refusal.{refusal_of}
use Rattle.picture.proofs.Stores.{filled_nil}
use Rattle.registers.specs.Next.{pen_of}
use Rattle.machine.specs.Run.{Outcome, outcome}
use Rattle.machine.specs.Machine.{Memories, memories, step_of}
use Rattle.machine.proofs.Steps.{told_accepted, told_refused}
use Rattle.chip.specs.declared.step.Answer.{Answer}
use Rattle.chip.specs.Chip.{word_stores, chip}
use Rattle.chip.specs.Promises.{passed_in, registers_in}
use Rattle.chip.proofs.Figures.{figured, nothing_drawn}

-- an answer of no pixels
abbrev pub quiet : Registers → Answer
quiet r = record { passed = 0; registers = r }

-- the answer to an accepted word, with the memories that were left
abbrev pub accepted : Answer → Memories → Outcome Registers Memories
accepted a m = outcome 0 a.passed a.registers m

-- what `step` answers, with the memories that were left
abbrev pub answered : Registers → Result Answer Refusal → Memories → Outcome Registers Memories
answered r a m = outcome (told a) (passed_in a) (registers_in r a) m

-- what was left in two memories was left in the lists that they are
pub left_as : {refusal passed : ℕ} {next : Registers} {i z i' z' : List ℕ} {made : Outcome Registers Memories} → outcome refusal passed next (memories i z) ≡ made
    → i' ≡ i → z' ≡ z → outcome refusal passed next (memories i' z') ≡ made
left_as {refusal = refusal} {passed = passed} {next = next} is same_i same_z = ap₂ (λ (i z : List ℕ). outcome refusal passed next (memories i z)) same_i same_z ∙ is

-- the word that was decoded
module _ (r : Registers) (w : Word) (i z : List ℕ) {word : Word} (is : word ≡ w) where
  abbrev rows : ℕ
  rows = rows_of r.frame (length i) (length z)

  -- a refused word
  pub word_refused : (refusal : Refusal) → number refusal ≡ refusal_of (length i) (length z) r word
      → answered r (Err refusal) (memories i z) ≡ step_of chip r w (memories i z)
  word_refused refusal given =
      told_refused chip r w (memories i z) (given ∙ ap (refusal_of (length i) (length z) r) is) (λ e. omega (arith, number_positive refusal, e))

  module _ (none : refusal_of (length i) (length z) r word ≡ 0) where
    given : 0 ≡ refusal_of (length i) (length z) r w
    given = sym none ∙ ap (refusal_of (length i) (length z) r) is

    -- an accepted word that stores nothing besides, with what it completed drawn
    pub word_drawn : {next : Registers} {figure : Completed} {i' z' : List ℕ} {p : ℕ} → word_stores (rows_of r.frame (length i) (length z)) r word ≡ []
        → figure ≡ completed_by r word → picture i' z' p ≡ figured r i z figure → next ≡ record_after r word
        → outcome 0 p next (memories i' z') ≡ step_of chip r w (memories i z)
    word_drawn unstored completes drew next =
        told_accepted chip r w (memories i z) given refl
        (drew ∙ ap (figured r i z) (completes ∙ ap (completed_by r) is)
        ∙ sym (ap (λ (ss : List Store). filled (pen_of r) ss (figured r i z (completed_by r w))) (ap (word_stores rows r) (sym is) ∙ unstored)
        ∙ filled_nil (pen_of r) (figured r i z (completed_by r w))))
        (next ∙ ap (record_after r) is)

    -- an accepted word that completes nothing
    pub word_quiet : {a : Answer} {next : Registers} → word_stores (rows_of r.frame (length i) (length z)) r word ≡ [] → a ≡ quiet next
        → Nothing ≡ completed_by r word → next ≡ record_after r word
        → accepted a (memories i z) ≡ step_of chip r w (memories i z)
    word_quiet unstored answer completes next =
        ap (λ (b : Answer). accepted b (memories i z)) answer
        ∙ word_drawn unstored completes (nothing_drawn r i z) next

    -- an accepted word that completes nothing, with what it stores stored
    pub word_stored : {a : Answer} {next : Registers} {i' z' : List ℕ} → a ≡ quiet next → Nothing ≡ completed_by r word
        → picture i' z' 0 ≡ filled (pen_of r) (word_stores (rows_of r.frame (length i) (length z)) r word) (picture i z 0) → next ≡ record_after r word
        → accepted a (memories i' z') ≡ step_of chip r w (memories i z)
    word_stored {i' = i'} {z' = z'} answer completes stores next =
        ap (λ (b : Answer). accepted b (memories i' z')) answer
        ∙ told_accepted chip r w (memories i z) given refl
        (stores
        ∙ ap₂ (filled (pen_of r)) (ap (word_stores rows r) is) (nothing_drawn r i z ∙ ap (figured r i z) (completes ∙ ap (completed_by r) is)))
        (next ∙ ap (record_after r) is)
