-- What a word does to a machine, told by its number: how an outcome is recognised, what a refused word leaves, lengths kept.
-- Assumes nothing.
use mathlib.Core.Path.{◌≡◌, refl, sym, ap, ap₂, ◌∙◌}
use mathlib.Core.Logic.{◌≢◌}
use mathlib.Core.List.{List}
use Prim.Native.Nat.{ℕ, ◌<◌}
use lib.ListN.{length, get_or, drop}
use borrow.Author.Tests.{eq-eqb, ne_eqb}
use Rattle.picture.specs.Picture.{Picture, picture}
use Rattle.machine.specs.Run.{Outcome, outcome, ran, run_from}
use Rattle.machine.specs.Machine.{Machine, Memories, memories, drawing, accepted, refused, number_of, step_of}
use Rattle.machine.proofs.Runs.{zero_or_not, turn_refused}

module _ (M : Machine) (r : M.Registers) (w : M.Word) (m : Memories) where
  -- a word whose number is 0 is accepted
  pub step_accepted : number_of M r w m ≡ 0 → step_of M r w m ≡ accepted (M.next r w) (drawing M r w m)
  unfolding step_of
  step_accepted e = rw (eq-eqb _ _ e)

  -- any other number refuses it
  pub step_refused : number_of M r w m ≢ 0 → step_of M r w m ≡ refused (number_of M r w m) r m
  unfolding step_of
  step_refused e = rw (ne_eqb _ _ e)

  -- what holds of the outcome in either case holds of the word's
  pub step_either : (P : Outcome M.Registers Memories → Type 0) → (number_of M r w m ≡ 0 → P (accepted (M.next r w) (drawing M r w m)))
      → (number_of M r w m ≢ 0 → P (refused (number_of M r w m) r m)) → P (step_of M r w m)
  step_either P yea nay = zero_or_not (number_of M r w m) (λ e. rw (step_accepted e) (yea e)) (λ e. rw (step_refused e) (nay e))

  -- an outcome tells the word's number
  pub step_number : (step_of M r w m).refusal ≡ number_of M r w m
  step_number = step_either (λ o. o.refusal ≡ number_of M r w m) (λ e. sym e) (λ e. refl)

  -- ---- for code that has found the number, the drawing and the next registers

  -- what an accepted word's code has found is the word's outcome
  pub told_accepted : {n : ℕ} {next : M.Registers} {i z : List ℕ} {p : ℕ} → n ≡ number_of M r w m → n ≡ 0 → picture i z p ≡ drawing M r w m → next ≡ M.next r w
      → outcome 0 p next (memories i z) ≡ step_of M r w m
  told_accepted number zero drew next = ap₂ (λ (q : M.Registers) (d : Picture). accepted q d) next drew ∙ sym (step_accepted (sym number ∙ zero))

  -- what a refused word's code has found is the word's outcome
  pub told_refused : {n : ℕ} → n ≡ number_of M r w m → n ≢ 0 → outcome n 0 r m ≡ step_of M r w m
  told_refused number some = ap (λ (k : ℕ). refused k r m) number ∙ sym (step_refused (λ e. some (number ∙ e)))

  -- ---- what an outcome tells

  module _ {n p : ℕ} {r' : M.Registers} {m' : Memories} (told : outcome n p r' m' ≡ step_of M r w m) where
    -- a refused word leaves the registers and the memories, and no pixel passes
    pub refused_leaves : n ≢ 0 → (p ≡ 0) × (r' ≡ r) × (m' ≡ m)
    refused_leaves some =
        let same = told ∙ step_refused (λ e. some (ap (λ (o : Outcome M.Registers Memories). o.refusal) told ∙ step_number ∙ e)) in (
          ap (λ (o : Outcome M.Registers Memories). o.passed) same,
          ap (λ (o : Outcome M.Registers Memories). o.registers) same,
          ap (λ (o : Outcome M.Registers Memories). o.memories) same,
        )

    -- an accepted word goes on to the next registers, and leaves what it draws
    pub accepted_leaves : n ≡ 0 → (r' ≡ M.next r w) × (picture m'.i m'.z p ≡ drawing M r w m)
    accepted_leaves none =
        let same = told ∙ step_accepted (sym (ap (λ (o : Outcome M.Registers Memories). o.refusal) told ∙ step_number) ∙ none) in (
          ap (λ (o : Outcome M.Registers Memories). o.registers) same,
          ap (λ (o : Outcome M.Registers Memories). picture o.memories.i o.memories.z o.passed) same,
        )

-- a loop over words that finds the next one refused has ended its run, with the registers and memories that the word left
pub turn_halts : (M : Machine) (ws : List M.Word) (k : ℕ) (d : M.Word) → k < length ws → (s : ℕ) (r : M.Registers) (m : Memories) {r' : M.Registers} {m' : Memories} {n p : ℕ}
    → outcome n p r' m' ≡ step_of M r (get_or ws k d) m → n ≢ 0 → run_from (step_of M) (ran 0 k s r m) (drop k ws) ≡ ran n k s r' m'
turn_halts M ws k d h s r m {n = n} told e =
    let left = refused_leaves M r (get_or ws k d) m told e in
    turn_refused (step_of M) ws k d h s r m told e ∙ ap₂ (λ (q : M.Registers) (c : Memories). ran n k s q c) (sym left.1) (sym left.2)
