-- What the promises of `step` and `run` settle: one outcome each. Assumes nothing.
use Rattle.std.proofs.Common.{◌≡◌, ℕ, List, sym, ap, ap₂, ◌∙◌, refl, arith}
use Rattle.std.specs.Prelude.{Result, Ok, Err}
use Rattle.ground.specs.declared.Refusal.{Refusal}
use Rattle.ground.specs.Refusal.{told}
use Rattle.ground.proofs.Numbers.{number_positive, number_injective}
use Rattle.registers.specs.declared.Registers.{Registers}
use Rattle.machine.specs.Run.{Outcome, Ran}
use Rattle.machine.specs.Machine.{Memories, memories}
use Rattle.chip.specs.declared.step.Answer.{Answer}
use Rattle.chip.specs.declared.run.Ran.{Ran as Told}
use Rattle.chip.proofs.Words.{answered}
use Rattle.chip.proofs.Streams.{ended_of}

-- any two outcomes of a word that the promise of `step` allows have the same answer and the same memories
pub step_settled : (r : Registers) {o : Outcome Registers Memories} {a a' : Result Answer Refusal} {i z i' z' : List ℕ}
    → answered r a (memories i z) ≡ o → answered r a' (memories i' z') ≡ o → (a ≡ a') × (i ≡ i') × (z ≡ z')
step_settled r {a = a} {a' = a'} {i = i} {z = z} {i' = i'} {z' = z'} p q =
    let same = p ∙ sym q in (
      go a a' same,
      ap (λ (o : Outcome Registers Memories). o.memories.i) same,
      ap (λ (o : Outcome Registers Memories). o.memories.z) same,
    )
  where
    answer_of : Outcome Registers Memories → Answer
    answer_of o = record { passed = o.passed; registers = o.registers }

    go : (a a' : Result Answer Refusal) → answered r a (memories i z) ≡ answered r a' (memories i' z') → a ≡ a'
    go (Ok x) (Ok y) e = ap (λ (o : Outcome Registers Memories). Ok (answer_of o)) e
    go (Ok x) (Err y) e = absurd (omega (arith, number_positive y, ap (λ (o : Outcome Registers Memories). o.refusal) e))
    go (Err x) (Ok y) e = absurd (omega (arith, number_positive x, ap (λ (o : Outcome Registers Memories). o.refusal) e))
    go (Err x) (Err y) e = ap Err (number_injective (ap (λ (o : Outcome Registers Memories). o.refusal) e))

-- two outcomes that tell one number are one
told_settled : (a a' : Result Unit Refusal) → told a ≡ told a' → a ≡ a'
told_settled (Ok x) (Ok y) e = refl
told_settled (Ok x) (Err y) e = absurd (omega (arith, number_positive y, e))
told_settled (Err x) (Ok y) e = absurd (omega (arith, number_positive x, e))
told_settled (Err x) (Err y) e = ap Err (number_injective e)

-- any two outcomes of a recording that the promise of `run` allows have the same answer and the same memories
pub run_settled : {o : Ran Registers Memories} {a a' : Told} {i z i' z' : List ℕ} → ended_of a (memories i z) ≡ o → ended_of a' (memories i' z') ≡ o
    → (a ≡ a') × (i ≡ i') × (z ≡ z')
run_settled {a = a} {a' = a'} p q =
    let same = p ∙ sym q in (
      ap₂ told_of (told_settled a.outcome a'.outcome (ap (λ (o : Ran Registers Memories). o.refusal) same)) same,
      ap (λ (o : Ran Registers Memories). o.memories.i) same,
      ap (λ (o : Ran Registers Memories). o.memories.z) same,
    )
  where
    told_of : Result Unit Refusal → Ran Registers Memories → Told
    told_of outcome o = record { outcome = outcome; index = o.index; sum = o.sum; registers = o.registers }
