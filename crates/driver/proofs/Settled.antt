-- What the promise of the entry settles: one outcome. The promise is that of the chip's own `step`, so an outcome of either call is an outcome
-- of the other. Assumes nothing.
use mathlib.Core.Path.{◌≡◌, sym, ap, ◌∙◌}
use mathlib.Core.List.{List}
use Prim.Native.Nat.{ℕ}
use Rattle.registers.specs.declared.Registers.{Registers}
use Rattle.machine.specs.Run.{Outcome, outcome}
use Rattle.machine.specs.Machine.{Memories, memories}

-- of a word, on a record where it stands or by value: any two outcomes that the promise allows have the same number, count, record and
-- memories
pub step_settled : {o : Outcome Registers Memories} {number number' passed passed' : ℕ} {r r' : Registers} {i i' z z' : List ℕ}
    → outcome number passed r (memories i z) ≡ o → outcome number' passed' r' (memories i' z') ≡ o
    → (number ≡ number') × (passed ≡ passed') × (r ≡ r') × (i ≡ i') × (z ≡ z')
step_settled p q =
    let same = p ∙ sym q in (
      ap (λ (a : Outcome Registers Memories). a.refusal) same,
      ap (λ (a : Outcome Registers Memories). a.passed) same,
      ap (λ (a : Outcome Registers Memories). a.registers) same,
      ap (λ (a : Outcome Registers Memories). a.memories.i) same,
      ap (λ (a : Outcome Registers Memories). a.memories.z) same,
    )
