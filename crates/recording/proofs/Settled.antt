-- What the promises of the entries settle: one outcome each. The promise of a run is that of the chip's own `run`, so an outcome of either
-- call is an outcome of the other. Assumes nothing.
use mathlib.Core.Path.{◌≡◌, sym, ap, ◌∙◌}
use mathlib.Core.List.{List}
use Prim.Native.Nat.{ℕ}
use Rattle.registers.specs.declared.Registers.{Registers}
use Rattle.machine.specs.Run.{Ran, ran}
use Rattle.machine.specs.Machine.{Memories, memories}

-- of a packed stream: the number, the index, the sum, the record and the memories
pub run_settled : {o : Ran Registers Memories} {number number' index index' sum sum' : ℕ} {r r' : Registers} {i i' z z' : List ℕ}
    → ran number index sum r (memories i z) ≡ o → ran number' index' sum' r' (memories i' z') ≡ o
    → (number ≡ number') × (index ≡ index') × (sum ≡ sum') × (r ≡ r') × (i ≡ i') × (z ≡ z')
run_settled p q =
    let same = p ∙ sym q in (
      ap (λ (a : Ran Registers Memories). a.refusal) same,
      ap (λ (a : Ran Registers Memories). a.index) same,
      ap (λ (a : Ran Registers Memories). a.sum) same,
      ap (λ (a : Ran Registers Memories). a.registers) same,
      ap (λ (a : Ran Registers Memories). a.memories.i) same,
      ap (λ (a : Ran Registers Memories). a.memories.z) same,
    )

-- of reset: the record
pub reset_settled : {value r r' : Registers} → r ≡ value → r' ≡ value → r ≡ r'
reset_settled p q = p ∙ sym q
