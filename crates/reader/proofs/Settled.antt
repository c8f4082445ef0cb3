-- What the promise of the entry settles: one outcome. The promise is that of the chip's own `read`, so an outcome of either call is an outcome
-- of the other. Assumes nothing.
use mathlib.Core.Path.{◌≡◌, sym, ap, ◌∙◌}
use Prim.Native.Nat.{ℕ}
use Rattle.registers.specs.declared.Registers.{Registers}
use Rattle.chip.specs.Read.{ReadOutcome, read_as}

-- of a read, on a record where it stands or by value: the number, the pixel and the record
pub read_settled : {value : ReadOutcome} {number number' pixel pixel' : ℕ} {r r' : Registers} → read_as number pixel r ≡ value → read_as number' pixel' r' ≡ value
    → (number ≡ number') × (pixel ≡ pixel') × (r ≡ r')
read_settled p q =
    let same = p ∙ sym q in (
      ap (λ (a : ReadOutcome). a.refusal) same,
      ap (λ (a : ReadOutcome). a.pixel) same,
      ap (λ (a : ReadOutcome). a.registers) same,
    )
