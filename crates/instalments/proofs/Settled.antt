-- What the promises of the calls settle: one outcome each. Assumes nothing.
use Rattle.std.proofs.Common.{◌≡◌, ℕ, List, sym, ap, ◌∙◌}
use Rattle.machine.specs.Machine.{memories}
use Rattle.instalments.specs.declared.Intake.{Intake}
use Rattle.instalments.specs.Instalments.{Taking, taking, intake_of, fresh}

-- any two outcomes that the promise of `dextolumen_feed`, or that of `dextolumen_finish`, allows have the same record and the same memories
pub settled : {t : Taking} {s s' : Intake} {i z i' z' : List ℕ} → taking s (memories i z) ≡ t → taking s' (memories i' z') ≡ t
    → (s ≡ s') × (i ≡ i') × (z ≡ z')
settled p q =
    let same = p ∙ sym q in (
      ap intake_of same,
      ap (λ (t : Taking). t.so.memories.i) same,
      ap (λ (t : Taking). t.so.memories.z) same,
    )

-- of `dextolumen_begin`
pub begin_settled : {s s' : Intake} → s ≡ fresh → s' ≡ fresh → s ≡ s'
begin_settled p q = p ∙ sym q
