-- What the promise of `dextolumen_mend` settles: one outcome, and how much room it takes at most. Assumes nothing.
use mathlib.Core.Path.{◌≡◌, sym, ap, ◌∙◌}
use mathlib.Core.List.{List}
use Prim.Native.Nat.{ℕ, ◌≤◌}
use native.Mathlib.Omega.{arith}
use lib.ListN.{length}
use Rattle.stream.specs.Format.{unpack_of}
use Rattle.stream.proofs.Stream.{length_unpack, length_pack}
use Rattle.registers.specs.Record.{reset_of}
use Rattle.machine.specs.Machine.{Memories}
use Rattle.mending.specs.declared.Mended.{Mended}
use Rattle.mending.specs.Mend.{kept_of, mended_of, dropped_of, Mending, mending}
use Rattle.mending.proofs.Words.{all_sorted}

-- any two outcomes that the promise allows are equal: what is told, the output, both lists and the memories
pub settled : {o : Mending} {t t' : Mended} {out out' indices indices' numbers numbers' : List ℕ} {m m' : Memories}
    → mending t out indices numbers m ≡ o → mending t' out' indices' numbers' m' ≡ o
    → (t ≡ t') × (out ≡ out') × (indices ≡ indices') × (numbers ≡ numbers') × (m ≡ m')
settled p q =
    let same = p ∙ sym q in (
      ap (λ (o : Mending). o.told) same,
      ap (λ (o : Mending). o.stream) same,
      ap (λ (o : Mending). o.indices) same,
      ap (λ (o : Mending). o.numbers) same,
      ap (λ (o : Mending). o.memories) same,
    )

-- ---- room

module _ (bytes : List ℕ) (n : ℕ) where
  -- the new stream is no longer than the old one
  pub mended_short : length (mended_of bytes n) ≤ length bytes
  mended_short = omega (arith, all_sorted n (unpack_of bytes) 0 reset_of, length_unpack bytes, length_pack (kept_of bytes n))

  -- and the list has no more places than the old stream has words
  pub list_short : length (dropped_of bytes n) ≤ length (unpack_of bytes)
  list_short = omega (arith, all_sorted n (unpack_of bytes) 0 reset_of)
