-- `write::all_fit` meets its contract: the bits that are set in any word tell it. Assumes nothing.
use mathlib.Core.Path.{ap, ◌∙◌}
use Prim.Native.Nat.{ℕ}
use lib.Dec.{ltb}
use Rattle.stream.proofs.Bits.{fit_bits}
use Rattle.stream.proofs.write.all_fit.Goals as goal

pub returns : goal.returns
returns c = ap (λ (n : ℕ). ltb n 1048576) c.bits_of.ensures ∙ fit_bits 20 0 c.args.words.now
