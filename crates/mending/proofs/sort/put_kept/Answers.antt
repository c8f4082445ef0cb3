-- `sort::put_kept` meets its contract: where none waits, nothing is packed. Assumes nothing.
use Rattle.std.proofs.Common.{None, arith}
use Rattle.mending.specs.Sort.{Waits}
use Rattle.mending.proofs.Sorting.{put_even}
use Rattle.mending.proofs.sort.put_kept.Goals as goal

pub returns-in_default-clause-stream : goal.returns-in_default-clause-stream
returns-in_default-clause-stream c =
    let even : Waits None c.args.j = rw c.in_default.is at c.requires.waits in
    put_even _ _ _ (λ odd. absurd (omega arith))
