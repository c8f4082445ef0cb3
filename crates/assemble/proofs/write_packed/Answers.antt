-- `write_packed` meets its contract: as many bytes as are told stand at the front. Assumes nothing.
use mathlib.Core.Path.{sym}
use native.Mathlib.Omega.{arith}
use lib.Seq.{length-take-le}
use Rattle.stream.proofs.Calls.{packed_fits}
use Rattle.assemble.proofs.write_packed.Goals as goal

pub slice_bounds-out-end : goal.slice_bounds-out-end
slice_bounds-out-end g c =
    omega (arith, packed_fits _ _ c.pack.ensures c.in-Ok.is, c.pack.auto.out)

pub slice_bounds-write_all-end : goal.slice_bounds-write_all-end
slice_bounds-write_all-end g c =
    sym (length-take-le _ _ (omega (arith, packed_fits _ _ c.pack.ensures c.in-Ok.is, c.pack.auto.out)))
