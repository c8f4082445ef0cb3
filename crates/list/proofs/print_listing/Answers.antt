-- `print_listing` meets its contract: as many words as are told stand at the front. Assumes nothing.
use mathlib.Core.Path.{sym}
use native.Mathlib.Omega.{arith}
use lib.Seq.{length-take-le}
use Rattle.stream.proofs.Calls.{unpacked_fits}
use Rattle.list.proofs.print_listing.Goals as goal

pub slice_bounds-words-end : goal.slice_bounds-words-end
slice_bounds-words-end g c =
    omega (arith, unpacked_fits _ _ c.unpack.ensures c.in-Ok.is, c.unpack.auto.out)

pub slice_bounds-print_words-end : goal.slice_bounds-print_words-end
slice_bounds-print_words-end g c =
    sym (length-take-le _ _ (omega (arith, unpacked_fits _ _ c.unpack.ensures c.in-Ok.is, c.unpack.auto.out)))
