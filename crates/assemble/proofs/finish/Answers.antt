-- `finish` meets its contract: no more words are stored than there is room for. Assumes nothing.
use mathlib.Core.Path.{sym}
use lib.Seq.{length-take-le}
use Rattle.listing.proofs.Kept.{held_fits}
use Rattle.assemble.proofs.finish.Goals as goal

pub slice_bounds-write_packed-end : goal.slice_bounds-write_packed-end
slice_bounds-write_packed-end g c =
    held_fits _ _ _ _ _ c.read-end.ensures c.requires

pub slice_bounds-write_packed-end-in-Words : goal.slice_bounds-write_packed-end-in-Words
slice_bounds-write_packed-end-in-Words g c =
    sym (length-take-le _ _ (held_fits _ _ _ _ _ c.read-end.ensures c.requires))
