-- `write_mended` meets its contract: there is room for all words of 1,048,576 bytes, and what is told lies within it. Assumes nothing.
use mathlib.Core.Path.{sym}
use lib.Seq.{length-take-le}
use Rattle.mend.proofs.Room.{enough_room, size_fits, indices_fit, numbers_fit, listed_low}
use Rattle.mend.proofs.write_mended.Goals as goal

pub repair-told-requires : goal.repair-told-requires
repair-told-requires g c =
    enough_room _ _ _ _ c.requires c.recording-out.ensures.long c.room-indices.ensures.long c.room-numbers.ensures.long

pub slice_bounds-out-end : goal.slice_bounds-out-end
slice_bounds-out-end g c = size_fits c.repair-told.ensures

pub slice_bounds-indices-end : goal.slice_bounds-indices-end
slice_bounds-indices-end g c =
    indices_fit c.repair-told.ensures

pub slice_bounds-say_list-end : goal.slice_bounds-say_list-end
slice_bounds-say_list-end g c =
    sym (length-take-le _ _ (indices_fit c.repair-told.ensures))

pub slice_bounds-numbers-end : goal.slice_bounds-numbers-end
slice_bounds-numbers-end g c =
    numbers_fit c.repair-told.ensures

pub slice_bounds-say_list-end-then-not-whole : goal.slice_bounds-say_list-end-then-not-whole
slice_bounds-say_list-end-then-not-whole g c =
    sym (length-take-le _ _ (numbers_fit c.repair-told.ensures))

pub say_list-requires-clause-low : goal.say_list-requires-clause-low
say_list-requires-clause-low g c = listed_low c.repair-told.ensures c.requires

pub slice_bounds-stream-end : goal.slice_bounds-stream-end
slice_bounds-stream-end g c =
    sym (length-take-le _ _ (size_fits c.repair-told.ensures))
