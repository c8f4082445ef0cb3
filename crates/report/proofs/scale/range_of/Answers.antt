-- `scale::range_of` meets its contract. The invariant of its loop: the range so far is that of the places passed. Assumes nothing.
use Rattle.report.proofs.Levels.{range_none, range_turn}
use Rattle.report.proofs.scale.range_of.Goals as goal

pub loop-place-init : goal.loop-place-init
loop-place-init c = let a = c.args in range_none a.depth a.im.now a.zm.now

pub loop-place-preserved : goal.loop-place-preserved
loop-place-preserved c =
    let a = c.args in
    range_turn a.depth a.im.now a.zm.now c.loop-place.place c.with_place-range.ensures c.number_at.ensures c.loop-place.invariant
