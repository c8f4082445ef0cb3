-- `scale::to_levels` meets its contract. The invariant of its loop: the places passed have their levels, and those left their numbers. Assumes nothing.
use Rattle.std.proofs.Common.{◌≡◌, length, arith}
use Rattle.report.proofs.Levels.{levels_none, level_turn, levels_all}
use Rattle.report.proofs.scale.to_levels.Goals as goal

pub loop-place-init : goal.loop-place-init
loop-place-init c =
    let a = c.args in
    levels_none a.depth c.range_of-range.result a.im.now a.zm.now

pub loop-place-preserved : goal.loop-place-preserved
loop-place-preserved c =
    let a = c.args in
    level_turn a.depth c.range_of-range.result a.im.now a.zm.now c.loop-place.place (omega arith) c.loop-place.invariant c.level_at.ensures c.number_at.ensures

pub returns : goal.returns
returns c =
    let a = c.args in
    let all : c.loop-place.place ≡ length a.im.now = omega arith in
    levels_all a.depth c.range_of-range.result a.im.now a.zm.now c.loop-place.place c.range_of-range.ensures all c.loop-place.invariant
