-- `steady::draw_eight` meets its contract: eight pixels that are read before any is written are a run of eight. Assumes nothing.
use Rattle.std.proofs.Common.{arith}
use Rattle.picture.proofs.Eights.{eight_drawn}
use Rattle.picture.proofs.steady.draw_eight.Goals as goal

pub returns : goal.returns
returns c =
    let a = c.args in
    eight_drawn a.at a.i a.z a.im.now a.zm.now a.n (omega (arith, c.well_formed)) (omega (arith, c.well_formed)) (omega (arith, c.well_formed)) c.read_eight-deep.ensures
    c.read_eight-stood.ensures c.pick_eight-depths.ensures c.pick_eight-numbers.ensures c.write_eight.ensures
    c.write_eight-2.ensures c.count_eight.ensures
