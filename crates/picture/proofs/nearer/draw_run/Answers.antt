-- `nearer::draw_run` meets its contract. The invariant of its loop: j pixels are drawn, and the carried numbers are those of pixel j.
-- Assumes nothing.
use Rattle.std.proofs.Common.{refl, arith}
use Rattle.picture.proofs.Loops.{running_start, running_more}
use Rattle.picture.proofs.nearer.draw_run.Goals as goal

pub loop-j-init : goal.loop-j-init
loop-j-init c = running_start (omega arith) (omega arith)

pub loop-j-preserved : goal.loop-j-preserved
loop-j-preserved c =
    let k = c.loop-j in
    let d = c.put_chosen-n.ensures in
    running_more k.invariant c.loop-j-test.true c.after-i.ensures c.after-z.ensures d.1 refl refl refl d.0
