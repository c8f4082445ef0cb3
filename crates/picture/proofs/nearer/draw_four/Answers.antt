-- `nearer::draw_four` meets its contract. The invariant of its loop: j pixels are drawn, and the carried numbers are those of pixel j.
-- Assumes nothing.
use Rattle.std.proofs.Common.{refl, arith}
use Rattle.picture.proofs.Loops.{running_start, running_more}
use Rattle.picture.proofs.nearer.draw_four.Goals as goal

pub loop-j-init : goal.loop-j-init
loop-j-init c = running_start (omega arith) (omega arith)

pub loop-j-preserved : goal.loop-j-preserved
loop-j-preserved c =
    let d = c.put_nearer-passed.ensures in
    running_more c.loop-j.invariant c.loop-j-test.true c.after-ki.ensures c.after-kz.ensures d.1 refl c.whole.ensures
    c.whole-in-loop-j.ensures d.0
