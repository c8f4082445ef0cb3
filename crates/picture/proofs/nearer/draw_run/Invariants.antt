-- `nearer::draw_run` meets its contract. The invariant of its loop: j pixels are drawn, and the carried numbers are those of pixel j.
-- Assumes nothing.
use Rattle.std.proofs.Common.{◌+◌}
use Rattle.picture.proofs.Loops.{Running}
use Rattle.picture.proofs.nearer.draw_run.Given as goal

abbrev pub invariant-loop-j : goal.invariant-loop-j
invariant-loop-j l =
    Running (λ m. l.run.base + m) l.run.i l.run.z l.run.count l.initial.im l.initial.zm 0 l.im l.zm l.i l.z l.j l.n
