-- `nearer::draw_four` meets its contract. The invariant of its loop: j pixels are drawn, and the carried numbers are those of pixel j.
-- Assumes nothing.
use Rattle.std.proofs.Common.{◌+◌}
use Rattle.picture.proofs.Loops.{Running}
use Rattle.picture.proofs.nearer.draw_four.Given as goal

abbrev pub invariant-loop-j : goal.invariant-loop-j
invariant-loop-j l = Running (λ m. l.at + m) l.fn.i l.fn.z 4 l.initial.im l.initial.zm l.fn.n l.im l.zm l.ki l.kz l.j l.passed
