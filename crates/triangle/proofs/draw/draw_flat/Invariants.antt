-- `draw::draw_flat` meets its contract. Its loop keeps that the rows below y are drawn, and which edges bound row y.
-- Assumes nothing.
use Rattle.std.proofs.Common.{true}
use Rattle.picture.specs.Lent.{Same}
use Rattle.triangle.specs.Loops.{Flanked}
use Rattle.triangle.proofs.Going.{Going}
use Rattle.triangle.proofs.draw.draw_flat.Given as goal

abbrev pub invariant-loop-y : goal.invariant-loop-y
invariant-loop-y l = (Going l.pen true l.corners l.initial.m.i.now l.initial.m.z.now l.fn.first l.fn.top l.m.i.now l.m.z.now l.y l.passed) × (Same l.initial.m l.m) × (Flanked l.corners l.y l.flanks)
