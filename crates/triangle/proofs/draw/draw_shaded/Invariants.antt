-- `draw::draw_shaded` meets its contract. Its loop keeps that the rows below y are drawn, and that what is carried from row to row is that of row y. Assumes
-- nothing.
use Rattle.picture.specs.Lent.{Same}
use Rattle.triangle.specs.Loops.{Rises}
use Rattle.triangle.proofs.Going.{Going}
use Rattle.triangle.proofs.draw.draw_shaded.Given as goal

abbrev pub invariant-loop-y : goal.invariant-loop-y
invariant-loop-y l = (Going l.brush.pen l.brush.constant l.facet.corners l.initial.m.i.now l.initial.m.z.now l.fn.first l.fn.top l.m.i.now l.m.z.now l.y l.passed) × (Same l.initial.m l.m) × (Rises l.facet.corners l.y l.rising)
