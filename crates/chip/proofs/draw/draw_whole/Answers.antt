-- `draw::draw_whole` meets its contract, figure by figure. Assumes nothing.
use Rattle.std.proofs.Common.{refl}
use Rattle.chip.proofs.Figures.{none_drawn, triangle_drawn, segment_drawn}
use Rattle.chip.proofs.draw.draw_whole.Goals as goal

pub returns-in-Nothing : goal.returns-in-Nothing
returns-in-Nothing c =
    ((refl, refl), none_drawn c.args.r c.args.m.now.i.now c.args.m.now.z.now c.in-Nothing.is)

pub returns-in-Triangle : goal.returns-in-Triangle
returns-in-Triangle c =
    (c.triangle.ensures.0, triangle_drawn c.args.r c.args.m.now.i.now c.args.m.now.z.now c.pen.ensures c.in-Triangle.is c.triangle.ensures.1)

pub returns-in-Segment : goal.returns-in-Segment
returns-in-Segment c =
    (c.draw_segment.ensures.0, segment_drawn c.args.r c.args.m.now.i.now c.args.m.now.z.now c.pen-in-Segment.ensures c.style_of.ensures c.in-Segment.is c.draw_segment.ensures.1)
