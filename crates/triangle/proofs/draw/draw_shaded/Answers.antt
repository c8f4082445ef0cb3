-- `draw::draw_shaded` meets its contract. Its loop keeps that the rows below y are drawn, and that what is carried from row to row is that of row y. Assumes nothing.
use Rattle.std.proofs.Common.{refl, ◌∙◌, arith}
use Rattle.triangle.proofs.Going.{going_start, going_more, going_count, going_end}
use Rattle.triangle.proofs.draw.draw_shaded.Goals as goal

pub loop-y-init : goal.loop-y-init
loop-y-init c =
    let a = c.args in
    (going_start a.brush.pen a.brush.constant a.facet.corners a.flanks a.m.now.i.now a.m.now.z.now a.first a.top c.requires (omega arith), (refl, refl), c.new-rising.ensures)

pub overflow_add-passed : goal.overflow_add-passed
overflow_add-passed c =
    let a = c.args in
    omega (
      arith,
      going_count a.brush.pen a.brush.constant a.facet.corners a.flanks a.m.now.i.now a.m.now.z.now a.first a.top c.requires (omega arith) _ _ _ _ c.loop-y.invariant.0 c.loop-y-test.true _ _ _
          c.draw_row-passed.ensures.1,
    )

pub loop-y-preserved : goal.loop-y-preserved
loop-y-preserved c =
    let a = c.args in (
      going_more a.brush.pen a.brush.constant a.facet.corners a.flanks a.m.now.i.now a.m.now.z.now a.first a.top c.requires (omega arith) _ _ _ _ c.loop-y.invariant.0 c.loop-y-test.true _ _ _
          c.draw_row-passed.ensures.1,
      (c.draw_row-passed.ensures.0.0 ∙ c.loop-y.invariant.1.0, c.draw_row-passed.ensures.0.1 ∙ c.loop-y.invariant.1.1),
      c.raised-rising.ensures,
    )

pub returns : goal.returns
returns c =
    let a = c.args in (
      c.loop-y.invariant.1,
      going_end a.brush.pen a.brush.constant a.facet.corners a.flanks a.m.now.i.now a.m.now.z.now a.first a.top c.requires (omega arith) _ _ _ _ c.loop-y.invariant.0
          (omega (arith, c.loop-y-test.false)),
    )
