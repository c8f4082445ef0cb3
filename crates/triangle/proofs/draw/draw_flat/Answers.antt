-- `draw::draw_flat` meets its contract. Its loop keeps that the rows below y are drawn, and which edges bound row y. Assumes nothing.
use Rattle.std.proofs.Common.{true, refl, ◌∙◌, arith}
use Rattle.triangle.proofs.Going.{going_start, going_row, going_crossed, going_more, going_count, going_end}
use Rattle.triangle.proofs.draw.draw_flat.Goals as goal

pub loop-y-init : goal.loop-y-init
loop-y-init c =
    let a = c.args in
    (going_start a.pen true a.corners a.flanks a.m.now.i.now a.m.now.z.now a.first a.top c.requires.1 (omega arith), (refl, refl), c.requires.1.flanked)

pub flat_row-passed-requires : goal.flat_row-passed-requires
flat_row-passed-requires c =
    let a = c.args in
    let g = c.loop-y.invariant.0 in (
      c.requires.0,
      going_crossed a.pen true a.corners a.flanks a.m.now.i.now a.m.now.z.now a.first a.top c.requires.1 (omega arith) _ _ _ _ g c.loop-y-test.true,
      c.loop-y.invariant.2,
      going_row a.pen true a.corners a.flanks a.m.now.i.now a.m.now.z.now a.first a.top c.requires.1 (omega arith) _ _ _ _ g c.loop-y-test.true,
    )

pub overflow_add-passed : goal.overflow_add-passed
overflow_add-passed c =
    let a = c.args in
    omega (
      arith,
      going_count a.pen true a.corners a.flanks a.m.now.i.now a.m.now.z.now a.first a.top c.requires.1 (omega arith) _ _ _ _ c.loop-y.invariant.0 c.loop-y-test.true _ _ _
          c.flat_row-passed.ensures.1,
    )

pub loop-y-preserved : goal.loop-y-preserved
loop-y-preserved c =
    let a = c.args in (
      going_more a.pen true a.corners a.flanks a.m.now.i.now a.m.now.z.now a.first a.top c.requires.1 (omega arith) _ _ _ _ c.loop-y.invariant.0 c.loop-y-test.true _ _ _
          c.flat_row-passed.ensures.1,
      (c.flat_row-passed.ensures.0.0 ∙ c.loop-y.invariant.1.0, c.flat_row-passed.ensures.0.1 ∙ c.loop-y.invariant.1.1),
      c.raised-flanks.ensures,
    )

pub returns : goal.returns
returns c =
    let a = c.args in
    (c.loop-y.invariant.1, going_end a.pen true a.corners a.flanks a.m.now.i.now a.m.now.z.now a.first a.top c.requires.1 (omega arith) _ _ _ _ c.loop-y.invariant.0 (omega (arith, c.loop-y-test.false)))
