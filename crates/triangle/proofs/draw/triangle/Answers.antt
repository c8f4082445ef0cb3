-- `draw::triangle` meets its contract: the corners are named so that they turn anticlockwise. Assumes nothing.
use Rattle.std.proofs.Common.{length, refl, arith}
use Rattle.picture.specs.Place.{rows_of}
use Rattle.picture.specs.Picture.{picture}
use Rattle.triangle.proofs.Turning.{named_turned, named_drawn, flat_drawn}
use Rattle.triangle.proofs.draw.triangle.Goals as goal

pub invariant_of-facet : goal.invariant_of-facet
invariant_of-facet c =
    let a = c.args in
    let e = c.edge_at-edge in
    let far = c.abs_diff-area.ensures in
    let k = named_turned a.a a.b a.c _ e.ensures.0 _ far c.if-area-gt0.true c.named.ensures in
    record { sized = record { turned = k.0; area = k.1; small = omega (arith, far, e.ensures.1, e.ensures.2) } }

pub returns-then-area-gt0 : goal.returns-then-area-gt0
returns-then-area-gt0 c =
    let a = c.args in
    let rows = rows_of a.pen.frame (length a.m.now.i.now) (length a.m.now.z.now) in (
      c.draw_turned.ensures.0,
      named_drawn a.pen rows a.constant a.a a.b a.c _ c.edge_at-edge.ensures.0 _ c.abs_diff-area.ensures c.if-area-gt0.true
          (picture a.m.now.i.now a.m.now.z.now 0) _ c.named.ensures c.draw_turned.ensures.1,
    )

pub returns : goal.returns
returns c =
    let a = c.args in
    let rows = rows_of a.pen.frame (length a.m.now.i.now) (length a.m.now.z.now) in (
      (refl, refl),
      flat_drawn a.pen rows a.constant a.a a.b a.c _ c.edge_at-edge.ensures.0
          (picture a.m.now.i.now a.m.now.z.now 0) (omega (arith, c.abs_diff-area.ensures, c.if-area-gt0.false)),
    )
