-- `draw::divided_row` meets its contract. The invariant of its loop: the pixels below x are drawn. Assumes nothing.
use Rattle.std.proofs.Common.{ℕ, false, length, refl, ◌∙◌, ap₂, le_refl, arith}
use Rattle.picture.specs.Place.{rows_of}
use Rattle.picture.specs.Picture.{picture, drawn}
use Rattle.triangle.specs.Offers.{pixel_offers}
use Rattle.picture.proofs.Spans.{reached_start, reached_add, reached_end, reached_count, reached_i, reached_z}
use Rattle.triangle.proofs.Rows.{row_quiet, offers_length}
use Rattle.triangle.proofs.draw.divided_row.Goals as goal

pub loop-x-init : goal.loop-x-init
loop-x-init c =
    let a = c.args in
    let k = c.requires.0 in
    record {
      since = le_refl _;
      until = omega (arith, a.span.some);
      few = omega (arith, k.wide);
      same = (refl, refl);
      so_far_lem = reached_start (λ x h. row_quiet a.pen (rows_of a.pen.frame (length a.m.now.i.now) (length a.m.now.z.now)) false a.facet.corners a.y a.span.lo a.span.hi k x (omega (arith, k.wide, a.span.some)) (λ u v. omega arith));
    }

pub overflow_add-passed : goal.overflow_add-passed
overflow_add-passed c =
    let a = c.args in
    let k = c.loop-x in
    let t = a.facet.corners in
    let turn = ap₂ (λ (i z : ℕ). drawn a.pen (pixel_offers a.pen (rows_of a.pen.frame i z) false t k.x a.y) (picture k.m.i.now k.m.z.now 0)) (reached_i k.invariant.so_far_lem) (reached_z k.invariant.so_far_lem) in
    omega (
      arith,
      reached_count 1 (reached_add k.invariant.so_far_lem (c.divided_pixel-passed.ensures.1 ∙ turn)) (offers_length a.pen (rows_of a.pen.frame (length a.m.now.i.now) (length a.m.now.z.now)) false t a.y),
      c.loop-x-test.true,
      k.invariant.few,
    )

pub loop-x-preserved : goal.loop-x-preserved
loop-x-preserved c =
    let a = c.args in
    let k = c.loop-x in
    let t = a.facet.corners in
    let turn = ap₂ (λ (i z : ℕ). drawn a.pen (pixel_offers a.pen (rows_of a.pen.frame i z) false t k.x a.y) (picture k.m.i.now k.m.z.now 0)) (reached_i k.invariant.so_far_lem) (reached_z k.invariant.so_far_lem) in
    record {
      since = omega (arith, k.invariant.since);
      until = omega (arith, c.loop-x-test.true);
      few = k.invariant.few;
      same = (c.divided_pixel-passed.ensures.0.0 ∙ k.invariant.same.0, c.divided_pixel-passed.ensures.0.1 ∙ k.invariant.same.1);
      so_far_lem = reached_add k.invariant.so_far_lem (c.divided_pixel-passed.ensures.1 ∙ turn);
    }

pub returns : goal.returns
returns c =
    let a = c.args in
    let l = c.loop-x in
    let k = c.requires.0 in (
      l.invariant.same,
      reached_end a.pen.frame.line l.invariant.so_far_lem (omega (arith, l.invariant.until, k.wide))
          (λ x h m. row_quiet a.pen (rows_of a.pen.frame (length a.m.now.i.now) (length a.m.now.z.now)) false a.facet.corners a.y a.span.lo a.span.hi k x m (λ u v. omega (arith, c.loop-x-test.false))),
    )
