-- `anywhere::drawn_anywhere` meets its contract. The invariant of its loop: the steps below that where the walk stands are drawn. The measure
-- is the steps that are left. Assumes nothing.
use Rattle.std.proofs.Common.{refl, ap, ◌∙◌, arith}
use Rattle.line.specs.Segment.{first_of, segment_offers}
use Rattle.line.specs.Ink.{joined_in}
use Rattle.line.proofs.Steps.{slope_is}
use Rattle.line.proofs.Loops.{first_low, walked_start, walked_reaches, walked_rows, walked_step, walked_end, before_first}
use Rattle.line.proofs.anywhere.drawn_anywhere.Goals as goal

pub loop-step-init : goal.loop-step-init
loop-step-init c =
    let a = c.args in (
      (refl, refl),
      walked_start (before_first a.pen _ a.style a.slope.a a.slope.b a.style.mode) (first_low (joined_in a.style a.style.mode)) (slope_is a.slope) refl
          (omega (arith, c.well_formed)) (rw c.is_deep.ensures at c.walk_of-walk.ensures) (c.begin-step.ensures.0, c.begin-step.ensures.1 ∙ ap first_of c.is_joined.ensures),
    )

pub put_step-passed-requires : goal.put_step-passed-requires
put_step-passed-requires c =
    let h = c.loop-step.invariant.1 in
    (walked_reaches h refl (omega (arith, c.loop-step-test.true)), rw (walked_rows h) c.direct_rows-direct.ensures)

pub loop-step-preserved : goal.loop-step-preserved
loop-step-preserved c =
    let d = c.put_step-passed.ensures in
    let h = c.loop-step.invariant in
    ((d.0.0.0 ∙ h.0.0, d.0.0.1 ∙ h.0.1), walked_step h.1 (omega (arith, c.loop-step-test.true)) d.0.1 d.1 c.next-step.ensures)

pub returns : goal.returns
unfolding segment_offers
returns c = let h = c.loop-step.invariant in (h.0, walked_end h.1 (omega (arith, c.loop-step-test.false)))
