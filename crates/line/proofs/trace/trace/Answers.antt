-- `trace::trace` meets its contract. The invariant of its loop: the steps below that where the walk stands are drawn. The measure
-- is the steps that are left. Assumes nothing.
use Rattle.std.proofs.Common.{ℕ, length, refl, ap, ◌∙◌, arith}
use Rattle.line.specs.declared.walk.Walk.{Walk}
use Rattle.line.specs.Route.{onward_of}
use Rattle.line.specs.Segment.{segment_offers}
use Rattle.line.specs.Ink.{joined_in}
use Rattle.line.proofs.Loops.{first_low, walked_start, walked_on, walked_reaches, walked_rows, walked_next, walked_end, before_first}
use Rattle.line.proofs.Routes.{far_few, goes_on}
use Rattle.line.proofs.trace.trace.Goals as goal

pub loop-step-init : goal.loop-step-init
loop-step-init g c =
    let a = c.args in
    let s = a.route.slope in
    walked_start (before_first a.pen _ a.style s.a s.b a.style.mode) (first_low (joined_in a.style a.style.mode)) c.requires.0.route.sloped refl
    (omega (arith, c.well_formed)) c.requires.0.route.carries c.requires.1

pub spot_of-at-requires : goal.spot_of-at-requires
spot_of-at-requires g c =
    (c.requires.0.route.placed, walked_on c.loop-step.invariant (omega (arith, c.loop-step-test.true)))

pub put_spot-passed-requires : goal.put_spot-passed-requires
put_spot-passed-requires g c =
    (rw (walked_rows c.loop-step.invariant) c.requires.0, walked_reaches c.loop-step.invariant refl (omega (arith, c.loop-step-test.true)))

pub onward-step-requires : goal.onward-step-requires
onward-step-requires g c =
    let r = c.args.route in
    let o = c.requires.0.route in
    let far = (far_few r.near o.carries.single r.part r.slope).1 in
    (omega (arith, c.loop-step.invariant.small, c.loop-step-test.true), omega (arith, o.carries.single), omega (arith, ap (λ (w : Walk). w.stride) o.further, far))

pub loop-step-smaller : goal.loop-step-smaller
loop-step-smaller g c =
    let a = c.args in
    let s = a.route.slope in
    let h = c.loop-step.invariant in
    let n = goes_on a.pen (length a.im.now) (length a.zm.now) a.style _ _ a.route c.requires.0 h.stands (walked_on h (omega (arith, c.loop-step-test.true))).on
    (rw c.WAY.ensures at c.onward-step.ensures ∙ ap (λ (at : ℕ). onward_of g.P.Path.WAY a.route at c.loop-step.step) c.spot_of-at.ensures) in
    omega (arith, n.further, c.loop-step-test.true)

pub loop-step-preserved : goal.loop-step-preserved
loop-step-preserved g c =
    let a = c.args in
    let s = a.route.slope in
    let h = c.loop-step.invariant in
    let d = c.put_spot-passed.ensures in
    let n = goes_on a.pen (length a.im.now) (length a.zm.now) a.style _ _ a.route c.requires.0 h.stands (walked_on h (omega (arith, c.loop-step-test.true))).on
    (rw c.WAY.ensures at c.onward-step.ensures ∙ ap (λ (at : ℕ). onward_of g.P.Path.WAY a.route at c.loop-step.step) c.spot_of-at.ensures) in
    walked_next h (omega (arith, c.loop-step-test.true)) d.0 d.1 n.stands n.further (λ k x y l. n.between k x y l)

pub returns : goal.returns
unfolding segment_offers
returns g c = walked_end c.loop-step.invariant (omega (arith, c.loop-step-test.false))
