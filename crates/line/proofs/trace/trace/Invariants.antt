-- `trace::trace` meets its contract. The invariant of its loop: the steps below that where the walk stands are drawn. The measure
-- is the steps that are left. Assumes nothing.
use Rattle.std.proofs.Common.{◌+◌, ◌-◌}
use Rattle.picture.specs.Picture.{is_deep}
use Rattle.line.specs.Segment.{kind_of, first_of, step_offers}
use Rattle.line.specs.Ink.{joined_in}
use Rattle.line.proofs.Loops.{Walked}
use Rattle.line.proofs.trace.trace.Given as goal

abbrev pub invariant-loop-step : goal.invariant-loop-step
invariant-loop-step g l =
    Walked l.pen (λ rows. step_offers l.pen rows l.style l.style.mode l.route.slope.a l.route.slope.b) (first_of (joined_in l.style l.style.mode)) (is_deep (kind_of l.style.mode)) l.route.slope.a l.route.slope.b l.route.slope l.route.near l.last l.initial.im l.initial.zm l.im l.zm l.step l.passed

abbrev pub decreases-loop-step : goal.decreases-loop-step
decreases-loop-step g l = l.last + 1 - l.step.k
