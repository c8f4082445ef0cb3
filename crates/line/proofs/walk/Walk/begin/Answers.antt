-- `Walk::begin` meets its contract: step 0, or a step on. Assumes nothing.
use Rattle.std.proofs.Common.{refl, arith}
use Rattle.line.specs.Segment.{first_of}
use Rattle.line.specs.Walk.{start_of}
use Rattle.line.proofs.Loops.{begins, stands_next}
use Rattle.line.proofs.walk.Walk.begin.Goals as goal

pub returns-then-joined : goal.returns-then-joined
unfolding first_of
returns-then-joined c = let w = c.args.self in
    rw (c.next.ensures, c.if-joined.true) (stands_next w (start_of w) c.requires (begins w (omega (arith, c.well_formed)) (omega (arith, c.well_formed)) (omega (arith, c.well_formed))), omega (arith, c.requires))

pub returns-else-joined : goal.returns-else-joined
unfolding first_of
returns-else-joined c = let w = c.args.self in
    rw c.if-joined.false (begins w (omega (arith, c.well_formed)) (omega (arith, c.well_formed)) (omega (arith, c.well_formed)), refl)
