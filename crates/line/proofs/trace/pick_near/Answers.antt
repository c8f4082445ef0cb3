-- `trace::pick_near` meets its contract. Assumes nothing.
use Rattle.std.proofs.Common.{arith}
use Rattle.line.proofs.Bare.{picked_near}
use Rattle.line.proofs.trace.pick_near.Goals as goal

pub returns : goal.returns
returns c =
    let a = c.args in
    picked_near a.z a.old a.i a.stood _ _ (omega (arith, c.well_formed)) (omega (arith, c.well_formed)) (omega (arith, c.well_formed)) (omega (arith, c.well_formed))
    (omega arith) (omega arith) (omega (arith, c.well_formed)) (omega (arith, c.well_formed))
