-- `Side::crossing` meets its contract: the product with the reciprocal is the quotient. Assumes nothing.
use Rattle.std.proofs.Common.{arith}
use Rattle.triangle.proofs.Carry.{over_told, over_fits}
use Rattle.triangle.proofs.Side.crossing.Goals as goal

pub overflow_mul-result : goal.overflow_mul-result
overflow_mul-result c =
    let k = c.requires in
    let s = c.args.self in
    omega (arith, over_fits s.at s.height.tall s.height.inverse k.some k.low k.least k.most k.near)

pub returns : goal.returns
returns c =
    let k = c.requires in
    let s = c.args.self in
    over_told s.at s.height.tall s.height.inverse k.some k.low k.least k.most k.near
