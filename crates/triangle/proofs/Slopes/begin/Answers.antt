-- `Slopes::begin` meets its contract. Assumes nothing.
use Rattle.std.proofs.Common.{arith}
use Rattle.triangle.proofs.Carry.{sum_fits}
use Rattle.triangle.proofs.Slopes.begin.Goals as goal

pub overflow_mul-result : goal.overflow_mul-result
overflow_mul-result c =
    let a = c.args in
    let h = c.requires.factor c.in-Some.factor c.in-Some.is in
    omega (arith, sum_fits a.area c.in-Some.factor h.0 h.1 a.sum c.requires.low)
