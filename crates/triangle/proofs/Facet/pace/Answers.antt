-- `Facet::pace` meets its contract: a step changes the sum by what `right` is above 0, or below it. Assumes nothing.
use Rattle.std.proofs.Common.{arith}
use native.Mathlib.Nat.{min-le_right}
use Rattle.triangle.proofs.Carry.{step_fits, paces_up, paces_down}
use Rattle.triangle.proofs.Facet.pace.Goals as goal

pub overflow_mul-result : goal.overflow_mul-result
overflow_mul-result c =
    let a = c.args in
    omega (arith, step_fits a.self.area a.factor c.requires.0 c.requires.1 c.min.result (rw c.min.ensures (min-le_right _ _)))

pub returns-then-right-lt-HALF : goal.returns-then-right-lt-HALF
returns-then-right-lt-HALF c =
    let a = c.args in
    let k = a.self.sized in
    rw (c.min.ensures, k.area)
    (paces_up a.self.corners k.turned a.factor (rw k.area at c.requires.0) (rw k.area at c.requires.1) a.numbers.a a.numbers.b a.numbers.c
    (omega arith) (omega arith) (omega arith) a.right c.requires.2 c.if-right-lt-HALF.true)

pub overflow_mul-min : goal.overflow_mul-min
overflow_mul-min c =
    let a = c.args in
    omega (arith, step_fits a.self.area a.factor c.requires.0 c.requires.1 c.min-2.result (rw c.min-2.ensures (min-le_right _ _)))

pub returns : goal.returns
returns c =
    let a = c.args in
    let k = a.self.sized in
    paces_down a.self.corners k.turned a.factor (rw k.area at c.requires.0) (rw k.area at c.requires.1) a.numbers.a a.numbers.b a.numbers.c
    (omega arith) (omega arith) (omega arith) a.right c.requires.2 _ c.wrapping_neg.result c.wrapping_neg.type_inv c.if-right-lt-HALF.false c.wrapping_neg.ensures
    (rw (c.min-2.ensures, k.area) at c.wrapping_neg-2.ensures)
