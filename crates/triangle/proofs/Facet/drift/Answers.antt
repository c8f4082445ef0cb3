-- `Facet::drift` meets its contract: a step changes the sum by what `right` is above 0, or below it. Assumes nothing.
use Rattle.std.proofs.Common.{arith}
use Rattle.triangle.proofs.Carry.{drifts_up, drifts_down}
use Rattle.triangle.proofs.Facet.drift.Goals as goal

pub returns-then-right-lt-HALF : goal.returns-then-right-lt-HALF
returns-then-right-lt-HALF c =
    let a = c.args in
    let k = a.self.sized in
    drifts_up a.self.corners k.turned (rw k.area at c.requires.0) a.numbers.a a.numbers.b a.numbers.c
    (omega arith) (omega arith) (omega arith) a.right c.requires.1 _ c.if-right-lt-HALF.true
    (rw (c.min.ensures, k.area) at c.fixed.ensures.0) (rw (c.min.ensures, k.area) at c.fixed.ensures.1)

pub returns : goal.returns
returns c =
    let a = c.args in
    let k = a.self.sized in
    drifts_down a.self.corners k.turned (rw k.area at c.requires.0) a.numbers.a a.numbers.b a.numbers.c
    (omega arith) (omega arith) (omega arith) a.right c.requires.1 _ _ c.wrapping_neg.result c.wrapping_neg.type_inv c.if-right-lt-HALF.false
    c.wrapping_neg.ensures c.wrapping_neg-2.ensures
    (rw (c.min-2.ensures, k.area) at c.fixed-2.ensures.0)
    (rw (c.min-2.ensures, k.area) at c.fixed-2.ensures.1)
