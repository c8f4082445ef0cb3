-- `walk::carried` meets its contract: with no step, rising, and falling. Assumes nothing.
use Rattle.std.proofs.Common.{◌≡◌, arith}
use Rattle.line.proofs.Fixed.{still_tells, rise_tells, fall_tells}
use Rattle.line.proofs.walk.carried.Goals as goal

pub returns-then-n-eq0 : goal.returns-then-n-eq0
returns-then-n-eq0 c =
    let a = c.args in
    let none : a.n ≡ 0 = omega arith in
    rw (c.steady.ensures, none) (still_tells a.first a.second (omega arith))

pub returns-then-first-second : goal.returns-then-first-second
returns-then-first-second c = rw c.div_ceil.ensures (rise_tells _ _ _ (omega arith) (omega arith) (omega arith) (omega arith) (omega arith))

pub returns : goal.returns
returns c = fall_tells _ _ _ (omega arith) (omega arith) (omega arith) (omega arith) (omega arith) _ c.wrapping_neg.ensures
