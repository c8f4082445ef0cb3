-- `number::digits` meets its contract. The invariant of its loop: the digits counted, one too many, and those of the rest are all of them.
-- The measure is the rest. Assumes nothing.
use mathlib.Core.Path.{◌≡◌}
use native.Mathlib.Omega.{arith}
use lib.ListN.{length}
use Rattle.report.specs.Text.{decimal}
use Rattle.report.proofs.Decimal.{length_small, length_more, decimal_short}
use Rattle.report.proofs.number.digits.Goals as goal

pub overflow_add-count : goal.overflow_add-count
overflow_add-count c = omega (arith, decimal_short c.args.n (omega arith))

pub loop-rest-preserved : goal.loop-rest-preserved
loop-rest-preserved c = omega (arith, length_more c.loop-rest.rest (omega arith))

pub returns : goal.returns
returns c =
    let n = c.args.n in
    let all : c.loop-rest.count ≡ length (decimal n) = omega (arith, length_small c.loop-rest.rest (omega arith)) in
    record { size = all; small = omega (arith, decimal_short n (omega arith)) }
