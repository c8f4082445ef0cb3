-- `heading::Heading::size` meets its contract: the names have 21 bytes, and a byte stands after each number. Assumes nothing.
use Rattle.std.proofs.Common.{arith}
use Rattle.report.proofs.Lengths.{length_heading}
use Rattle.report.proofs.heading.Heading.size.Goals as goal

pub returns : goal.returns
returns c =
    let a = c.args.self in
    let all = length_heading a.words a.refusal a.passed in
    record { size = omega (arith, all); small = omega arith }
