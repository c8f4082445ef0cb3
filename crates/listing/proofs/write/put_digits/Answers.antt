-- `write::put_digits` meets its contract: digits that have room are put where they are laid. Assumes nothing.
use Rattle.std.proofs.Common.{arith}
use Rattle.report.specs.Text.{radix}
use Rattle.report.proofs.Decimal.{length_digits}
use Rattle.report.proofs.Laying.{put_lays}
use Rattle.listing.proofs.write.put_digits.Goals as goal

pub returns : goal.returns
returns c =
    let a = c.args in
    put_lays (omega (arith, c.requires, length_digits (radix a.base) a.count a.n)) c.lay_digits.ensures
