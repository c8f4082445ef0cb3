-- `write::list` meets its contract: a line has 26 bytes, so one division tells whether all lines fit. Assumes nothing.
use Rattle.std.proofs.Common.{rules, refl, arith}
use Rattle.report.proofs.Calls.{unwritten, done}
use Rattle.listing.specs.Text.{listing}
use Rattle.listing.proofs.Lines.{length_listing}
use Rattle.listing.proofs.write.list.Goals as goal

pub returns-then-out-words : goal.returns-then-out-words
returns-then-out-words c =
    let a = c.args in
    unwritten (listing a.from a.words.now) a.out.now (omega (arith, c.if-out-words.true, length_listing a.from a.words.now))

pub returns : goal.returns
unfolding listing
returns c =
    let a = c.args in
    done (listing a.from a.words.now) a.out.now (omega (arith, c.if-out-words.false, length_listing a.from a.words.now)) c.put_lines.ensures refl refl (search rules)
