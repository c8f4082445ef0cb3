-- `read::read` meets its contract. The invariant of its loop: reading on over the bytes that are left comes to what reading the whole text
-- comes to. Assumes nothing.
use Rattle.std.proofs.Common.{◌+◌, drop, sym, ap, ◌∙◌}
use Rattle.listing.specs.Reading.{Reading, reading, read_on}
use Rattle.listing.proofs.Turns.{turn, over}
use Rattle.listing.proofs.read.read.Goals as goal

pub loop-b-preserved : goal.loop-b-preserved
loop-b-preserved c =
    let k = c.loop-b.b-index in
    ap (λ (s : Reading). read_on s (drop (k + 1) c.args.text.now)) c.take-reader.ensures
    ∙ sym (turn c.args.text.now k c.loop-b-test.true (reading c.loop-b.reader c.loop-b.words))
    ∙ c.loop-b.invariant

pub returns : goal.returns
returns c =
    sym (over c.args.text.now c.loop-b.b-index c.loop-b-test.false (reading c.loop-b.reader c.loop-b.words)) ∙ c.loop-b.invariant
