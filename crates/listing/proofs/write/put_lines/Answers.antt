-- `write::put_lines` meets its contract. The invariant of its loop: the lines of the words passed are put. Assumes nothing.
use Rattle.std.proofs.Common.{arith}
use Rattle.report.proofs.Putting.{add_none, add_after, room_after}
use Rattle.listing.proofs.Lines.{lines_none, lines_more, length_lines}
use Rattle.listing.proofs.write.put_lines.Goals as goal

pub loop-k-init : goal.loop-k-init
loop-k-init c = rw (lines_none c.args.from c.args.words.now) (add_none c.args.page.now)

pub put_line-requires : goal.put_line-requires
put_line-requires c =
    room_after _ c.loop-k.invariant (omega (arith, c.loop-k-test.true, length_lines c.args.from c.args.words.now c.loop-k.k, c.requires))

pub loop-k-preserved : goal.loop-k-preserved
loop-k-preserved c =
    let a = c.args in
    rw (lines_more a.from a.words.now c.loop-k.k) (add_after c.loop-k.invariant c.put_line.ensures)
