-- `trace::put_share` meets its contract: a mark, or two digits with one between them. Assumes nothing.
use Rattle.std.proofs.Common.{arith, ne_eqb}
use Rattle.report.proofs.Putting.{add_after, room_after}
use Rattle.listing.specs.Trace.{share}
use Rattle.report.proofs.Decimal.{length_digits}
use Rattle.listing.proofs.trace.put_share.Goals as goal

pub returns-then-wanted-eq0 : goal.returns-then-wanted-eq0
unfolding share
returns-then-wanted-eq0 c =
    rw c.if-wanted-eq0.true c.put_text.ensures

pub put_text-requires-2 : goal.put_text-requires-2
put_text-requires-2 c = room_after _ c.put_digits.ensures (omega (arith, length_digits 10 1 c.args.came))

pub put_digits-requires-2 : goal.put_digits-requires-2
put_digits-requires-2 c =
    room_after _ c.put_text-2.ensures (room_after _ c.put_digits.ensures (omega (arith, length_digits 10 1 c.args.came)))

pub returns : goal.returns
unfolding share
returns c =
    rw (ne_eqb c.args.wanted 0 c.if-wanted-eq0.false) (add_after (add_after c.put_digits.ensures c.put_text-2.ensures) c.put_digits-2.ensures)
