-- `trace::put_number` meets its contract: a blank and digits, one behind the other. Assumes nothing.
use Rattle.std.proofs.Common.{arith}
use Rattle.report.proofs.Putting.{add_after, room_after}
use Rattle.listing.specs.Trace.{number_text}
use Rattle.listing.proofs.trace.put_number.Goals as goal

pub put_digits-requires : goal.put_digits-requires
put_digits-requires c = room_after _ c.put_text.ensures (omega arith)

pub returns : goal.returns
unfolding number_text
returns c =
    add_after c.put_text.ensures c.put_digits.ensures
