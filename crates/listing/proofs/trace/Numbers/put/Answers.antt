-- `trace::Numbers::put` meets its contract: two numbers, one behind the other. Assumes nothing.
use Rattle.std.proofs.Common.{arith}
use Rattle.report.proofs.Putting.{add_after, room_after}
use Rattle.listing.specs.Trace.{numbers_text}
use Rattle.listing.proofs.Traces.{length_number}
use Rattle.listing.proofs.trace.Numbers.put.Goals as goal

pub put_number-requires-2 : goal.put_number-requires-2
put_number-requires-2 c =
    room_after _ c.put_number.ensures (omega (arith, length_number 5 c.args.self.i))

pub returns : goal.returns
unfolding numbers_text
returns c =
    add_after c.put_number.ensures c.put_number-2.ensures
