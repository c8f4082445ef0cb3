-- `trace::trace_line` meets its contract: it is put where the test finds room. Assumes nothing.
use Rattle.std.proofs.Common.{arith}
use Rattle.report.proofs.Putting.{add_after, room_after}
use Rattle.listing.specs.Trace.{trace_line}
use Rattle.report.proofs.Laying.{has, lays_none, lays_put}
use Rattle.listing.proofs.Traces.{length_traced, length_trace}
use Rattle.listing.proofs.trace.trace_line.Goals as goal

pub put-requires : goal.put-requires
put-requires c = omega (arith, has c.args.page.now _ c.has_room.ensures c.if-has_room.true)

pub put_text-requires : goal.put_text-requires
put_text-requires c = room_after _ c.put.ensures (omega (arith, has c.args.page.now _ c.has_room.ensures c.if-has_room.true, length_traced c.args.t))

pub returns-then-has_room : goal.returns-then-has_room
unfolding trace_line
returns-then-has_room c = lays_put _ _ (length_trace c.args.t) c.has_room.ensures c.if-has_room.true (add_after c.put.ensures c.put_text.ensures)

pub returns-else-has_room : goal.returns-else-has_room
returns-else-has_room c = lays_none _ _ (length_trace c.args.t) c.has_room.ensures c.if-has_room.false
