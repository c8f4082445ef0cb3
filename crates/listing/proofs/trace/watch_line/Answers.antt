-- `trace::watch_line` meets its contract: it is put where the test finds room. Assumes nothing.
use Rattle.std.proofs.Common.{arith}
use Rattle.report.proofs.Putting.{add_after, room_after}
use Rattle.listing.specs.Trace.{watch_line}
use Rattle.report.proofs.Laying.{has, lays_none, lays_put}
use Rattle.listing.proofs.Traces.{length_traced, length_numbers, length_watch}
use Rattle.listing.proofs.trace.watch_line.Goals as goal

pub put-requires : goal.put-requires
put-requires c = omega (arith, has c.args.page.now _ c.has_room.ensures c.if-has_room.true)

pub put-requires-then-has_room : goal.put-requires-then-has_room
put-requires-then-has_room c =
    let a = c.args in
    let room = has a.page.now _ c.has_room.ensures c.if-has_room.true in
    room_after _ c.put.ensures (omega (arith, room, length_traced a.t))

pub put-requires-then-has_room-2 : goal.put-requires-then-has_room-2
put-requires-then-has_room-2 c =
    let a = c.args in
    let room = has a.page.now _ c.has_room.ensures c.if-has_room.true in
    room_after _ c.put-then-has_room.ensures (room_after _ c.put.ensures (omega (arith, room, length_traced a.t, length_numbers a.before)))

pub put_text-requires : goal.put_text-requires
put_text-requires c =
    let a = c.args in
    let room = has a.page.now _ c.has_room.ensures c.if-has_room.true in
    room_after _ c.put-then-has_room-2.ensures
    (room_after _ c.put-then-has_room.ensures (room_after _ c.put.ensures (omega (arith, room, length_traced a.t, length_numbers a.before, length_numbers a.after))))

pub returns-then-has_room : goal.returns-then-has_room
unfolding watch_line
returns-then-has_room c =
    let a = c.args in
    let all = add_after (add_after (add_after c.put.ensures c.put-then-has_room.ensures) c.put-then-has_room-2.ensures) c.put_text.ensures in
    lays_put _ _ (length_watch a.t a.before a.after) c.has_room.ensures c.if-has_room.true all

pub returns-else-has_room : goal.returns-else-has_room
returns-else-has_room c = lays_none _ _ (length_watch c.args.t c.args.before c.args.after) c.has_room.ensures c.if-has_room.false
