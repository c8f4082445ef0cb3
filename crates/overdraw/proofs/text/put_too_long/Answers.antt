-- `text::put_too_long` meets its contract: its three parts, one behind the other. Assumes nothing.
use Rattle.std.proofs.Common.{arith}
use Rattle.report.proofs.Putting.{add_after, room_after}
use Rattle.overdraw.specs.Text.{too_long_line}
use Rattle.overdraw.proofs.text.put_too_long.Goals as goal

pub put_text-requires-2 : goal.put_text-requires-2
put_text-requires-2 c = room_after _ c.put_text.ensures (omega arith)

pub put_text-requires-3 : goal.put_text-requires-3
put_text-requires-3 c = room_after _ c.put_text-2.ensures (room_after _ c.put_text.ensures (omega arith))

pub returns : goal.returns
unfolding too_long_line
returns c = add_after (add_after c.put_text.ensures c.put_text-2.ensures) c.put_text-3.ensures
