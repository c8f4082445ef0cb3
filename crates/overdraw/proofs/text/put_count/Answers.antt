-- `text::put_count` meets its contract: its four parts, one behind the other. Assumes nothing.
use Rattle.std.proofs.Common.{arith}
use Rattle.report.proofs.Putting.{add_after, room_after}
use Rattle.overdraw.specs.Text.{count_line}
use Rattle.overdraw.proofs.Lines.{length_numbers}
use Rattle.overdraw.proofs.text.put_count.Goals as goal

pub put_text-requires-2 : goal.put_text-requires-2
put_text-requires-2 c = room_after _ c.put_text.ensures (omega (arith, c.requires.at_in_bounds))

pub put_numbers-requires-clause-at_in_bounds : goal.put_numbers-requires-clause-at_in_bounds
put_numbers-requires-clause-at_in_bounds c =
    room_after _ c.put_text-2.ensures (room_after _ c.put_text.ensures (omega (arith, c.requires.at_in_bounds)))

pub put_text-requires-3 : goal.put_text-requires-3
put_text-requires-3 c =
    room_after _ c.put_numbers.ensures
    (room_after _ c.put_text-2.ensures (room_after _ c.put_text.ensures (omega (arith, c.requires.at_in_bounds, length_numbers c.args.c))))

pub returns : goal.returns
unfolding count_line
returns c =
    add_after (add_after (add_after c.put_text.ensures c.put_text-2.ensures) c.put_numbers.ensures) c.put_text-3.ensures
