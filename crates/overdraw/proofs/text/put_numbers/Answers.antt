-- `text::put_numbers` meets its contract: its five parts, one behind the other. Assumes nothing.
use Rattle.std.proofs.Common.{arith}
use Rattle.report.proofs.Putting.{add_after, room_after}
use Rattle.overdraw.specs.Text.{numbers}
use Rattle.overdraw.proofs.Lines.{length_columns}
use Rattle.overdraw.proofs.text.put_numbers.Goals as goal

pub put_columns-requires-2-clause-width_in_bounds : goal.put_columns-requires-2-clause-width_in_bounds
put_columns-requires-2-clause-width_in_bounds c = let n = c.args.c in room_after _ c.put_columns.ensures (omega (arith, c.requires.at_in_bounds, length_columns 8 n.figures))

pub put_columns-requires-3-clause-width_in_bounds : goal.put_columns-requires-3-clause-width_in_bounds
put_columns-requires-3-clause-width_in_bounds c =
    let n = c.args.c in
    let figures = length_columns 8 n.figures in
    let offered = length_columns 16 n.offered in
    let behind_one = room_after _ c.put_columns.ensures (omega (arith, c.requires.at_in_bounds, figures, offered)) in
    room_after _ c.put_columns-2.ensures behind_one

pub put_columns-requires-4-clause-width_in_bounds : goal.put_columns-requires-4-clause-width_in_bounds
put_columns-requires-4-clause-width_in_bounds c =
    let n = c.args.c in
    let figures = length_columns 8 n.figures in
    let offered = length_columns 16 n.offered in
    let passed = length_columns 16 n.passed in
    let behind_one = room_after _ c.put_columns.ensures (omega (arith, c.requires.at_in_bounds, figures, offered, passed)) in
    room_after _ c.put_columns-3.ensures (room_after _ c.put_columns-2.ensures behind_one)

pub put_columns-requires-5-clause-width_in_bounds : goal.put_columns-requires-5-clause-width_in_bounds
put_columns-requires-5-clause-width_in_bounds c =
    let n = c.args.c in
    let figures = length_columns 8 n.figures in
    let offered = length_columns 16 n.offered in
    let passed = length_columns 16 n.passed in
    let hidden = length_columns 16 n.hidden in
    let behind_one = room_after _ c.put_columns.ensures (omega (arith, c.requires.at_in_bounds, figures, offered, passed, hidden)) in
    let behind_two = room_after _ c.put_columns-2.ensures behind_one in
    room_after _ c.put_columns-4.ensures (room_after _ c.put_columns-3.ensures behind_two)

pub returns : goal.returns
unfolding numbers
returns c =
    add_after
    (add_after (add_after (add_after c.put_columns.ensures c.put_columns-2.ensures) c.put_columns-3.ensures) c.put_columns-4.ensures)
    (rw c.percent.ensures at c.put_columns-5.ensures)
