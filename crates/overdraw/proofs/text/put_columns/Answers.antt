-- `text::put_columns` meets its contract: what stands in front of the last digit, and that digit. Assumes nothing.
use Rattle.std.proofs.Common.{◌-◌, ◌/◌, arith}
use Rattle.report.proofs.Putting.{add_after, room_after}
use Rattle.overdraw.proofs.Lines.{length_front, columns_parts}
use Rattle.overdraw.proofs.text.put_columns.Goals as goal

pub put_text-requires : goal.put_text-requires
put_text-requires c =
    let a = c.args in
    room_after _ c.put_front.ensures (omega (arith, c.requires.le_width, c.requires.width_in_bounds, length_front (a.width - 1) (a.n / 10)))

pub returns : goal.returns
returns c = rw (columns_parts c.args.width c.args.n c.requires.le_width) (add_after c.put_front.ensures c.put_text.ensures)
