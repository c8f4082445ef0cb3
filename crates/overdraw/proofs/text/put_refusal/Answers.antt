-- `text::put_refusal` meets its contract: its four parts, one behind the other. Assumes nothing.
use Rattle.std.proofs.Common.{ne_eqb, arith}
use Rattle.ground.proofs.Numbers.{number_positive}
use Rattle.ground.specs.Refusal.{number}
use Rattle.report.proofs.Putting.{add_after, room_after}
use Rattle.overdraw.specs.Text.{refusal_line}
use Rattle.overdraw.proofs.Lines.{length_columns}
use Rattle.overdraw.proofs.text.put_refusal.Goals as goal

pub put_text-requires-2 : goal.put_text-requires-2
put_text-requires-2 c = room_after _ c.put_text.ensures (omega arith)

pub put_columns-requires-clause-width_in_bounds : goal.put_columns-requires-clause-width_in_bounds
put_columns-requires-clause-width_in_bounds c = room_after _ c.put_text-2.ensures (room_after _ c.put_text.ensures (omega arith))

pub put_text-requires-3 : goal.put_text-requires-3
put_text-requires-3 c =
    room_after _ c.put_columns.ensures
    (room_after _ c.put_text-2.ensures (room_after _ c.put_text.ensures (omega (arith, length_columns 8 c.into.result))))

pub returns : goal.returns
unfolding refusal_line
returns c =
    rw (ne_eqb (number c.args.refusal) 0 (λ e. omega (arith, number_positive c.args.refusal, e)))
    (add_after
    (add_after (add_after c.put_text.ensures c.put_text-2.ensures) (rw c.into.ensures at c.put_columns.ensures))
    c.put_text-3.ensures)
