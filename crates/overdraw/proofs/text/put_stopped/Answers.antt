-- `text::put_stopped` meets its contract, by why the recording was not run to its end. Assumes nothing.
use Rattle.std.proofs.Common.{arith}
use Rattle.report.proofs.Putting.{add_after, room_after}
use Rattle.overdraw.specs.Text.{entry_lines}
use Rattle.overdraw.proofs.Lines.{length_tally}
use Rattle.overdraw.proofs.text.put_stopped.Goals as goal

pub put_refusal-requires : goal.put_refusal-requires
put_refusal-requires c =
    let a = c.args in
    room_after _ c.put_tally.ensures (omega (arith, c.requires.at_in_bounds, length_tally a.name a.tally))

pub returns-in-TooLong : goal.returns-in-TooLong
unfolding entry_lines
returns-in-TooLong c = rw c.in-TooLong.is c.put_too_long.ensures

pub returns-in-Refused : goal.returns-in-Refused
unfolding entry_lines
returns-in-Refused c = rw c.in-Refused.is (add_after c.put_tally.ensures c.put_refusal.ensures)
