-- `text::put_entry` meets its contract where the recording was run to its end: no line of a refusal follows. Assumes nothing.
use mathlib.Core.List.{append-nil}
use Rattle.overdraw.specs.Text.{tally_lines, refusal_line, entry_lines}
use Rattle.overdraw.proofs.text.put_entry.Goals as goal

pub returns-in-Ok : goal.returns-in-Ok
unfolding entry_lines refusal_line
returns-in-Ok c = rw (c.in-Ok.is, append-nil (tally_lines c.args.name c.args.e.tally)) c.put_tally.ensures
