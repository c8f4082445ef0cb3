-- `text::put_lines` meets its contract. The invariant of its loop: the lines of the places passed are put. Assumes nothing.
use Rattle.report.specs.Text.{lines}
use Rattle.report.specs.Calls.{Adds}
use Rattle.report.proofs.text.put_lines.Given as goal

abbrev pub invariant-loop-place : goal.invariant-loop-place
invariant-loop-place l = Adds (lines l.line l.im l.zm l.place) l.initial.page l.page
