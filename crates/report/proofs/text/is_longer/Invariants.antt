-- `text::is_longer` meets its contract. The invariant of its loop: the size is that of the first line and of the lines of the places passed, and fits the
-- room. Assumes nothing.
use Rattle.std.proofs.Common.{◌≡◌, ◌+◌, ◌≤◌, length}
use Rattle.report.specs.Text.{lines, heading}
use Rattle.report.proofs.text.is_longer.Given as goal

abbrev pub invariant-loop-place : goal.invariant-loop-place
invariant-loop-place l =
    (l.size ≤ l.room)
    × (l.size ≡ length (heading l.fn.heading.words l.fn.heading.refusal l.fn.heading.passed) + length (lines l.line l.im l.zm l.place))
