-- `write::put_lines` meets its contract. The invariant of its loop: the lines of the words passed are put. Assumes nothing.
use Rattle.report.specs.Calls.{Adds}
use Rattle.listing.specs.Text.{lines}
use Rattle.listing.proofs.write.put_lines.Given as goal

abbrev pub invariant-loop-k : goal.invariant-loop-k
invariant-loop-k l = Adds (lines l.from l.words l.k) l.initial.page l.page
