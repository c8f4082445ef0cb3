-- `image::put_rows` meets its contract. The invariant of its loop: the rows passed are put. Assumes nothing.
use Rattle.report.specs.Image.{down}
use Rattle.report.specs.Calls.{Adds}
use Rattle.report.proofs.image.put_rows.Given as goal

abbrev pub invariant-loop-k : goal.invariant-loop-k
invariant-loop-k l = Adds (down l.most l.line l.memory l.below l.k) l.initial.page l.page
