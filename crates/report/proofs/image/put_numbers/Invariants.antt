-- `image::put_numbers` meets its contract. The invariant of its loop: the numbers of the places passed are put. Assumes nothing.
use Rattle.report.specs.Image.{numbers}
use Rattle.report.specs.Calls.{Adds}
use Rattle.report.proofs.image.put_numbers.Given as goal

abbrev pub invariant-loop-k : goal.invariant-loop-k
invariant-loop-k l = Adds (numbers l.most l.memory l.from l.k) l.initial.page l.page
