-- `text::put_front` meets its contract. The invariant of its loop: what is left of the number is left to store. Assumes nothing.
use Rattle.overdraw.proofs.Lines.{Storing}
use Rattle.overdraw.proofs.text.put_front.Given as goal

abbrev pub invariant-loop-k : goal.invariant-loop-k
invariant-loop-k l = Storing l.width l.n l.k l.rest l.initial.page l.page
