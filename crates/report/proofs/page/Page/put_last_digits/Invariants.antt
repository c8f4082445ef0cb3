-- `page::Page::put_last_digits` meets its contract. The invariant of its loop: the digits of the rest are left to store. Assumes nothing.
use Rattle.report.proofs.Putting.{Storing}
use Rattle.report.proofs.page.Page.put_last_digits.Given as goal

abbrev pub invariant-loop-k : goal.invariant-loop-k
invariant-loop-k l = Storing l.base l.count l.n l.k l.rest l.initial.self l.self
