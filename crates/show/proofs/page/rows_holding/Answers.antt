-- `page::rows_holding` meets its contract: the test decides. Assumes nothing.
use Prim.Native.Nat.{◌-◌, ◌/◌}
use native.Mathlib.Numerals.{add-one}
use borrow.Author.Tests.{ne_eqb}
use Rattle.show.specs.Show.{rows_holding}
use Rattle.show.proofs.page.rows_holding.Goals as goal

pub returns-then-n-eq0 : goal.returns-then-n-eq0
unfolding rows_holding
returns-then-n-eq0 c = rw c.if-n-eq0.true

pub returns : goal.returns
unfolding rows_holding
returns c = let a = c.args in rw (ne_eqb a.n 0 c.if-n-eq0.false) (add-one ((a.n - 1) / a.line))
