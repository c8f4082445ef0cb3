-- `page::rows_shown` meets its contract: the test decides. Assumes nothing.
use Rattle.show.specs.Show.{rows_shown}
use Rattle.show.proofs.page.rows_shown.Goals as goal

pub returns-then-given : goal.returns-then-given
unfolding rows_shown
returns-then-given c = rw c.if-given.true

pub returns : goal.returns
unfolding rows_shown
returns c = rw c.if-given.false (rw c.drawn_places.ensures at c.rows_holding.ensures)
