-- `page::page_rows` meets its contract: the same number. Assumes nothing.
use Rattle.show.specs.Show.{page_rows}
use Rattle.show.proofs.page.page_rows.Goals as goal

pub returns : goal.returns
unfolding page_rows
returns c = c.min.ensures
