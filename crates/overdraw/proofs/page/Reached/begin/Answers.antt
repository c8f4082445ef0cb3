-- `page::Reached::begin` meets its contract: the heading, and no recording. Assumes nothing.
use Rattle.std.proofs.Common.{refl}
use Rattle.overdraw.proofs.Coming.{come_none}
use Rattle.overdraw.proofs.page.Reached.begin.Goals as goal

pub returns : goal.returns
returns c = come_none c.requires.at_front c.requires.long c.put_heading.ensures refl c.none.ensures
