-- `put_text` meets its contract: the text is that of what the run came to. Assumes nothing.
use Rattle.printing.specs.Printing.{text_of}
use Rattle.printing.proofs.put_text.Goals as goal

pub returns : goal.returns
unfolding text_of
returns c = rw c.number_of.ensures at c.put_report.ensures
