-- `text::put_drawn` meets its contract: the text is that of what the run came to. Assumes nothing.
use mathlib.Core.Path.{ap}
use Rattle.chip.specs.Fresh.{fresh_run}
use Rattle.printing.specs.Printing.{text_of, stream_text}
use Rattle.draw.proofs.text.put_drawn.Goals as goal

pub returns : goal.returns
unfolding stream_text fresh_run text_of
returns c =
    rw (ap text_of c.run-ran.ensures) at c.put_text.ensures
