-- `text::put_printed` meets its contract: the test decides what is printed. Assumes nothing.
use borrow.Author.Tests.{lt-ltb, le-ltb}
use Rattle.draw.specs.Draw.{printed}
use Rattle.draw.proofs.text.put_printed.Goals as goal

pub returns-then-bytes-gt8192 : goal.returns-then-bytes-gt8192
unfolding printed
returns-then-bytes-gt8192 c = rw (lt-ltb 8192 _ c.if-bytes-gt8192.true) c.put_too_long.ensures

pub returns : goal.returns
unfolding printed
returns c = rw (le-ltb 8192 _ c.if-bytes-gt8192.false) c.put_drawn.ensures
