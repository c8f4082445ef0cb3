-- `text::put_too_long` meets its contract: nine bytes, copied to the front. Assumes nothing.
use mathlib.Core.Path.{refl}
use Rattle.stream.specs.Calls.{over}
use Rattle.report.proofs.Calls.{stands}
use Rattle.draw.proofs.text.put_too_long.Goals as goal

pub returns : goal.returns
unfolding over
returns c = stands refl (rw c.copy_from_slice.ensures.after)
