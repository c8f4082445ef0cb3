-- `Style::is_set` meets its contract: the position is that of the steps before and k together, modulo 32. Assumes nothing.
use lib.Bits.{and_mask}
use Rattle.line.specs.Segment.{is_set}
use Rattle.line.proofs.Steps.{position_is}
use Rattle.line.proofs.Style.is_set.Goals as goal

pub returns : goal.returns
unfolding is_set
returns c = let a = c.args in rw (and_mask _ 1, ← position_is a.self.steps a.k)
