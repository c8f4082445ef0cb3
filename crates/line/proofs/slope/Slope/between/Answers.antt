-- `Slope::between` meets its contract: what leads, and the two distances, are as they are defined. Assumes nothing.
use Rattle.std.proofs.Common.{rules}
use Rattle.line.specs.Segment.{larger, smaller, x_leads}
use Rattle.line.proofs.Steps.{slope_is}
use Rattle.line.proofs.slope.Slope.between.Goals as goal

pub invariant_of-result : goal.invariant_of-result
unfolding larger smaller x_leads
invariant_of-result c = search rules

pub returns : goal.returns
returns c = slope_is _
