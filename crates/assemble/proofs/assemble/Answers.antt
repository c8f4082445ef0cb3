-- `assemble` meets its contract: no more words are stored than there is room for. Assumes nothing.
use mathlib.Core.Path.{◌∙◌}
use native.Mathlib.Omega.{arith}
use Rattle.listing.proofs.Kept.{held_fits}
use Rattle.assemble.proofs.assemble.Goals as goal

pub finish-requires : goal.finish-requires
finish-requires g c = held_fits _ _ _ _ _ c.read-r.ensures c.loop.invariant.2

pub loop-preserved : goal.loop-preserved
loop-preserved g c = (
  c.read-r.auto.words ∙ c.loop.invariant.0,
  omega (arith, c.take.auto.buf, c.loop.invariant.1),
  held_fits _ _ _ _ _ c.read-r.ensures c.loop.invariant.2,
)
