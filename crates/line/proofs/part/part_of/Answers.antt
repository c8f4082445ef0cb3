-- `part::part_of` meets its contract. Assumes nothing.
use lib.Bits.{and_mask}
use Rattle.std.proofs.Common.{le-ltb, lt-ltb}
use Rattle.line.specs.Part.{part_of}
use Rattle.line.proofs.part.part_of.Goals as goal

pub returns-then-frame-lt4 : goal.returns-then-frame-lt4
unfolding part_of
returns-then-frame-lt4 c = rw (lt-ltb _ _ c.if-frame-lt4.true, and_mask _ 1)

pub returns : goal.returns
unfolding part_of
returns c = rw (le-ltb _ _ c.if-frame-lt4.false, and_mask _ 2)
