-- `scale::range_of` meets its contract. The invariant of its loop: the range so far is that of the places passed. Assumes nothing.
use Rattle.std.proofs.Common.{◌≡◌}
use Rattle.report.specs.Levels.{range_of}
use Rattle.report.proofs.scale.range_of.Given as goal

abbrev pub invariant-loop-place : goal.invariant-loop-place
invariant-loop-place l = l.range ≡ range_of l.depth l.im l.zm l.place
