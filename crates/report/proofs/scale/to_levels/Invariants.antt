-- `scale::to_levels` meets its contract. The invariant of its loop: the places passed have their levels, and those left their numbers. Assumes nothing.
use Rattle.std.proofs.Common.{◌≡◌, ◌++◌, drop}
use Rattle.report.specs.Levels.{levels_in}
use Rattle.report.proofs.scale.to_levels.Given as goal

abbrev pub invariant-loop-place : goal.invariant-loop-place
invariant-loop-place l = l.im ≡ levels_in l.depth l.range l.fn.im l.zm l.place ++ drop l.place l.fn.im
