-- `gather` meets its contract. The invariant of its loop: the report has come through what was read. The measure is the number of files left. Assumes
-- nothing.
use Rattle.std.proofs.Common.{◌-◌}
use Rattle.overdraw.specs.Report.{Come}
use Rattle.overdraw.proofs.gather.Given as goal

abbrev pub invariant-loop-reached : goal.invariant-loop-reached
invariant-loop-reached g l = Come l.fn.page l.page l.reached

abbrev pub decreases-loop-reached : goal.decreases-loop-reached
decreases-loop-reached g l = 1000 - l.reached.files
