-- `gather` meets its contract. The invariant of its loop: the report has come through what was read. The measure is the number of files left. Assumes
-- nothing.
use Rattle.overdraw.proofs.Coming.{come_ready, come_more}
use Rattle.overdraw.proofs.gather.Goals as goal

pub add-reached-requires : goal.add-reached-requires
add-reached-requires g c = come_ready c.loop-reached.invariant c.loop-reached-test.true

pub returns-in-Err-Unreadable : goal.returns-in-Err-Unreadable
returns-in-Err-Unreadable g c = (_, c.loop-reached.invariant)

pub loop-reached-preserved : goal.loop-reached-preserved
loop-reached-preserved g c = come_more c.loop-reached.invariant c.loop-reached-test.true c.add-reached.ensures
