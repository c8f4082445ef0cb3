-- `course::move_of` meets its contract. Assumes nothing.
use Rattle.std.proofs.Common.{le-leb}
use borrow.Author.Tests.{lt-leb}
use Rattle.line.specs.Course.{move_of}
use Rattle.line.proofs.course.move_of.Goals as goal

pub returns-then-from-to : goal.returns-then-from-to
unfolding move_of
returns-then-from-to c = rw (le-leb _ _ c.if-from-to.true)

pub returns : goal.returns
unfolding move_of
returns c = rw (lt-leb _ _ c.if-from-to.false)
