-- `course::course_of` meets its contract. Assumes nothing.
use Rattle.std.proofs.Common.{refl}
use Rattle.line.specs.Course.{course_of}
use Rattle.line.proofs.course.course_of.Goals as goal

pub returns-then-slope : goal.returns-then-slope
unfolding course_of
returns-then-slope c =
    (refl, rw (c.if-slope.true, c.move_of-x.ensures, c.move_of-y.ensures))

pub returns : goal.returns
unfolding course_of
returns c =
    (refl, rw (c.if-slope.false, c.move_of-x.ensures, c.move_of-y.ensures))
