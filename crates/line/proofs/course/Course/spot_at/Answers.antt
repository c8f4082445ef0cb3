-- `Course::spot_at` meets its contract. Assumes nothing.
use Rattle.std.proofs.Common.{arith}
use Rattle.line.proofs.Courses.{course_spot}
use Rattle.line.proofs.Steps.{on_step}
use Rattle.line.proofs.course.Course.spot_at.Goals as goal

pub overflow_sub-result : goal.overflow_sub-result
overflow_sub-result c =
    let a = c.args in
    omega (arith, course_spot a.self.width a.slope.a a.slope.b a.slope a.k a.side a.self c.requires.0 (on_step a.slope c.requires.1) c.requires.2)

pub returns : goal.returns
returns c =
    let a = c.args in
    omega (arith, course_spot a.self.width a.slope.a a.slope.b a.slope a.k a.side a.self c.requires.0 (on_step a.slope c.requires.1) c.requires.2)
