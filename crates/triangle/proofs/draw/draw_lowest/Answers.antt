-- `draw::draw_lowest` meets its contract: no memory has more rows in use than 16 bits number. Assumes nothing.
use Rattle.std.proofs.Common.{length, arith}
use Rattle.picture.proofs.Places.{rows_low}
use Rattle.triangle.proofs.draw.draw_lowest.Goals as goal

pub overflow_cast-top : goal.overflow_cast-top
overflow_cast-top c =
    let a = c.args in
    omega (arith, c.end_of-top.ensures, c.rows_of-rows.ensures, rows_low a.pen.frame (length a.m.now.i.now) (length a.m.now.z.now))
