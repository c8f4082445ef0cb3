-- `image::rows_longer` meets its contract: the quotient decides as the product would. Assumes nothing.
use Rattle.std.proofs.Common.{◌*◌, ◌≤◌, ◌<◌, arith, mul-le-mul_right}
use Rattle.report.specs.Image.{pixel_size}
use Rattle.report.proofs.Pages.{size_low, over_quotient}
use Rattle.report.proofs.image.rows_longer.Goals as goal

pub overflow_mul-row_size : goal.overflow_mul-row_size
overflow_mul-row_size c =
    let a = c.args in
    let low : c.pixel_size.result ≤ 2 = omega (arith, c.pixel_size.ensures, size_low a.most) in
    omega (arith, mul-le-mul_right a.line low)

pub returns : goal.returns
returns c =
    let a = c.args in
    let some : 0 < c.pixel_size.result * a.line = omega arith in
    rw c.pixel_size.ensures (over_quotient a.room (pixel_size a.most * a.line) a.count (rw c.pixel_size.ensures at some))
