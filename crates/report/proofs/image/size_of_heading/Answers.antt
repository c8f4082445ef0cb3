-- `image::size_of_heading` meets its contract: six bytes, and the digits of three numbers. Assumes nothing.
use native.Mathlib.Omega.{arith}
use Rattle.report.proofs.Pages.{length_image_heading}
use Rattle.report.proofs.image.size_of_heading.Goals as goal

pub returns : goal.returns
returns c =
    let a = c.args in
    let all = length_image_heading a.most a.line a.rows in
    record { size = omega (arith, all); small = omega arith }
