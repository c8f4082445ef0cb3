-- `image::image_heading` meets its contract: the test decides between the two outcomes. Assumes nothing.
use Rattle.std.proofs.Common.{rules, refl}
use Prim.Native.Nat.{◌≤◌}
use native.Mathlib.Omega.{arith}
use lib.ListN.{length}
use Rattle.report.specs.Image.{image_heading}
use Rattle.report.proofs.Calls.{unwritten, done}
use Rattle.report.proofs.image.image_heading.Goals as goal

pub returns-then-out-size_of_heading : goal.returns-then-out-size_of_heading
returns-then-out-size_of_heading c =
    let a = c.args in
    unwritten (image_heading a.most a.line a.rows) a.out.now (omega (arith, c.size_of_heading.ensures.size, c.if-out-size_of_heading.true))

pub returns : goal.returns
returns c =
    let a = c.args in
    let enough : length (image_heading a.most a.line a.rows) ≤ length a.out.now = omega (arith, c.size_of_heading.ensures.size, c.if-out-size_of_heading.false) in
    done (image_heading a.most a.line a.rows) a.out.now enough c.put_image_heading.ensures refl refl (search rules)
