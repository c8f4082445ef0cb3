-- `image::image_rows` meets its contract: the test decides between the two outcomes. Assumes nothing.
use Rattle.std.proofs.Common.{rules, refl, length, arith}
use Rattle.report.specs.Image.{down}
use Rattle.report.proofs.Calls.{longer, fits, done}
use Rattle.report.proofs.Pages.{rows_asked}
use Rattle.report.proofs.image.image_rows.Goals as goal

pub returns-then-rows_longer : goal.returns-then-rows_longer
returns-then-rows_longer c =
    let a = c.args in
    let told = rows_asked a.most a.line a.memory.now a.below a.count (length a.out.now) c.rows_longer.ensures in
    longer (down a.most a.line a.memory.now a.below a.count) a.out.now told c.if-rows_longer.true

pub put_rows-requires : goal.put_rows-requires
put_rows-requires c =
    let a = c.args in
    let told = rows_asked a.most a.line a.memory.now a.below a.count (length a.out.now) c.rows_longer.ensures in
    omega (arith, fits (down a.most a.line a.memory.now a.below a.count) a.out.now told c.if-rows_longer.false)

pub returns : goal.returns
returns c =
    let a = c.args in
    let told = rows_asked a.most a.line a.memory.now a.below a.count (length a.out.now) c.rows_longer.ensures in
    let enough = fits (down a.most a.line a.memory.now a.below a.count) a.out.now told c.if-rows_longer.false in
    done (down a.most a.line a.memory.now a.below a.count) a.out.now enough c.put_rows.ensures refl refl (search rules)
