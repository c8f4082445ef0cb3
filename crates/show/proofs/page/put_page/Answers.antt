-- `page::put_page` meets its contract: no more rows are asked for than fit. Assumes nothing.
use native.Mathlib.Omega.{arith}
use Rattle.report.specs.Image.{down}
use Rattle.report.proofs.Pages.{length_down}
use Rattle.report.proofs.Calls.{answer_stands, answer_done}
use Rattle.show.proofs.Pages.{page_sized}
use Rattle.show.proofs.page.put_page.Goals as goal

pub unwrap-requires : goal.unwrap-requires
unwrap-requires c =
    let a = c.args in
    let size = length_down a.most a.line a.memory.now a.below a.count in
    answer_done (down a.most a.line a.memory.now a.below a.count) a.page.now _ (omega (arith, size, page_sized a.line a.most a.count c.requires)) c.image_rows.ensures

pub returns : goal.returns
returns c =
    let a = c.args in
    let size = length_down a.most a.line a.memory.now a.below a.count in
    answer_stands (down a.most a.line a.memory.now a.below a.count) a.page.now _ (omega (arith, size, page_sized a.line a.most a.count c.requires)) c.image_rows.ensures c.unwrap.ensures
