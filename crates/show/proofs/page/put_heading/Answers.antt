-- `page::put_heading` meets its contract: a heading of at most 66 bytes fits. Assumes nothing.
use native.Mathlib.Omega.{arith}
use borrow.Author.Rules.{rules}
use Rattle.report.specs.Image.{image_heading}
use Rattle.report.proofs.Pages.{image_heading_short}
use Rattle.report.proofs.Calls.{answer_stands, answer_done}
use Rattle.show.proofs.page.put_heading.Goals as goal

pub unwrap-requires : goal.unwrap-requires
unwrap-requires c =
    let a = c.args in
    let short = image_heading_short a.most a.line a.rows (search rules) (search rules) (search rules) in
    answer_done (image_heading a.most a.line a.rows) a.page.now _ (omega (arith, short)) c.image_heading.ensures

pub returns : goal.returns
returns c =
    let a = c.args in
    let short = image_heading_short a.most a.line a.rows (search rules) (search rules) (search rules) in
    answer_stands (image_heading a.most a.line a.rows) a.page.now _ (omega (arith, short)) c.image_heading.ensures c.unwrap.ensures
