-- `page::put_page` meets its contract: 2,520 lines of 26 bytes always fit, so that they are written. Assumes nothing.
use mathlib.Core.Path.{ap, ◌∙◌}
use mathlib.Core.List.{List}
use Prim.Native.Nat.{ℕ}
use native.Mathlib.Omega.{arith}
use Rattle.report.specs.Calls.{writing_text}
use Rattle.report.proofs.Calls.{answer_stands, answer_done}
use Rattle.list.specs.List.{page_of}
use Rattle.list.proofs.Paging.{page_of_lem, page_fits}
use Rattle.list.proofs.page.put_page.Goals as goal

pub unwrap-requires : goal.unwrap-requires
unwrap-requires c =
    let a = c.args in
    let page = page_of a.words.now a.from in
    let told = c.list.ensures ∙ ap (λ (text : List ℕ). writing_text text a.page.now) (page_of_lem a.words.now a.from c.min-n.ensures) in
    answer_done page a.page.now _ (omega (arith, page_fits a.words.now a.from)) told

pub returns : goal.returns
returns c =
    let a = c.args in
    let page = page_of a.words.now a.from in
    let told = c.list.ensures ∙ ap (λ (text : List ℕ). writing_text text a.page.now) (page_of_lem a.words.now a.from c.min-n.ensures) in
    answer_stands page a.page.now _ (omega (arith, page_fits a.words.now a.from)) told c.unwrap.ensures
