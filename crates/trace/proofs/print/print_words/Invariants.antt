-- `print::print_words` meets its contract. The invariant of its loop: the next line begins on the page, and the memories keep their lengths. Assumes nothing.
use Rattle.std.proofs.Common.{◌≡◌, ℕ, List, length}
use Rattle.report.specs.Calls.{OnPage}
use Rattle.report.specs.declared.page.Page.{Page}
use Rattle.trace.proofs.print.print_words.Given as goal

-- the next line begins on the page or where it ends, and the memories are as long as they were
pub record Printing (im₀ zm₀ im zm : List ℕ) (page : Page) : Type 0 where
  pub on_page : OnPage page
  pub i_long : length im ≡ length im₀
  pub z_long : length zm ≡ length zm₀

abbrev pub invariant-loop : goal.invariant-loop
invariant-loop g l = Printing l.initial.im l.initial.zm l.im l.zm l.page
