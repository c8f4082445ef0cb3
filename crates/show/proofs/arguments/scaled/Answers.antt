-- `arguments::scaled` meets its contract: the test decides. Assumes nothing.
use mathlib.Core.Path.{◌≡◌, sym, ◌∙◌}
use mathlib.Core.Bool.{true, false}
use Rattle.show.specs.Arguments.{is_levels, scaled_of}
use Rattle.show.proofs.arguments.scaled.Goals as goal

pub returns-then-is_levels : goal.returns-then-is_levels
unfolding scaled_of
returns-then-is_levels c =
    let a = c.args in
    let yes : is_levels a.first.now ≡ true = sym c.is_levels.ensures ∙ c.if-is_levels.true in
    rw yes c.sized.ensures

pub returns : goal.returns
unfolding scaled_of
returns c =
    let a = c.args in
    let no : is_levels a.first.now ≡ false = sym c.is_levels.ensures ∙ c.if-is_levels.false in
    rw no c.sized-2.ensures
