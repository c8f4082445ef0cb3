-- `arguments::coordinate` meets its contract: the tests decide. Assumes nothing.
use mathlib.Core.Path.{◌≡◌, sym, ◌∙◌}
use mathlib.Core.Bool.{true, false}
use borrow.Author.Tests.{lt-ltb, le-ltb}
use Rattle.picture.specs.Limits.{largest_coordinate}
use Rattle.trace.specs.Arguments.{coordinate_of}
use Rattle.trace.proofs.arguments.coordinate.Goals as goal

pub returns-then-is_empty : goal.returns-then-is_empty
unfolding coordinate_of
returns-then-is_empty c = rw (sym c.is_empty.ensures ∙ c.if-is_empty.true)

pub returns-then-not-digits_only : goal.returns-then-not-digits_only
unfolding coordinate_of
returns-then-not-digits_only c =
    let digits : c.digits_only.result ≡ false = c.if-not-digits_only.true in
    rw (sym c.is_empty.ensures ∙ c.if-is_empty.false, sym c.digits_only.ensures ∙ digits)

pub returns-then-n : goal.returns-then-n
unfolding coordinate_of
returns-then-n c =
    let digits : c.digits_only.result ≡ true = c.if-not-digits_only.false in
    rw (sym c.is_empty.ensures ∙ c.if-is_empty.false, sym c.digits_only.ensures ∙ digits, ← c.value-n.ensures, lt-ltb largest_coordinate c.value-n.result c.if-n.true)

pub returns : goal.returns
unfolding coordinate_of
returns c =
    let digits : c.digits_only.result ≡ true = c.if-not-digits_only.false in
    rw (sym c.is_empty.ensures ∙ c.if-is_empty.false, sym c.digits_only.ensures ∙ digits, ← c.value-n.ensures, le-ltb largest_coordinate c.value-n.result c.if-n.false)
