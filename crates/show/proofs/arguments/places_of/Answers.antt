-- `arguments::places_of` meets its contract: digits tell a number, and the number decides. Assumes nothing.
use mathlib.Core.Path.{◌≡◌, sym, ◌∙◌}
use mathlib.Core.Bool.{true, false}
use native.Mathlib.Omega.{arith}
use Rattle.show.specs.Arguments.{places_of}
use Rattle.show.proofs.Asking.{counted_none, counted_some, counted_many}
use Rattle.show.proofs.arguments.places_of.Goals as goal

pub returns-then-not-digits_only : goal.returns-then-not-digits_only
unfolding places_of
returns-then-not-digits_only c =
    let none : c.digits_only.result ≡ false = c.if-not-digits_only.true in
    rw (sym c.digits_only.ensures ∙ none)

pub returns-in-0 : goal.returns-in-0
unfolding places_of
returns-in-0 c =
    let digits : c.digits_only.result ≡ true = c.if-not-digits_only.false in
    rw (sym c.digits_only.ensures ∙ digits, ← c.value.ensures) (counted_none c.in-0.is)

pub returns-in-1-to-1048576 : goal.returns-in-1-to-1048576
unfolding places_of
returns-in-1-to-1048576 c =
    let digits : c.digits_only.result ≡ true = c.if-not-digits_only.false in
    rw (sym c.digits_only.ensures ∙ digits, ← c.value.ensures) (counted_some (omega arith) (omega arith))

pub returns-in_default : goal.returns-in_default
unfolding places_of
returns-in_default c =
    let digits : c.digits_only.result ≡ true = c.if-not-digits_only.false in
    rw (sym c.digits_only.ensures ∙ digits, ← c.value.ensures) (counted_many (omega arith))
