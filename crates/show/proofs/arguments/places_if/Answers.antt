-- `arguments::places_if` meets its contract: what the argument tells, if it is given. Assumes nothing.
use Rattle.std.proofs.Common.{rules}
use mathlib.Core.Path.{◌≡◌, sym, ◌∙◌}
use mathlib.Core.Bool.{true, false}
use Rattle.show.specs.Arguments.{places_if}
use Rattle.show.proofs.arguments.places_if.Goals as goal

pub returns-then-not-given : goal.returns-then-not-given
unfolding places_if
returns-then-not-given c =
    let given : c.args.given ≡ false = c.if-not-given.true in
    rw given

pub returns-in_err-places_of : goal.returns-in_err-places_of
unfolding places_if
returns-in_err-places_of c =
    let given : c.args.given ≡ true = c.if-not-given.false in
    rw (given, sym c.places_of.ensures ∙ c.in_err-places_of.was) (search rules)

pub returns : goal.returns
unfolding places_if
returns c =
    let given : c.args.given ≡ true = c.if-not-given.false in
    rw (given, sym c.places_of.ensures ∙ c.in_ok-places_of.was)
