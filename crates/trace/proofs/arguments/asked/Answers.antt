-- `arguments::asked` meets its contract: the tests decide. Assumes nothing.
use mathlib.Core.Path.{sym, ◌∙◌}
use borrow.Author.Tests.{lt-ltb, le-ltb, eq-eqb, ne_eqb}
use Rattle.trace.specs.Arguments.{asked_of}
use Rattle.trace.proofs.arguments.asked.Goals as goal

pub returns-then-count-lt2 : goal.returns-then-count-lt2
unfolding asked_of
returns-then-count-lt2 c = rw (lt-ltb c.args.count 2 c.if-count-lt2.true)

pub returns-then-count-ne3 : goal.returns-then-count-ne3
unfolding asked_of
returns-then-count-ne3 c =
    rw (le-ltb c.args.count 2 c.if-count-lt2.false, ne_eqb c.args.count 3 c.if-count-ne3.true)

pub returns-in_default : goal.returns-in_default
unfolding asked_of
returns-in_default c =
    let count = c.args.count in
    rw (le-ltb count 2 c.if-count-lt2.false, eq-eqb count 3 c.if-count-ne3.false, sym c.coordinate.ensures ∙ c.in_default.is)

pub returns-in_default-coordinate : goal.returns-in_default-coordinate
unfolding asked_of
returns-in_default-coordinate c =
    let count = c.args.count in
    rw (
      le-ltb count 2 c.if-count-lt2.false,
      eq-eqb count 3 c.if-count-ne3.false,
      sym c.coordinate.ensures ∙ c.in-Some.is,
      sym c.coordinate-2.ensures ∙ c.in_default-coordinate.is,
    )

pub returns : goal.returns
unfolding asked_of
returns c =
    let count = c.args.count in
    rw (
      le-ltb count 2 c.if-count-lt2.false,
      eq-eqb count 3 c.if-count-ne3.false,
      sym c.coordinate.ensures ∙ c.in-Some.is,
      sym c.coordinate-2.ensures ∙ c.in-Some-coordinate.is,
    )
