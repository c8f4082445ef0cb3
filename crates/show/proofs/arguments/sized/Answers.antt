-- `arguments::sized` meets its contract: the test decides. Assumes nothing.
use Rattle.std.proofs.Common.{rules}
use mathlib.Core.Path.{sym, ◌∙◌}
use Prim.Native.Nat.{◌+◌}
use borrow.Author.Tests.{lt-ltb, le-ltb}
use Rattle.show.specs.Arguments.{sized_of}
use Rattle.show.proofs.arguments.sized.Goals as goal

pub returns-then-used-count : goal.returns-then-used-count
unfolding sized_of
returns-then-used-count c =
    let a = c.args in
    rw (lt-ltb (a.used + 1) a.count c.if-used-count.true)

pub returns-in_err-places : goal.returns-in_err-places
unfolding sized_of
returns-in_err-places c =
    let a = c.args in
    rw (le-ltb (a.used + 1) a.count c.if-used-count.false, sym c.places_if.ensures ∙ c.in_err-places.was) (search rules)

pub returns : goal.returns
unfolding sized_of
returns c =
    let a = c.args in
    rw (le-ltb (a.used + 1) a.count c.if-used-count.false, sym c.places_if.ensures ∙ c.in_ok-places.was)
