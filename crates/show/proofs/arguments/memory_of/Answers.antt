-- `arguments::memory_of` meets its contract: the same comparisons. Assumes nothing.
use mathlib.Core.Path.{sym, ◌∙◌}
use Rattle.show.specs.Arguments.{memory_of}
use Rattle.show.proofs.arguments.memory_of.Goals as goal

pub returns-then-eq : goal.returns-then-eq
unfolding memory_of
returns-then-eq c =
    let i = rw c.as_slice.ensures at (sym c.eq.ensures ∙ c.if-eq.true) in
    rw i

pub returns-then-eq-2 : goal.returns-then-eq-2
unfolding memory_of
returns-then-eq-2 c =
    let i = rw c.as_slice.ensures at (sym c.eq.ensures ∙ c.if-eq.false) in
    let z = rw c.as_slice-2.ensures at (sym c.eq-2.ensures ∙ c.if-eq-2.true) in
    rw (i, z)

pub returns : goal.returns
unfolding memory_of
returns c =
    let i = rw c.as_slice.ensures at (sym c.eq.ensures ∙ c.if-eq.false) in
    let z = rw c.as_slice-2.ensures at (sym c.eq-2.ensures ∙ c.if-eq-2.false) in
    rw (i, z)
