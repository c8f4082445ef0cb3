-- `route::far_of` meets its contract. Assumes nothing.
use Rattle.std.proofs.Common.{ap, ◌∙◌, eq-eqb, ne_eqb}
use Rattle.line.specs.Walk.{twice_of}
use Rattle.line.specs.Route.{far_of}
use Rattle.line.proofs.route.far_of.Goals as goal

pub returns-then-part-eq1 : goal.returns-then-part-eq1
unfolding far_of
returns-then-part-eq1 c = rw (c.if-slope.true, eq-eqb _ _ c.if-part-eq1.true, c.twice-second.ensures)

pub returns-then-slope : goal.returns-then-slope
unfolding far_of
returns-then-slope c =
    rw (c.if-slope.true, ne_eqb _ _ c.if-part-eq1.false) (c.twice.ensures ∙ ap twice_of c.twice-second.ensures)

pub returns : goal.returns
unfolding far_of
returns c = rw c.if-slope.false
