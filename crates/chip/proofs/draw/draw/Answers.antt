-- `draw::draw` meets its contract: over memories without places, and of a cut figure, nothing is offered, and any other is drawn whole. Assumes nothing.
use Rattle.std.proofs.Common.{refl, arith}
use Rattle.chip.proofs.Figures.{cut_drawn, uncut_drawn}
use Rattle.chip.proofs.Nowhere.{nowhere_drawn}
use Rattle.chip.proofs.draw.draw.Goals as goal

pub returns-then-m-eq0 : goal.returns-then-m-eq0
returns-then-m-eq0 c =
    let a = c.args in
    ((refl, refl), nowhere_drawn a.r a.m.now.i.now a.m.now.z.now a.figure (omega (arith, c.if-m-eq0.true)))

pub returns-then-is_cut : goal.returns-then-is_cut
returns-then-is_cut c =
    let a = c.args in
    ((refl, refl), cut_drawn a.r a.m.now.i.now a.m.now.z.now a.figure c.is_cut.ensures c.if-is_cut.true)

pub returns : goal.returns
returns c =
    let a = c.args in
    (c.draw_whole.ensures.0, uncut_drawn a.r a.m.now.i.now a.m.now.z.now a.figure c.is_cut.ensures c.if-is_cut.false c.draw_whole.ensures.1)
