-- `draw::put_placed` meets its contract. Assumes nothing.
use Rattle.std.proofs.Common.{sym, refl, ◌∙◌}
use Rattle.picture.specs.Picture.{picture}
use Rattle.picture.proofs.Offers.{placed_in, placed_out}
use Rattle.picture.proofs.draw.put_placed.Goals as goal

pub returns-then-at-m : goal.returns-then-at-m
returns-then-at-m c =
    let a = c.args in
    ((refl, refl), c.put_at.ensures.0 ∙ sym (placed_in a.pen a.kind a.at a.i a.z (picture a.m.now.i.now a.m.now.z.now 0) c.if-at-m.true))

pub returns : goal.returns
returns c = let a = c.args in ((refl, refl), sym (placed_out a.pen a.kind a.at a.i a.z (picture a.m.now.i.now a.m.now.z.now 0) c.if-at-m.false))
