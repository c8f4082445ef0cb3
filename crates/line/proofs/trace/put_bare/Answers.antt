-- `trace::put_bare` meets its contract: with depths it passes where it is no farther, and without always. Assumes nothing.
use Rattle.std.proofs.Common.{sym, refl, ◌∙◌, arith}
use Rattle.line.specs.Segment.{kind_of}
use Rattle.line.proofs.Bare.{deep_edge, bare_chosen, bare_ink, min_chosen, byte_chosen}
use Rattle.line.proofs.trace.put_bare.Goals as goal

pub returns-then-is_deep : goal.returns-then-is_deep
returns-then-is_deep c =
    let a = c.args in
    let d = sym c.is_deep.ensures ∙ c.if-is_deep.true in
    bare_chosen a.pen (kind_of a.mode) c.requires.0 a.at a.i a.z a.im.now a.zm.now 0 (omega (arith, c.well_formed)) d (deep_edge a.mode d) refl c.pick_near.ensures (c.min.ensures ∙ min_chosen a.z _) (byte_chosen _)

pub returns : goal.returns
returns c = let a = c.args in
    bare_ink a.pen (kind_of a.mode) c.requires.0 a.at a.i a.z a.im.now a.zm.now 0 (omega (arith, c.well_formed)) (sym c.is_deep.ensures ∙ c.if-is_deep.false)
