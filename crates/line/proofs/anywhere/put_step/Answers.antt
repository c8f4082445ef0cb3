-- `anywhere::put_step` meets its contract: by whether the step has ink at all. Assumes nothing.
use Rattle.std.proofs.Common.{length, refl}
use Rattle.picture.specs.Place.{rows_of}
use Rattle.line.proofs.Steps.{put_step, no_step}
use Rattle.line.proofs.Loops.{inked_step, blank_step}
use Rattle.line.proofs.anywhere.put_step.Goals as goal

pub returns-then-ink : goal.returns-then-ink
returns-then-ink c =
    let a = c.args in
    let d = put_step a.pen (rows_of a.pen.frame (length a.m.now.i.now) (length a.m.now.z.now)) _ a.m.now.i.now a.m.now.z.now
    (inked_step a.pen _ a.style a.slope.a a.slope.b a.slope a.step _ _ _ c.requires.0 c.pixel_of-pixel.ensures c.into.ensures c.ink_at-ink.ensures c.if-ink.true)
    c.put_pixel.ensures.1 in
    ((c.put_pixel.ensures.0, d.0), d.1)

pub returns : goal.returns
returns c = let a = c.args in
    let d = no_step a.pen a.m.now.i.now a.m.now.z.now
    (blank_step a.pen (rows_of a.pen.frame (length a.m.now.i.now) (length a.m.now.z.now)) a.style a.slope.a a.slope.b a.step _ c.requires.0.begun c.ink_at-ink.ensures c.if-ink.false) in
    (((refl, refl), d.0), d.1)
