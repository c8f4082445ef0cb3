-- `trace::put_spot` meets its contract: a step that the memory does not have offers nothing, and every other one is drawn at its place. Assumes nothing.
use Rattle.std.proofs.Common.{ℕ, length, refl, ap, ◌∙◌, arith}
use Rattle.picture.specs.Place.{rows_of}
use Rattle.picture.specs.Picture.{picture, step_at}
use Rattle.picture.proofs.Places.{place_below}
use Rattle.picture.proofs.Offers.{offered_inside, keep_drawn}
use Rattle.line.specs.Segment.{kind_of, x_at, y_at}
use Rattle.line.specs.Step.{step_pixel}
use Rattle.line.proofs.Steps.{put_step, no_step}
use Rattle.line.proofs.Loops.{inked_step, blank_step}
use Rattle.line.proofs.Routes.{Low, here_offered, here_placed, not_here}
use Rattle.line.proofs.trace.put_spot.Goals as goal

pub put_bare-requires : goal.put_bare-requires
put_bare-requires g c =
    let a = c.args in
    let s = a.route.slope in
    let ni = length a.im.now in
    let nz = length a.zm.now in
    let x = x_at s.a s.b a.step.k in
    let y = y_at s.a s.b a.step.k in
    let on = c.requires.1.walk.on in
    let low : Low s.a s.b = record { ax = omega (arith, c.well_formed); ay = omega (arith, c.well_formed); bx = omega (arith, c.well_formed); by = omega (arith, c.well_formed) } in
    let offered = here_offered a.pen ni nz a.style _ _ a.route c.requires.0 a.step.k on low c.spot_of-at.ensures (rw c.WAY.ensures at c.is_here.ensures) ∙ c.if-is_here.true in
    let placed = here_placed a.pen ni nz a.style _ _ a.route c.requires.0 a.step.k on low c.spot_of-at.ensures (rw c.WAY-then-ink.ensures at c.place_at-place.ensures) in
    let below = place_below a.pen.frame ni nz x y (offered_inside a.pen (rows_of a.pen.frame ni nz) (kind_of a.style.mode) x y offered) in
    (rw (c.MODE-then-ink.ensures, c.requires.0.moded) c.requires.0.goes.bare, omega (arith, placed, below.0), omega (arith, placed, below.1))

pub returns-then-ink : goal.returns-then-ink
returns-then-ink g c =
    let a = c.args in
    let s = a.route.slope in
    let ni = length a.im.now in
    let nz = length a.zm.now in
    let rows = rows_of a.pen.frame ni nz in
    let kind = kind_of a.style.mode in
    let ink = c.ink_at-ink.result in
    let on = c.requires.1.walk.on in
    let low : Low s.a s.b = record { ax = omega (arith, c.well_formed); ay = omega (arith, c.well_formed); bx = omega (arith, c.well_formed); by = omega (arith, c.well_formed) } in
    let offered = here_offered a.pen ni nz a.style _ _ a.route c.requires.0 a.step.k on low c.spot_of-at.ensures (rw c.WAY.ensures at c.is_here.ensures) ∙ c.if-is_here.true in
    let placed = here_placed a.pen ni nz a.style _ _ a.route c.requires.0 a.step.k on low c.spot_of-at.ensures (rw c.WAY-then-ink.ensures at c.place_at-place.ensures) in
    put_step a.pen rows _ a.im.now a.zm.now
    (inked_step a.pen _ a.style s.a s.b s a.step (step_pixel s.a s.b a.step.k) kind ink c.requires.1 refl refl (rw (c.MODE.ensures, c.requires.0.moded) at c.ink_at-ink.ensures) c.if-ink.true)
    (keep_drawn a.pen rows kind (x_at s.a s.b a.step.k) (y_at s.a s.b a.step.k) ink.i ink.z _ _ offered
    (rw (c.MODE-then-ink.ensures, c.requires.0.moded) at c.put_bare.ensures ∙ ap (λ (at : ℕ). step_at a.pen kind at ink.i ink.z (picture a.im.now a.zm.now 0)) placed))

pub returns-else-ink : goal.returns-else-ink
returns-else-ink g c =
    let a = c.args in
    let s = a.route.slope in
    no_step a.pen a.im.now a.zm.now
    (blank_step a.pen (rows_of a.pen.frame (length a.im.now) (length a.zm.now)) a.style s.a s.b a.step _ c.requires.1.begun (rw (c.MODE.ensures, c.requires.0.moded) at c.ink_at-ink.ensures) c.if-ink.false)

pub returns-else-is_here : goal.returns-else-is_here
returns-else-is_here g c =
    let a = c.args in
    let s = a.route.slope in
    let ni = length a.im.now in
    let nz = length a.zm.now in
    let low : Low s.a s.b = record { ax = omega (arith, c.well_formed); ay = omega (arith, c.well_formed); bx = omega (arith, c.well_formed); by = omega (arith, c.well_formed) } in
    let offered = here_offered a.pen ni nz a.style _ _ a.route c.requires.0 a.step.k c.requires.1.walk.on low c.spot_of-at.ensures (rw c.WAY.ensures at c.is_here.ensures) ∙ c.if-is_here.false in
    no_step a.pen a.im.now a.zm.now (not_here a.pen ni nz a.style _ _ a.route c.requires.0 a.step.k offered)
