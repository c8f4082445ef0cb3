-- `draw::put` meets its contract. Assumes nothing.
use Rattle.std.proofs.Common.{ℕ, length, sym, refl, ap, ◌∙◌, arith}
use Rattle.picture.specs.Place.{rows_of}
use Rattle.picture.specs.Picture.{picture, step_at}
use Rattle.picture.proofs.Places.{place_below}
use Rattle.picture.proofs.Offers.{offered_inside, keep_drawn, keep_left}
use Rattle.picture.proofs.draw.put.Goals as goal

pub put_at-requires : goal.put_at-requires
put_at-requires c =
    let a = c.args in
    let rows = rows_of a.pen.frame (length a.m.now.i.now) (length a.m.now.z.now) in
    let below = place_below a.pen.frame (length a.m.now.i.now) (length a.m.now.z.now) a.v.x a.v.y
    (offered_inside a.pen rows a.kind a.v.x a.v.y (sym c.is_offered.ensures ∙ c.if-is_offered.true)) in
    (omega (arith, c.place-at.ensures.0, below.0), omega (arith, c.place-at.ensures.0, below.1), omega arith)

pub returns-then-is_offered : goal.returns-then-is_offered
returns-then-is_offered c =
    let a = c.args in (
      (refl, refl),
      keep_drawn a.pen (rows_of a.pen.frame (length a.m.now.i.now) (length a.m.now.z.now)) a.kind a.v.x a.v.y a.v.i a.v.z (picture a.m.now.i.now a.m.now.z.now 0) _
          (sym c.is_offered.ensures ∙ c.if-is_offered.true)
          (c.put_at.ensures.0 ∙ ap (λ (at : ℕ). step_at a.pen a.kind at a.v.i a.v.z (picture a.m.now.i.now a.m.now.z.now 0)) c.place-at.ensures.0),
    )

pub returns : goal.returns
returns c =
    let a = c.args in (
      (refl, refl),
      keep_left a.pen (rows_of a.pen.frame (length a.m.now.i.now) (length a.m.now.z.now)) a.kind a.v.x a.v.y a.v.i a.v.z (picture a.m.now.i.now a.m.now.z.now 0)
          (sym c.is_offered.ensures ∙ c.if-is_offered.false),
    )
