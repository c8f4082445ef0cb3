-- `draw::draw_one` meets its contract. Assumes nothing.
use Rattle.std.proofs.Common.{ℕ, ap, ◌∙◌, arith}
use Rattle.picture.specs.Picture.{picture, step_at}
use Rattle.picture.proofs.Rows.{shown_drawn, shown_left}
use Rattle.picture.proofs.draw.draw_one.Goals as goal

pub returns-then-is_masked-is_shown : goal.returns-then-is_masked-is_shown
returns-then-is_masked-is_shown c =
    let a = c.args in
    let p = picture a.im.now a.zm.now a.n in (
      shown_drawn a.pen a.kind a.v.x a.v.y a.v.i a.v.z p _ (rw (c.is_masked.ensures, c.is_shown.ensures) at c.if-is_masked-is_shown.true)
          (c.put_at.ensures.0 ∙ ap (λ (at : ℕ). step_at a.pen a.kind at a.v.i a.v.z p) c.requires.0),
      c.put_at.ensures.1,
    )

pub returns : goal.returns
returns c =
    let a = c.args in (
      shown_left a.pen a.kind a.v.x a.v.y a.v.i a.v.z (picture a.im.now a.zm.now a.n) (rw (c.is_masked.ensures, c.is_shown.ensures) at c.if-is_masked-is_shown.false),
      omega arith,
    )
