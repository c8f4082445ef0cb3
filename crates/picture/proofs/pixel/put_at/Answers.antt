-- `pixel::put_at` meets its contract. Assumes nothing.
use Rattle.std.proofs.Common.{ℕ, ◌+◌, List, sym, ◌∙◌, ap₂, le_refl, arith}
use Rattle.picture.specs.Picture.{picture}
use Rattle.picture.proofs.Fold.{step_pass, step_fail}
use Rattle.picture.proofs.Offers.{new_z_is}
use Rattle.picture.proofs.pixel.put_at.Goals as goal

pub returns-then-is_passed : goal.returns-then-is_passed
returns-then-is_passed c =
    let a = c.args in
    let p = picture a.im.now a.zm.now a.n in (
      ap₂ (λ (i z : List ℕ). picture i z (a.n + 1)) c.store_i.ensures (new_z_is a.pen a.kind a.zm.now a.at a.z c.is_deep.ensures c.store_z.ensures)
          ∙ sym (step_pass a.pen a.kind a.at a.i a.z p (sym c.is_passed.ensures ∙ c.if-is_passed.true)),
      le_refl _,
    )

pub returns : goal.returns
returns c =
    let a = c.args in (
      sym (step_fail a.pen a.kind a.at a.i a.z (picture a.im.now a.zm.now a.n) (sym c.is_passed.ensures ∙ c.if-is_passed.false)),
      omega arith,
    )
