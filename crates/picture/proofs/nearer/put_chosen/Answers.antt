-- `nearer::put_chosen` meets its contract. Assumes nothing.
use Rattle.std.proofs.Common.{ℕ, ◌∙◌, ap₂}
use Rattle.picture.specs.Picture.{picture}
use Rattle.picture.specs.Loops.{nearer_at}
use Rattle.picture.proofs.Rows.{chosen_nearer}
use Rattle.picture.proofs.nearer.put_chosen.Goals as goal

pub returns : goal.returns
returns c =
    let a = c.args in
    let iw = c.whole-i in
    let zw = c.whole-z in
    let d = chosen_nearer a.at iw.result zw.result a.im.now a.zm.now a.n c.pick-2.ensures c.pick.ensures c.pick-3.ensures in
    (d.0 ∙ ap₂ (λ (i z : ℕ). nearer_at a.at i z (picture a.im.now a.zm.now a.n)) iw.ensures zw.ensures, d.1)
