-- `nearer::span_nearer` meets its contract: what is seen of a stretch is what the memories have of it. Assumes nothing.
use Rattle.std.proofs.Common.{List, sym, refl, ap, ◌∙◌}
use Rattle.picture.specs.declared.Kind.TheVariants.{Gouraud}
use Rattle.picture.specs.Offer.{Offer}
use Rattle.picture.specs.Picture.{picture, drawn}
use Rattle.picture.specs.Draw.{nearer_pen}
use Rattle.picture.proofs.Fold.{drawn_nil}
use Rattle.picture.proofs.nearer.span_nearer.Goals as goal

pub returns : goal.returns
returns c =
    let a = c.args in
    let pen = nearer_pen a.frame in
    let p = picture a.m.now.i.now a.m.now.z.now 0 in
    ((refl, refl), sym (ap (λ (os : List Offer). drawn pen os p) (c.in_default.ensures pen Gouraud refl) ∙ drawn_nil pen p))
