-- `draw::span` meets its contract: what is seen of a stretch is what the memories have of it. Assumes nothing.
use Rattle.std.proofs.Common.{List, sym, refl, ap, ◌∙◌}
use Rattle.picture.specs.Offer.{Offer}
use Rattle.picture.specs.Picture.{picture, drawn}
use Rattle.picture.proofs.Fold.{drawn_nil}
use Rattle.picture.proofs.draw.span.Goals as goal

pub returns : goal.returns
returns c =
    let a = c.args in
    let p = picture a.m.now.i.now a.m.now.z.now 0 in
    ((refl, refl), sym (ap (λ (os : List Offer). drawn a.pen os p) (c.in_default.ensures a.pen a.kind refl) ∙ drawn_nil a.pen p))
