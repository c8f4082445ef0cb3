-- `steady::span_steady` meets its contract. Assumes nothing.
use Rattle.std.proofs.Common.{◌≡◌, false, List, length, sym, refl, ap, ◌∙◌, ap₂}
use Rattle.picture.specs.declared.Carried.{Carried}
use Rattle.picture.specs.declared.Kind.TheVariants.{Gouraud}
use Rattle.picture.specs.Place.{lies_tiled, rows_of}
use Rattle.picture.specs.Offer.{Offer}
use Rattle.picture.specs.Picture.{picture, drawn}
use Rattle.picture.specs.Draw.{nearer_pen, span_offers}
use Rattle.picture.proofs.Fold.{drawn_nil}
use Rattle.picture.proofs.steady.span_steady.Goals as goal

pub returns-then-lies_tiled : goal.returns-then-lies_tiled
returns-then-lies_tiled c =
    let a = c.args in
    rw (sym c.lies_tiled.ensures ∙ c.if-lies_tiled.true) ((refl, refl), sym (drawn_nil (nearer_pen a.frame) (picture a.m.now.i.now a.m.now.z.now 0)))

pub returns : goal.returns
returns c =
    let a = c.args in
    let pen = nearer_pen a.frame in
    let rows = rows_of a.frame (length a.m.now.i.now) (length a.m.now.z.now) in
    let p = picture a.m.now.i.now a.m.now.z.now 0 in
    let plain : lies_tiled a.frame ≡ false = sym c.lies_tiled.ensures ∙ c.if-lies_tiled.false in
    rw plain (
      (refl, refl),
      sym
          (ap (λ (os : List Offer). drawn pen os p)
          (sym (ap₂ (λ (i z : Carried). span_offers pen rows Gouraud a.lo a.hi a.y i z) c.steady.ensures c.steady-2.ensures) ∙ c.in_default.ensures pen Gouraud refl)
          ∙ drawn_nil pen p),
    )
