-- `draw::run_row` meets its contract: a stretch whose numbers are the row's is the row, and a pen of which nothing but a nearer depth decides
-- draws it as the pen of its frame does. Assumes nothing.
use Rattle.std.proofs.Common.{List, length, sym, ap, ◌∙◌}
use Rattle.picture.specs.declared.Kind.{Kind}
use Rattle.picture.specs.Draw.{span_offers}
use Rattle.picture.specs.Place.{rows_of}
use Rattle.picture.specs.Offer.{Offer}
use Rattle.picture.specs.Picture.{picture, drawn}
use Rattle.picture.proofs.Rows.{plain_span}
use Rattle.triangle.specs.Offers.{kind_of}
use Rattle.triangle.proofs.Rows.{row_span}
use Rattle.triangle.proofs.draw.run_row.Goals as goal

pub returns-then-brush : goal.returns-then-brush
returns-then-brush c =
    let a = c.args in
    let b = a.brush in
    let k = c.requires.0 in
    let rows = rows_of b.pen.frame (length a.m.now.i.now) (length a.m.now.z.now) in
    let p = picture a.m.now.i.now a.m.now.z.now 0 in (
      c.span_nearer.ensures.0,
      c.span_nearer.ensures.1
          ∙ sym (plain_span b.pen (kind_of b.constant) (sym b.fast ∙ c.if-brush.true) rows a.run.lo a.run.hi a.run.y a.run.i a.run.z p)
          ∙ ap (λ (os : List Offer). drawn b.pen os p) (row_span b.pen rows b.constant a.corners a.run.y a.run.lo a.run.hi k.spanned c.requires.1 k.some a.run.i a.run.z k.so),
    )

pub returns : goal.returns
returns c =
    let a = c.args in
    let b = a.brush in
    let k = c.requires.0 in
    let rows = rows_of b.pen.frame (length a.m.now.i.now) (length a.m.now.z.now) in
    let p = picture a.m.now.i.now a.m.now.z.now 0 in (
      c.span.ensures.0,
      c.span.ensures.1
          ∙ ap (λ (kind : Kind). drawn b.pen (span_offers b.pen rows kind a.run.lo a.run.hi a.run.y a.run.i a.run.z) p) c.kind_of.ensures
          ∙ ap (λ (os : List Offer). drawn b.pen os p) (row_span b.pen rows b.constant a.corners a.run.y a.run.lo a.run.hi k.spanned c.requires.1 k.some a.run.i a.run.z k.so),
    )
