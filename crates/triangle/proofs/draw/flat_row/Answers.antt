-- `draw::flat_row` meets its contract: the covered columns with the completing vertex's numbers are the row. Assumes nothing.
use Rattle.std.proofs.Common.{true, List, length, sym, refl, ap, ◌∙◌, arith}
use Rattle.picture.specs.declared.Kind.TheVariants.{Constant}
use Rattle.picture.specs.Draw.{steady_of}
use Rattle.picture.specs.Place.{rows_of}
use Rattle.picture.specs.Offer.{Offer}
use Rattle.picture.specs.Picture.{picture, drawn}
use Rattle.picture.proofs.Eights.{steady_at}
use Rattle.picture.proofs.Rows.{plain_span}
use Rattle.triangle.specs.Offers.{pixel_at}
use Rattle.triangle.proofs.Rows.{row_span, row_empty}
use Rattle.triangle.proofs.draw.flat_row.Goals as goal

pub returns-in-Some : goal.returns-in-Some
unfolding pixel_at
returns-in-Some c =
    let a = c.args in
    let rows = rows_of a.pen.frame (length a.m.now.i.now) (length a.m.now.z.now) in
    let p = picture a.m.now.i.now a.m.now.z.now 0 in
    let s = c.in-Some.span in
    let i = steady_of a.corners.last.i in
    let z = steady_of a.corners.last.z in (
      c.span_steady.ensures.0,
      rw c.requires.0.rows at c.span_steady.ensures.1
          ∙ sym (plain_span a.pen Constant c.requires.0.plain rows s.lo s.hi a.y i z p)
          ∙ ap (λ (os : List Offer). drawn a.pen os p)
          (row_span a.pen rows true a.corners a.y s.lo s.hi c.in-Some.ensures c.requires.3 s.some i z
          (λ j l. (steady_at a.corners.last.i j (omega arith), steady_at a.corners.last.z j (omega arith)))),
    )

pub returns-in-None : goal.returns-in-None
returns-in-None c =
    let a = c.args in (
      (refl, refl),
      row_empty a.pen (rows_of a.pen.frame (length a.m.now.i.now) (length a.m.now.z.now)) true a.corners a.y 0 0
          c.in-None.ensures (omega arith) (picture a.m.now.i.now a.m.now.z.now 0),
    )
