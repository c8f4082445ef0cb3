-- `draw::draw_row` meets its contract: either way of drawing draws the row, and a row with no covered pixel has no offers. Assumes nothing.
use Rattle.std.proofs.Common.{length, refl, arith}
use Rattle.picture.specs.Place.{rows_of}
use Rattle.picture.specs.Picture.{picture}
use Rattle.triangle.proofs.Rows.{row_empty}
use Rattle.triangle.proofs.draw.draw_row.Goals as goal

pub returns-in-None : goal.returns-in-None
returns-in-None c =
    let a = c.args in (
      (refl, refl),
      row_empty a.brush.pen (rows_of a.brush.pen.frame (length a.m.now.i.now) (length a.m.now.z.now)) a.brush.constant a.facet.corners a.y 0 0
          c.in-None.ensures (omega arith) (picture a.m.now.i.now a.m.now.z.now 0),
    )
