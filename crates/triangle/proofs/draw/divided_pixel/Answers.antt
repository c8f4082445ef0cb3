-- `draw::divided_pixel` meets its contract. Assumes nothing.
use Rattle.triangle.proofs.Covers.{ready_of}
use Rattle.triangle.proofs.Rows.{number_told, pixel_drawn}
use Rattle.std.proofs.Common.{length}
use Rattle.picture.specs.Place.{rows_of}
use Rattle.picture.specs.Picture.{picture}
use Rattle.triangle.proofs.draw.divided_pixel.Goals as goal

pub number-requires : goal.number-requires
number-requires c =
    let a = c.args in
    let k = a.facet.sized in
    ready_of a.facet.corners a.x a.y a.facet.area _ k.turned k.area k.small c.requires.0 c.edges_at-edges.ensures

pub number-requires-2 : goal.number-requires-2
number-requires-2 c =
    let a = c.args in
    let k = a.facet.sized in
    ready_of a.facet.corners a.x a.y a.facet.area _ k.turned k.area k.small c.requires.0 c.edges_at-edges.ensures

pub returns : goal.returns
returns c =
    let a = c.args in
    let t = a.facet.corners in
    let e = c.edges_at-edges.ensures in (
      c.put.ensures.0,
      pixel_drawn a.pen (rows_of a.pen.frame (length a.m.now.i.now) (length a.m.now.z.now)) t a.x a.y _ _ (picture a.m.now.i.now a.m.now.z.now 0) _ c.requires.0
          (number_told t t.a.i t.b.i t.c.i a.x a.y a.facet.area _ _ a.facet.sized.area e (rw c.intensities.ensures at c.number.ensures))
          (number_told t t.a.z t.b.z t.c.z a.x a.y a.facet.area _ _ a.facet.sized.area e (rw c.depths.ensures at c.number-2.ensures))
          c.put.ensures.1,
    )
