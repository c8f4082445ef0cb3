-- `draw::draw_turned` meets its contract: the corners from the lowest on are the same triangle. Assumes nothing.
use Rattle.std.proofs.Common.{length, sym, ◌∙◌}
use Rattle.picture.specs.Place.{rows_of}
use Rattle.triangle.proofs.Turning.{lowest_lowest, lowest_turned, lowest_area, lowest_offers}
use Rattle.triangle.proofs.draw.draw_turned.Goals as goal

pub invariant_of-lowest : goal.invariant_of-lowest
invariant_of-lowest c =
    let t = c.args.facet.corners in
    let k = c.args.facet.sized in
    rw c.lowest_first.ensures (record { sized = record { turned = lowest_turned t k.turned; area = k.area ∙ lowest_area t; small = k.small } })

pub draw_lowest-requires : goal.draw_lowest-requires
draw_lowest-requires c = rw c.lowest_first.ensures (lowest_lowest c.args.facet.corners)

pub returns : goal.returns
returns c =
    let a = c.args in
    let rows = rows_of a.pen.frame (length a.m.now.i.now) (length a.m.now.z.now) in
    (c.draw_lowest.ensures.0, rw (sym (lowest_offers a.facet.corners a.pen rows a.constant)) (rw c.lowest_first.ensures at c.draw_lowest.ensures.1))
