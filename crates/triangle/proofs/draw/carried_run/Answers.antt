-- `draw::carried_run` meets its contract: the carried sums tell the row's numbers. Assumes nothing.
use Rattle.triangle.specs.Edge.{covers}
use Rattle.std.proofs.Common.{◌≡◌, ℕ, ◌+◌, ◌<◌, true, refl, arith}
use Rattle.triangle.specs.Offers.{pixel_at}
use Rattle.triangle.proofs.Carry.{runs_of, column_told, column_begins}
use Rattle.triangle.proofs.Rows.{carried_told}
use Rattle.triangle.proofs.draw.carried_run.Goals as goal

pub begin-requires : goal.begin-requires
begin-requires c =
    let a = c.args in
    let t = a.facet.corners in
    let k = c.requires in
    column_begins t a.facet.area a.facet.sized a.slopes k.0 c.at_column.result
    (column_told t a.facet.sized.turned k.0.fits t.a.i t.b.i t.c.i (omega arith) (omega arith) (omega arith) a.y a.rising.i k.1.i a.span.lo
    (k.2.columns a.span.lo (omega arith) a.span.some).2 c.at_column.result c.at_column.ensures).1

pub begin-requires-2 : goal.begin-requires-2
begin-requires-2 c =
    let a = c.args in
    let t = a.facet.corners in
    let k = c.requires in
    column_begins t a.facet.area a.facet.sized a.slopes k.0 c.at_column-2.result
    (column_told t a.facet.sized.turned k.0.fits t.a.z t.b.z t.c.z (omega arith) (omega arith) (omega arith) a.y a.rising.z k.1.z a.span.lo
    (k.2.columns a.span.lo (omega arith) a.span.some).2 c.at_column-2.result c.at_column-2.ensures).1

pub returns : goal.returns
unfolding pixel_at
returns c =
    let a = c.args in
    let t = a.facet.corners in
    let turned = a.facet.sized.turned in
    let g = c.requires.0 in
    let w = c.requires.1 in
    let k = c.requires.2 in
    let cov : (j : ℕ) → a.span.lo + j < a.span.hi → covers t (a.span.lo + j) a.y ≡ true = λ j l. (k.columns (a.span.lo + j) (omega arith) l).2 in
    let here : covers t a.span.lo a.y ≡ true = (k.columns a.span.lo (omega arith) a.span.some).2 in
    record {
      row = refl;
      some = a.span.some;
      spanned = k;
      so =
          λ j l. (
            carried_told t t.a.i t.b.i t.c.i a.span.lo a.span.hi a.y _ a.slopes.i j
                (runs_of t turned g.fits t.a.i t.b.i t.c.i (omega arith) (omega arith) (omega arith) a.slopes a.slopes.i a.span.lo a.span.hi a.y _ a.facet.area _
                (λ f h. let m = g.short f h in (m.few, m.least, m.most, m.of_i)) (λ h. (g.long h).0) cov (omega (arith, k.wide)) c.begin.type_inv a.facet.sized.area
                (column_told t turned g.fits t.a.i t.b.i t.c.i (omega arith) (omega arith) (omega arith) a.y a.rising.i w.i a.span.lo here
                c.at_column.result c.at_column.ensures).0
                c.begin.ensures) l,
            carried_told t t.a.z t.b.z t.c.z a.span.lo a.span.hi a.y _ a.slopes.z j
                (runs_of t turned g.fits t.a.z t.b.z t.c.z (omega arith) (omega arith) (omega arith) a.slopes a.slopes.z a.span.lo a.span.hi a.y _ a.facet.area _
                (λ f h. let m = g.short f h in (m.few, m.least, m.most, m.of_z)) (λ h. (g.long h).1) cov (omega (arith, k.wide)) c.begin-2.type_inv a.facet.sized.area
                (column_told t turned g.fits t.a.z t.b.z t.c.z (omega arith) (omega arith) (omega arith) a.y a.rising.z w.z a.span.lo here
                c.at_column-2.result c.at_column-2.ensures).0
                c.begin-2.ensures) l,
          );
    }
