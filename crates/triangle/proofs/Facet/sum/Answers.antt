-- `Facet::sum` meets its contract: from corner a a row and a column lead to column 0 of row y. Assumes nothing.
use Rattle.std.proofs.Common.{refl}
use Rattle.triangle.proofs.Sums.{sum_first}
use Rattle.triangle.proofs.Facet.sum.Goals as goal

pub returns : goal.returns
returns c =
    let n = c.args.numbers in
    let right = rw c.levels.ensures at c.slant-right.ensures in
    let lean = rw c.columns.ensures at c.slant.ensures in
    sum_first c.args.self.corners c.args.self.area n.a n.b n.c c.args.y c.slant-right.result c.slant.result c.wrapping_neg-up.result c.args.self.sized
    right lean c.wrapping_neg-up.ensures _ _ _ _ c.over.result refl refl refl refl c.over.ensures
