-- `draw::flat_run` meets its contract. Assumes nothing.
use Rattle.std.proofs.Common.{refl, arith}
use Rattle.picture.proofs.Eights.{steady_at}
use Rattle.triangle.specs.Offers.{pixel_at}
use Rattle.triangle.proofs.draw.flat_run.Goals as goal

pub returns : goal.returns
unfolding pixel_at
returns c =
    let last = c.args.corners.last in
    record {
      row = refl;
      some = c.args.span.some;
      spanned = c.requires;
      so = λ j l. (rw c.steady.ensures (steady_at last.i j (omega arith)), rw c.steady-2.ensures (steady_at last.z j (omega arith)));
    }
