-- `Rising::raised` meets its contract. Assumes nothing.
use Rattle.std.proofs.Common.{refl}
use Rattle.triangle.proofs.Sums.{sum_next}
use Rattle.triangle.proofs.Rising.raised.Goals as goal

pub returns : goal.returns
returns c =
    let a = c.args in
    record {
      flanks = c.raised.ensures;
      i = rw c.raised-2.ensures (sum_next a.corners _ _ _ a.y a.self.i c.requires.i _ refl);
      z = rw c.raised-3.ensures (sum_next a.corners _ _ _ a.y a.self.z c.requires.z _ refl);
    }
