-- `steady::write_eight` meets its contract. The invariant of its loop: the numbers before number k are stored. Assumes nothing.
use Rattle.std.proofs.Common.{◌≡◌, arith}
use Rattle.picture.specs.Loops.{eight_set}
use Rattle.picture.proofs.steady.write_eight.Goals as goal

pub returns : goal.returns
unfolding eight_set
returns c =
    let k = c.loop-k in
    let e : k.k ≡ 8 = omega arith in
    rw e at k.invariant
