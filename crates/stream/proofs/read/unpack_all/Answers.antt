-- `read::unpack_all` meets its contract. Assumes nothing.
use mathlib.Core.Path.{◌≡◌, ap, ◌∙◌}
use Prim.Native.Nat.{ℕ, ◌*◌, ◌/◌}
use native.Mathlib.Omega.{arith}
use lib.ListN.{length}
use Rattle.stream.specs.Format.{unpack_of}
use Rattle.stream.proofs.Stream.{length_unpack}
use Rattle.stream.proofs.Filling.{front, front_all, unpack_turn, unpack_last}
use Rattle.stream.proofs.read.unpack_all.Goals as goal

pub loop-j-preserved : goal.loop-j-preserved
loop-j-preserved c =
    let a = c.args in
    c.put_pair.ensures ∙ unpack_turn a.bytes.now a.out.now c.loop-j.out (omega arith) c.loop-j.j (omega arith) c.loop-j.invariant

pub returns-then-bytes-ge3 : goal.returns-then-bytes-ge3
returns-then-bytes-ge3 c =
    let a = c.args in
    let j = length a.bytes.now / 5 in
    let all : c.loop-j.j ≡ j = omega arith in
    c.put_last.ensures
    ∙ unpack_last a.bytes.now a.out.now c.loop-j.out (omega arith) j (omega arith) (omega arith)
    (c.loop-j.invariant ∙ ap (λ (i : ℕ). front (2 * i) (unpack_of a.bytes.now) a.out.now) all)

pub returns-else-bytes-ge3 : goal.returns-else-bytes-ge3
returns-else-bytes-ge3 c =
    let a = c.args in
    c.loop-j.invariant ∙ front_all (2 * c.loop-j.j) (unpack_of a.bytes.now) a.out.now (omega (arith, length_unpack a.bytes.now))
