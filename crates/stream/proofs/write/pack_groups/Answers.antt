-- `write::pack_groups` meets its contract. Assumes nothing.
use mathlib.Core.Path.{◌≡◌, ap, ◌∙◌}
use Prim.Native.Nat.{ℕ, ◌*◌, ◌/◌}
use native.Mathlib.Omega.{arith}
use lib.ListN.{length}
use Rattle.stream.specs.Format.{pack_of}
use Rattle.stream.proofs.Stream.{length_pack}
use Rattle.stream.proofs.Filling.{front, front_part, group_turn}
use Rattle.stream.proofs.write.pack_groups.Goals as goal

pub loop-j-preserved : goal.loop-j-preserved
loop-j-preserved c =
    let a = c.args in
    c.put_group.ensures ∙ group_turn a.words.now a.out.now c.loop-j.out (omega arith) c.loop-j.j (omega arith) c.loop-j.invariant

pub returns : goal.returns
returns c =
    let a = c.args in
    let ws = a.words.now in
    let n = 10 * (length ws / 4) in
    let all : 10 * c.loop-j.j ≡ n = omega arith in
    c.loop-j.invariant ∙ ap (λ (i : ℕ). front i (pack_of ws) a.out.now) all ∙ front_part n (pack_of ws) a.out.now (omega (arith, length_pack ws))
