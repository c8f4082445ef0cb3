-- `write::pack_pairs` meets its contract: the groups of four are an even number of pairs, and all but one where the pairs are odd. Assumes nothing.
use mathlib.Core.Path.{◌≡◌, sym, ap, ◌∙◌}
use Prim.Native.Nat.{ℕ, ◌+◌, ◌-◌, ◌*◌, ◌/◌}
use native.Mathlib.Nat.{div-div-eq-div-mul}
use native.Mathlib.Omega.{arith}
use lib.ListN.{length}
use Rattle.stream.specs.Format.{pack_of}
use Rattle.stream.proofs.Stream.{length_pack}
use Rattle.stream.proofs.Filling.{front, front_part, pack_turn}
use Rattle.stream.proofs.write.pack_pairs.Goals as goal

pub returns-then-pairs-eq1 : goal.returns-then-pairs-eq1
returns-then-pairs-eq1 c =
    let a = c.args in
    let ws = a.words.now in
    let old = a.out.now in
    let j = length ws / 2 - 1 in
    let groups : 10 * (length ws / 4) ≡ 5 * j = omega (arith, div-div-eq-div-mul (length ws) 2 2) in
    let pairs : 5 * (j + 1) ≡ 5 * (length ws / 2) = omega arith in
    let stands = c.pack_groups.ensures ∙ sym (front_part (10 * (length ws / 4)) (pack_of ws) old (omega (arith, length_pack ws))) ∙ ap (λ (n : ℕ). front n (pack_of ws) old) groups in
    c.put_pair.ensures
    ∙ pack_turn ws old _ (omega arith) j (omega arith) stands
    ∙ ap (λ (n : ℕ). front n (pack_of ws) old) pairs
    ∙ front_part (5 * (length ws / 2)) (pack_of ws) old (omega (arith, length_pack ws))
