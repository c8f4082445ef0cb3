-- `write::pack_all` meets its contract: the bytes of the pairs are all, or all but those of the last word. Assumes nothing.
use mathlib.Core.Path.{sym, ◌∙◌}
use Prim.Native.Nat.{◌*◌, ◌/◌}
use native.Mathlib.Omega.{arith}
use lib.ListN.{length}
use Rattle.stream.specs.Format.{pack_of}
use Rattle.stream.proofs.Stream.{length_pack}
use Rattle.stream.proofs.Filling.{front_part, front_all, pack_last}
use Rattle.stream.proofs.write.pack_all.Goals as goal

pub returns-then-words-eq1 : goal.returns-then-words-eq1
returns-then-words-eq1 c =
    let a = c.args in
    let ws = a.words.now in
    let old = a.out.now in
    let j = length ws / 2 in
    let stands = c.pack_pairs.ensures ∙ sym (front_part (5 * j) (pack_of ws) old (omega (arith, length_pack ws))) in
    c.put_last.ensures ∙ pack_last ws old _ (omega arith) j (omega arith) stands

pub returns-else-words-eq1 : goal.returns-else-words-eq1
returns-else-words-eq1 c =
    let a = c.args in
    let ws = a.words.now in
    let n = 5 * (length ws / 2) in
    c.pack_pairs.ensures
    ∙ sym (front_part n (pack_of ws) a.out.now (omega (arith, length_pack ws)))
    ∙ front_all n (pack_of ws) a.out.now (omega (arith, length_pack ws))
