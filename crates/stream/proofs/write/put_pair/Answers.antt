-- `write::put_pair` meets its contract. Assumes nothing.
use mathlib.Core.Path.{◌≡◌, sym, ap, ap₂, ◌∙◌}
use mathlib.Core.List.{List, [], ◌∷◌, ◌++◌}
use Prim.Native.Nat.{ℕ, ◌+◌}
use lib.ListN.{set}
use lib.Seq.{sets}
use Rattle.std.specs.Int.{w32, to_be_bytes}
use Rattle.stream.specs.Format.{pack_of}
use Rattle.stream.proofs.Stream.{pack_none, pack_two}
use Rattle.stream.proofs.Filling.{stores_behind}
use Rattle.stream.proofs.Masks.{pair_bytes}
use Rattle.stream.proofs.write.put_pair.Goals as goal

pub returns : goal.returns
returns c =
    let a = c.args in
    let four = to_be_bytes w32 c.pair_front.result in
    let last = c.low_byte.result in
    let bytes : four ++ (last ∷ []) ≡ pack_of (a.v ∷ a.w ∷ []) =
    ap₂ (λ (l : List ℕ) (n : ℕ). l ++ (n ∷ [])) (pair_bytes a.v a.w c.pair_front.result c.pair_front.ensures) c.low_byte.ensures
    ∙ sym (pack_two a.v a.w [] ∙ rw pack_none) in
    ap (λ (m : List ℕ). set m (a.k + 4) last) c.put_four.ensures
    ∙ stores_behind four (last ∷ []) a.out.now a.k
    ∙ ap (sets a.out.now a.k) bytes
