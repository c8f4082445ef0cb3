-- `write::put_group` meets its contract. Assumes nothing.
use mathlib.Core.Path.{◌≡◌, sym, ap, ap₂, ◌∙◌}
use mathlib.Core.List.{List, [], ◌∷◌, ◌++◌}
use Prim.Native.Nat.{ℕ, ◌+◌}
use lib.ListN.{set}
use lib.Seq.{sets}
use Rattle.std.specs.Int.{w64, to_be_bytes}
use Rattle.stream.specs.Format.{pack_of}
use Rattle.stream.proofs.Stream.{pack_four}
use Rattle.stream.proofs.Filling.{stores_behind}
use Rattle.stream.proofs.Masks.{group_bytes}
use Rattle.stream.proofs.write.put_group.Goals as goal

pub returns : goal.returns
returns c =
    let a = c.args in
    let l = a.out.now in
    let k = a.k in
    let eight = to_be_bytes w64 c.group_front.result in
    let g = c.low_byte.result in
    let h = c.low_byte-2.result in
    let bytes : eight ++ (g ∷ h ∷ []) ≡ pack_of (a.a ∷ a.b ∷ a.c ∷ a.d ∷ []) =
    ap₂ (λ (front back : List ℕ). front ++ back)
    (group_bytes a.a a.b a.c a.d c.group_front.result c.group_front.ensures)
    (ap₂ (λ (m n : ℕ). m ∷ n ∷ []) c.low_byte.ensures c.low_byte-2.ensures)
    ∙ sym (pack_four a.a a.b a.c a.d) in
    ap (λ (m : List ℕ). set (set m (k + 8) g) (k + 9) h) c.put_eight.ensures
    ∙ stores_behind eight (g ∷ h ∷ []) l k
    ∙ ap (sets l k) bytes
