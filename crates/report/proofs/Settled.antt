-- What the promise of a call settles: one outcome. Assumes nothing.
use mathlib.Core.Path.{◌≡◌, refl, sym, ap, ◌∙◌}
use mathlib.Core.Bool.{cond}
use mathlib.Core.List.{List}
use Prim.Native.Nat.{ℕ}
use lib.Dec.{eqb}
use Rattle.stream.specs.Calls.{Outcome}
use Rattle.report.specs.Calls.{written_number, written_size, wrote}
use Rattle.report.specs.declared.NoRoom.{NoRoom}
use Rattle.std.specs.Prelude.{Result, Ok, Err}

-- an answer is known by its number and its length
written_of : ℕ → ℕ → Result ℕ NoRoom
written_of number size = cond (eqb number 0) (Ok size) (Err (record {}))

written_back : (r : Result ℕ NoRoom) → written_of (written_number r) (written_size r) ≡ r
unfolding written_of
written_back (Ok n) = refl
written_back (Err e) = refl

-- of `write`, `image_heading` and `image_rows`: any two outcomes that its promise allows have the same answer and the same output
pub settled : {o : Outcome} {r r' : Result ℕ NoRoom} {left left' : List ℕ} → wrote r left ≡ o → wrote r' left' ≡ o → (r ≡ r') × (left ≡ left')
settled {r = r} {r' = r'} p q =
    let same = p ∙ sym q in
    (sym (written_back r) ∙ ap (λ (t : Outcome). written_of t.refusal t.size) same ∙ written_back r', ap (λ (t : Outcome). t.left) same)
