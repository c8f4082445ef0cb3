-- `read::put_last` meets its contract. Assumes nothing.
use mathlib.Core.Path.{sym, ap, ◌∙◌}
use mathlib.Core.List.{[], ◌∷◌}
use native.Mathlib.Omega.{arith}
use lib.ListN.{drop, length-drop}
use lib.Seq.{sets}
use Prim.Native.Nat.{ℕ}
use Rattle.stream.proofs.Filling.{one_word}
use Rattle.stream.proofs.read.put_last.Goals as goal

pub returns : goal.returns
returns c =
    let a = c.args in
    ap (λ (x : ℕ). sets a.out.now a.k (x ∷ [])) c.high_at.ensures
    ∙ ap (sets a.out.now a.k) (sym (one_word (drop a.i a.bytes.now) (omega (arith, c.requires.i_in_bounds, length-drop a.i a.bytes.now))))
