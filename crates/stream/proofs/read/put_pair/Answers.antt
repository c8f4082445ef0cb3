-- `read::put_pair` meets its contract. Assumes nothing.
use mathlib.Core.Path.{sym, ap, ap₂, ◌∙◌}
use mathlib.Core.List.{[], ◌∷◌}
use native.Mathlib.Omega.{arith}
use lib.ListN.{get_or, drop, length-drop}
use lib.Seq.{sets}
use Prim.Native.Nat.{ℕ, ◌+◌, ◌*◌, ◌%◌, ◌<◌}
use Rattle.stream.proofs.Filling.{stores, two_words}
use Rattle.stream.proofs.Stream.{word_high, word_low}
use Rattle.stream.proofs.Masks.{high_four, low_four}
use Rattle.stream.proofs.read.put_pair.Goals as goal

pub returns : goal.returns
returns c =
    let a = c.args in
    let l = a.bytes.now in
    let i = a.i in
    let x = c.from_be_bytes-x.result in
    let fits : (j : ℕ) → get_or l j 0 < 256 = (λ j. (c.type_inv.bytes j).fits) in
    stores a.out.now a.k _ (_ ∷ [])
    ∙ ap₂ (λ (first second : ℕ). sets a.out.now a.k (first ∷ second ∷ []))
    (high_four (get_or l i 0) (get_or l (i + 1) 0) (get_or l (i + 2) 0) (get_or l (i + 3) 0) x (fits i) (fits (i + 1)) (fits (i + 2)) (fits (i + 3)) c.from_be_bytes-x.ensures
    ∙ sym (word_high l i (omega (arith, c.requires.i_in_bounds))))
    (ap (λ (n : ℕ). x % 4096 * 256 + n) c.from.ensures
    ∙ low_four (get_or l i 0) (get_or l (i + 1) 0) (get_or l (i + 2) 0) (get_or l (i + 3) 0) (get_or l (i + 4) 0) x (fits (i + 3)) (fits (i + 4)) c.from_be_bytes-x.ensures
    ∙ sym (word_low l i c.requires.i_in_bounds))
    ∙ ap (sets a.out.now a.k) (sym (two_words (drop i l) (omega (arith, c.requires.i_in_bounds, length-drop i l))))
