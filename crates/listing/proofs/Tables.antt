-- Texts of one length in a table, and the same texts one behind the other. Assumes nothing.
use Rattle.std.proofs.Common.{◌≡◌, ℕ, zero, suc, ◌+◌, ◌*◌, ◌<◌, Bool, true, ◌&&◌, eqb, List, [], ◌∷◌, ◌++◌, length, take, drop, slice_index_or, sym, ◌∙◌, ap, arith, eqb-true}
use native.Mathlib.Nat.{mul-zero, mul-suc, add_comm}
use lib.Seq.{drop-drop, take_at, drop_at}
use Rattle.ground.proofs.Truth.{both}

-- whether each text of a table has w bytes
abbrev pub wide : ℕ → List (List ℕ) → Bool
wide w [] = true
wide w (text ∷ table) = eqb (length text) w && wide w table

-- its texts, one behind the other
abbrev pub joined : List (List ℕ) → List ℕ
joined [] = []
joined (text ∷ table) = text ++ joined table

-- the text with a number stands in its columns
text_found : (w : ℕ) (table : List (List ℕ)) → wide w table ≡ true → (k : ℕ) → k < length table → slice_index_or table k [] ≡ take w (drop (w * k) (joined table))
text_found w [] t k h = absurd (omega arith)
text_found w (text ∷ table) t zero h =
    let all = both (eqb (length text) w) (wide w table) t in
    rw (mul-zero w) (sym (take_at text (joined table) w (eqb-true (length text) w all.0)))
text_found w (text ∷ table) t (suc k) h =
    let all = both (eqb (length text) w) (wide w table) t in
    let rest = drop_at text (joined table) w (eqb-true (length text) w all.0) in
    let all_but : w * suc k ≡ w + w * k = mul-suc w k ∙ add_comm (w * k) w in
    rw all_but (text_found w table all.1 k (omega arith) ∙ ap (λ (l : List ℕ). take w (drop (w * k) l)) (sym rest) ∙ ap (take w) (drop-drop (w * k) w (text ++ joined table)))

-- so it does in a table of n
pub listed : (w n : ℕ) (table : List (List ℕ)) → wide w table ≡ true → length table ≡ n → (k : ℕ) → k < n → slice_index_or table k [] ≡ take w (drop (w * k) (joined table))
listed w n table t e k h = text_found w table t k (omega (arith, e))
