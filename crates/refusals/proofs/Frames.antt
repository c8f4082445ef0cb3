-- The line lengths of the table keep the bounds, in every layout that the bounds allow. Assumes nothing.
use mathlib.Core.Path.{◌≡◌, refl, subst}
use mathlib.Core.Bool.{Bool, true, false, ◌&&◌, ◌||◌}
use mathlib.Core.Logic.{◌⊎◌, inl, inr, ⊎_elim}
use Prim.Native.Nat.{ℕ, ◌%◌, ◌<◌}
use lib.Dec.{T, leb, eqb}
use lib.ListN.{get_or}
use borrow.Author.Tests.{eqb-true}
use Rattle.picture.specs.declared.Frame.{Frame}
use Rattle.picture.specs.Place.{frame_of, plain_frame}
use Rattle.registers.specs.Lines.{shortest_line, longest_line, line_unit, line_of}
use Rattle.refusals.specs.Bounds.{largest_layout, frame_fits}
use Rattle.ground.proofs.Truth.{both, and_both}
use Rattle.registers.proofs.Table.{at}
use Rattle.registers.proofs.Lengths.{lengths, line_at}

holds : (b : Bool) → T b → b ≡ true
holds true t = refl
holds false t = absurd t

or_cases : (a b : Bool) → a || b ≡ true → (a ≡ true) ⊎ (b ≡ true)
or_cases true b e = inl refl
or_cases false b e = inr e

-- an entry is 0, or a line length that the bounds allow
listed : ℕ → Bool
listed x = eqb x 0 || frame_fits (plain_frame x)

module _ (k : ℕ) (h : k < 64) where
  tested : listed (get_or lengths k 0) ≡ true
  unfolding lengths listed frame_fits
  tested = holds _ (at (λ i x. listed x) lengths tt k h)

  -- a line length that is listed keeps the bounds
  pub line_fits : (line_of k ≡ 0 → ⊥) → frame_fits (plain_frame (line_of k)) ≡ true
  unfolding listed
  line_fits ne =
      let e = subst (λ (x : ℕ). listed x ≡ true) (line_at k h) tested in
      ⊎_elim (λ z. absurd (ne (eqb-true _ _ z))) (λ f. f) (or_cases (eqb (line_of k) 0) _ e)

-- in every layout that the bounds allow
pub frame_laid : (line : ℕ) (f : Frame) → frame_fits (plain_frame line) ≡ true → frame_fits f ≡ true → frame_fits (frame_of line f.layout) ≡ true
unfolding frame_fits
frame_laid line f h k =
    let q = both (leb shortest_line line && leb line longest_line && eqb (line % line_unit) 0) true h in
    and_both q.0 (both (leb shortest_line f.line && leb f.line longest_line && eqb (f.line % line_unit) 0) (leb f.layout largest_layout) k).1
