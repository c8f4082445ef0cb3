-- Copying listed squares: a place whose pixel lies in one of them takes the new number, every other place keeps its own. Where two pictures differ
-- only inside listed squares, the old one becomes the new one. Assumes nothing.
use mathlib.Core.Path.{◌≡◌, refl, sym, ◌∙◌}
use mathlib.Core.Bool.{Bool, true, false, cond}
use mathlib.Core.List.{List, [], ◌∷◌}
use Prim.Native.Nat.{ℕ, ◌+◌, ◌/◌, ◌%◌, ◌<◌}
use native.Mathlib.Omega.{arith}
use lib.ListN.{length, get_or}
use lib.Seq.{ext_get_or}
use lib.Dec.{eqb}
use borrow.Author.Tests.{eqb-true, eqb-false}
use Rattle.squares.specs.declared.size.Corner.{Corner}
use Rattle.squares.specs.Copy.{holds, holders, copy_square, copy_squares}
use Rattle.squares.proofs.Overlay.{same, length_overlay, overlay_at}

-- ---- one square

module _ (width : ℕ) (new : List ℕ) where
  length_copy : (old : List ℕ) (c : Corner) → length (copy_square width new old c) ≡ length old
  unfolding copy_square
  length_copy old c = length_overlay _ new 0 old

  copy_at : (old : List ℕ) (c : Corner) (i : ℕ) → length new ≡ length old
      → get_or (copy_square width new old c) i 0 ≡ cond (holds (i % width) (i / width) c) (get_or new i 0) (get_or old i 0)
  unfolding copy_square
  copy_at old c i e = overlay_at new old e (λ p. holds (p % width) (p / width) c) i

  -- ---- listed squares

  length_copied : (old : List ℕ) (cs : List Corner) → length (copy_squares width new old cs) ≡ length old
  length_copied old [] = refl
  length_copied old (c ∷ cs) = length_copied (copy_square width new old c) cs ∙ length_copy old c

  module _ (i : ℕ) where
    -- a place outside them keeps its number, whatever it is
    pub untouched : (old : List ℕ) (cs : List Corner) → length new ≡ length old → holders (i % width) (i / width) cs ≡ 0
        → get_or (copy_squares width new old cs) i 0 ≡ get_or old i 0
    unfolding holders
    untouched old [] e h = refl
    untouched old (c ∷ cs) e h = go (untouched (copy_square width new old c) cs (e ∙ sym (length_copy old c))) (holds (i % width) (i / width) c) refl h
      where
        go : (holders (i % width) (i / width) cs ≡ 0 → get_or (copy_squares width new old (c ∷ cs)) i 0 ≡ get_or (copy_square width new old c) i 0)
            → (b : Bool) → holds (i % width) (i / width) c ≡ b → cond b 1 0 + holders (i % width) (i / width) cs ≡ 0
            → get_or (copy_squares width new old (c ∷ cs)) i 0 ≡ get_or old i 0
        go rest true t h = absurd (omega arith)
        go rest false t h = rest (omega arith) ∙ copy_at old c i e ∙ rw t

    -- a place that has the new number keeps it
    stays : (old : List ℕ) (cs : List Corner) → length new ≡ length old → get_or old i 0 ≡ get_or new i 0 → get_or (copy_squares width new old cs) i 0 ≡ get_or new i 0
    stays old [] e h = h
    stays old (c ∷ cs) e h =
        stays (copy_square width new old c) cs (e ∙ sym (length_copy old c)) (copy_at old c i e ∙ rw h (same (holds (i % width) (i / width) c) (get_or new i 0)))

    -- a place inside them takes the new number
    pub touched : (old : List ℕ) (cs : List Corner) → length new ≡ length old → 0 < holders (i % width) (i / width) cs
        → get_or (copy_squares width new old cs) i 0 ≡ get_or new i 0
    unfolding holders
    touched old [] e h = absurd (omega arith)
    touched old (c ∷ cs) e h =
        go (touched (copy_square width new old c) cs (e ∙ sym (length_copy old c))) (holds (i % width) (i / width) c) refl h
      where
        go : (0 < holders (i % width) (i / width) cs → get_or (copy_squares width new old (c ∷ cs)) i 0 ≡ get_or new i 0)
            → (b : Bool) → holds (i % width) (i / width) c ≡ b → 0 < cond b 1 0 + holders (i % width) (i / width) cs
            → get_or (copy_squares width new old (c ∷ cs)) i 0 ≡ get_or new i 0
        go rest true t h = stays (copy_square width new old c) cs (e ∙ sym (length_copy old c)) (copy_at old c i e ∙ rw t)
        go rest false t h = rest (omega arith)

  -- the old picture becomes the new one where each place that differs lies in a listed square
  pub becomes : (old : List ℕ) (cs : List Corner) → length new ≡ length old
      → ((i : ℕ) → i < length old → (get_or old i 0 ≡ get_or new i 0 → ⊥) → 0 < holders (i % width) (i / width) cs)
      → copy_squares width new old cs ≡ new
  becomes old cs e h =
      ext_get_or 0 (copy_squares width new old cs) new (length_copied old cs ∙ sym e)
      (λ i l. go i (rw (length_copied old cs) at l) (eqb (get_or old i 0) (get_or new i 0)) refl)
    where
      go : (i : ℕ) → i < length old → (b : Bool) → eqb (get_or old i 0) (get_or new i 0) ≡ b → get_or (copy_squares width new old cs) i 0 ≡ get_or new i 0
      go i l true t = stays i old cs e (eqb-true _ _ t)
      go i l false t = touched i old cs e (h i l (eqb-false _ _ t))
