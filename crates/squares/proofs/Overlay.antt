-- Numbers of a new picture laid over an old one, where a test of the place holds. Assumes nothing.
use mathlib.Core.Path.{◌≡◌, refl, sym, ap, ◌∙◌}
use mathlib.Core.Bool.{Bool, true, false, cond, ◌||◌}
use mathlib.Core.List.{List, [], ◌∷◌}
use Prim.Native.Nat.{ℕ, zero, suc, ◌+◌, ◌<◌}
use native.Mathlib.Nat.{add-zero, zero-add, add-suc, suc-add}
use native.Mathlib.Omega.{arith}
use borrow.Author.Tests.{ltb-true, ltb-false, eqb-true, eqb-false}
use lib.Arith.{lt_of_le-ne}
use lib.Dec.{ltb, eqb}
use lib.ListN.{length, get_or, set, length-set}
use lib.Seq.{ext_get_or, get_or-set_same, get_or-set_other}
use Rattle.squares.specs.Copy.{is_among, overlay}
use Rattle.squares.proofs.Among.{among_in, among_low, among_high}

-- numbers laid over a picture leave its length as it was
pub length_overlay : (test : ℕ → Bool) (new : List ℕ) (at : ℕ) (old : List ℕ) → length (overlay test new at old) ≡ length old
unfolding overlay
length_overlay test new at [] = refl
length_overlay test [] at (a ∷ old) = refl
length_overlay test (b ∷ new) at (a ∷ old) = ap suc (length_overlay test new (suc at) old)

-- a choice between a number and itself is that number
pub same : (b : Bool) (v : ℕ) → cond b v v ≡ v
same true v = refl
same false v = refl

overlay_from : (test : ℕ → Bool) (new : List ℕ) (at : ℕ) (old : List ℕ) (i : ℕ) → length new ≡ length old
    → get_or (overlay test new at old) i 0 ≡ cond (test (at + i)) (get_or new i 0) (get_or old i 0)
unfolding overlay
overlay_from test [] at [] i e = sym (same (test (at + i)) 0)
overlay_from test (b ∷ new) at [] i e = absurd (omega arith)
overlay_from test [] at (a ∷ old) i e = absurd (omega arith)
overlay_from test (b ∷ new) at (a ∷ old) zero e = rw (add-zero at)
overlay_from test (b ∷ new) at (a ∷ old) (suc i) e = rw (add-suc at i, ← suc-add at i) (overlay_from test new (suc at) old i (omega arith))

module _ (new old : List ℕ) (e : length new ≡ length old) where
  -- the number at a place
  pub overlay_at : (test : ℕ → Bool) (i : ℕ) → get_or (overlay test new 0 old) i 0 ≡ cond (test i) (get_or new i 0) (get_or old i 0)
  overlay_at test i = overlay_from test new 0 old i e ∙ rw (zero-add i)

  -- which tells all
  overlay_is : (test : ℕ → Bool) (view : List ℕ) → length view ≡ length old
      → ((i : ℕ) → i < length old → get_or view i 0 ≡ cond (test i) (get_or new i 0) (get_or old i 0)) → view ≡ overlay test new 0 old
  overlay_is test view l h =
      ext_get_or 0 view (overlay test new 0 old) (l ∙ sym (length_overlay test new 0 old)) (λ i k. h i (rw l at k) ∙ sym (overlay_at test i))

  -- nothing is laid over
  pub overlay_none : (test : ℕ → Bool) → ((i : ℕ) → i < length old → test i ≡ false) → old ≡ overlay test new 0 old
  overlay_none test h = overlay_is test old refl (λ i k. rw (h i k))

  -- two tests that agree at each place
  pub overlay_same : (first second : ℕ → Bool) → ((i : ℕ) → i < length old → first i ≡ second i) → overlay first new 0 old ≡ overlay second new 0 old
  overlay_same first second h =
      overlay_is second (overlay first new 0 old) (length_overlay first new 0 old) (λ i k. overlay_at first i ∙ rw (h i k))

  -- one number
  pub overlay_set : (at : ℕ) → at < length old → set old at (get_or new at 0) ≡ overlay (is_among 1 at) new 0 old
  overlay_set at fits =
      overlay_is (is_among 1 at) (set old at (get_or new at 0)) (length-set old at (get_or new at 0))
      (λ i k. go i (eqb i at) (ltb i at) refl refl)
    where
      go : (i : ℕ) (b c : Bool) → eqb i at ≡ b → ltb i at ≡ c
          → get_or (set old at (get_or new at 0)) i 0 ≡ cond (is_among 1 at i) (get_or new i 0) (get_or old i 0)
      go i true c p q =
          let here : i ≡ at = eqb-true i at p in
          rw here (rw (among_in 1 at at (omega arith) (omega arith)) (get_or-set_same old at (get_or new at 0) 0 fits))
      go i false true p q =
          rw (among_low 1 at i (ltb-true i at q)) (get_or-set_other old at i (get_or new at 0) 0 (eqb-false i at p))
      go i false false p q =
          let far : at < i = lt_of_le-ne (ltb-false i at q) (λ e. eqb-false i at p (sym e)) in
          rw (among_high 1 at i (omega arith)) (get_or-set_other old at i (get_or new at 0) 0 (eqb-false i at p))

-- one test after another
either_of : (b c : Bool) (v w : ℕ) → cond c v (cond b v w) ≡ cond (b || c) v w
either_of true c v w = same c v
either_of false c v w = refl

-- to lay over where one test holds, and then where another does, is to lay over where either holds
pub overlay_more : (new old : List ℕ) → length new ≡ length old → (first second whole : ℕ → Bool)
    → ((i : ℕ) → i < length old → whole i ≡ first i || second i)
    → overlay second new 0 (overlay first new 0 old) ≡ overlay whole new 0 old
overlay_more new old e first second whole h =
    let l = length_overlay first new 0 old in
    overlay_is new old e whole (overlay second new 0 (overlay first new 0 old)) (length_overlay second new 0 (overlay first new 0 old) ∙ l)
    (λ i k.
    overlay_at new (overlay first new 0 old) (e ∙ sym l) second i
    ∙ rw (overlay_at new old e first i, h i k) (either_of (first i) (second i) (get_or new i 0) (get_or old i 0)))
