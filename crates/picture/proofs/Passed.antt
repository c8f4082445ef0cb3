-- Where pixels pass, and what that leaves: the count rises by as many, every other place keeps its two numbers, and a memory that no
-- passed pixel may store into stays whole. Assumes nothing.
use Rattle.std.proofs.Common.{◌≡◌, ℕ, ◌+◌, ◌*◌, ◌<◌, ◌≤◌, Bool, true, false, cond, ◌&&◌, List, [], ◌∷◌, length, get_or, set, sym, refl, ap, ◌∙◌, subst, ⊎_elim, arith}
use mathlib.Core.List.{Memᴰ}
use Rattle.picture.specs.declared.Pen.{Pen}
use Rattle.picture.specs.Place.{layout_of, width_of, rows_of, in_memory}
use Rattle.picture.specs.Offer.{Offer}
use Rattle.picture.specs.Picture.{is_deep, passes, new_i, new_z, Picture, picture, step_at, draw_one, drawn}
use Rattle.picture.specs.Cell.{cell_at}
use Rattle.picture.specs.Passed.{spot, passed_at}
use Rattle.picture.proofs.Places.{place_low}
use Rattle.picture.proofs.Fold.{step_pass, step_fail}
use Rattle.picture.proofs.Cells.{step_away}
use Rattle.picture.proofs.Offers.{keep_i, keep_z}

-- ---- one offer and those after it

module _ (pen : Pen) (o : Offer) (os : List Offer) (p : Picture) where
  one_passes : passes pen o.kind o.z (get_or p.z (spot pen o) 0) ≡ true → passed_at pen (o ∷ os) p ≡ spot pen o ∷ passed_at pen os (draw_one pen p o)
  unfolding passed_at
  one_passes e = rw e

  one_fails : passes pen o.kind o.z (get_or p.z (spot pen o) 0) ≡ false → passed_at pen (o ∷ os) p ≡ passed_at pen os (draw_one pen p o)
  unfolding passed_at
  one_fails e = rw e

  one_counts : (b : Bool) → passes pen o.kind o.z (get_or p.z (spot pen o) 0) ≡ b
      → (draw_one pen p o).passed + length (passed_at pen os (draw_one pen p o)) ≡ p.passed + length (passed_at pen (o ∷ os) p)
  unfolding draw_one
  one_counts true e = rw (one_passes e, step_pass pen o.kind (spot pen o) o.i o.z p e) (omega arith)
  one_counts false e = rw (one_fails e, step_fail pen o.kind (spot pen o) o.i o.z p e)

  -- a place that is not among the passed is not among those of the rest, and the offer leaves it
  one_away : (at : ℕ) → (Memᴰ at (passed_at pen (o ∷ os) p) → ⊥)
      → (Memᴰ at (passed_at pen os (draw_one pen p o)) → ⊥) × (cell_at (draw_one pen p o) at ≡ cell_at p at)
  unfolding draw_one
  one_away at h = go (passes pen o.kind o.z (get_or p.z (spot pen o) 0)) refl
    where
      go : (b : Bool) → passes pen o.kind o.z (get_or p.z (spot pen o) 0) ≡ b
          → (Memᴰ at (passed_at pen os (draw_one pen p o)) → ⊥) × (cell_at (draw_one pen p o) at ≡ cell_at p at)
      go true e =
          let away : Memᴰ at (spot pen o ∷ passed_at pen os (draw_one pen p o)) → ⊥ = rw (one_passes e) at h in
          (λ m. away (mathlib.Core.List.Memᴰ.tail m), step_away pen p o at (λ q. away (mathlib.Core.List.Memᴰ.head q)))
      go false e = (rw (one_fails e) at h, rw (step_fail pen o.kind (spot pen o) o.i o.z p e))

  -- what holds of the offer's place and of each passed place of the rest holds of each passed place
  one_every : (P : ℕ → Type 0) → P (spot pen o) → ((at : ℕ) → Memᴰ at (passed_at pen os (draw_one pen p o)) → P at)
      → (at : ℕ) → Memᴰ at (passed_at pen (o ∷ os) p) → P at
  one_every P here rest at m = go (passes pen o.kind o.z (get_or p.z (spot pen o) 0)) refl
    where
      go : (b : Bool) → passes pen o.kind o.z (get_or p.z (spot pen o) 0) ≡ b → P at
      go true e = ⊎_elim (λ q. subst P (sym q) here) (rest at) (mathlib.Core.List.Memᴰ.cases_cons (rw (one_passes e) at m))
      go false e = rest at (rw (one_fails e) at m)

-- ---- all of them

-- the count rises by as many as pass
pub drawn_counts : (pen : Pen) (os : List Offer) (p : Picture) → (drawn pen os p).passed ≡ p.passed + length (passed_at pen os p)
unfolding drawn passed_at
drawn_counts pen [] p = omega arith
drawn_counts pen (o ∷ os) p = drawn_counts pen os (draw_one pen p o) ∙ one_counts pen o os p _ refl

-- a place that is not among the passed keeps both its numbers
pub drawn_away : (pen : Pen) (os : List Offer) (p : Picture) (at : ℕ) → (Memᴰ at (passed_at pen os p) → ⊥) → cell_at (drawn pen os p) at ≡ cell_at p at
unfolding drawn
drawn_away pen [] p at h = refl
drawn_away pen (o ∷ os) p at h = let k = one_away pen o os p at h in drawn_away pen os (draw_one pen p o) at k.0 ∙ k.1

-- what holds of the place of each offer holds of each passed place
pub passed_every : (pen : Pen) (P : ℕ → Type 0) (os : List Offer) (p : Picture) → ((o : Offer) → Memᴰ o os → P (spot pen o))
    → (at : ℕ) → Memᴰ at (passed_at pen os p) → P at
unfolding passed_at
passed_every pen P [] p h at m = absurd (mathlib.Core.List.Memᴰ.not-nil m)
passed_every pen P (o ∷ os) p h at m =
    one_every pen o os p P (h o (mathlib.Core.List.Memᴰ.head refl)) (passed_every pen P os (draw_one pen p o) (λ q u. h q (mathlib.Core.List.Memᴰ.tail u))) at m

-- where every offer lies inside memories of two lengths
module _ (pen : Pen) (ni nz : ℕ) (os : List Offer) (p : Picture)
    (inside : (o : Offer) → Memᴰ o os → in_memory pen.frame (rows_of pen.frame ni nz) o.x o.y ≡ true)
  where
    -- every passed place is one of the rows in use
    pub passed_low : (at : ℕ) → Memᴰ at (passed_at pen os p) → at < rows_of pen.frame ni nz * width_of (layout_of pen.frame) pen.frame.line
    passed_low =
        passed_every pen (λ at. at < rows_of pen.frame ni nz * width_of (layout_of pen.frame) pen.frame.line) os p (λ o m. place_low pen.frame ni nz o.x o.y (inside o m))

    -- and every place above them keeps both its numbers
    pub drawn_above : (at : ℕ) → rows_of pen.frame ni nz * width_of (layout_of pen.frame) pen.frame.line ≤ at → cell_at (drawn pen os p) at ≡ cell_at p at
    drawn_above at h = drawn_away pen os p at (λ m. omega (arith, passed_low at m))

-- ---- what no passed pixel may store into

-- what each offer leaves of a picture, all of them leave
pub drawn_leaves : {A : Type 0} (f : Picture → A) (pen : Pen) (os : List Offer) (p : Picture)
    → ((o : Offer) → Memᴰ o os → (q : Picture) → f (draw_one pen q o) ≡ f q) → f (drawn pen os p) ≡ f p
unfolding drawn
drawn_leaves f pen [] p h = refl
drawn_leaves f pen (o ∷ os) p h = drawn_leaves f pen os (draw_one pen p o) (λ q m. h q (mathlib.Core.List.Memᴰ.tail m)) ∙ h o (mathlib.Core.List.Memᴰ.head refl) p

-- with the I enable off an offer leaves the I memory
step_leaves_i : (pen : Pen) (p : Picture) (o : Offer) → pen.ienable ≡ false → (draw_one pen p o).i ≡ p.i
unfolding draw_one step_at
step_leaves_i pen p o h = go (passes pen o.kind o.z (get_or p.z (spot pen o) 0)) _
  where
    go : (b : Bool) (z : List ℕ) → (cond b (picture (set p.i (spot pen o) (new_i pen o.i (get_or p.i (spot pen o) 0))) z (p.passed + 1)) p).i ≡ p.i
    go true z = sym (keep_i pen p.i (spot pen o) o.i h)
    go false z = refl

-- with the Z enable off, or of a kind without depth, it leaves the Z memory
step_leaves_z : (pen : Pen) (p : Picture) (o : Offer) → pen.zenable && is_deep o.kind ≡ false → (draw_one pen p o).z ≡ p.z
unfolding draw_one step_at
step_leaves_z pen p o h = go (passes pen o.kind o.z (get_or p.z (spot pen o) 0)) _
  where
    go : (b : Bool) (i : List ℕ) → (cond b (picture i (set p.z (spot pen o) (new_z pen o.kind o.z (get_or p.z (spot pen o) 0))) (p.passed + 1)) p).z ≡ p.z
    go true i = sym (keep_z pen p.z (spot pen o) o.kind o.z h)
    go false i = refl

module _ (pen : Pen) (os : List Offer) (p : Picture) where
  -- with the I enable off the I memory stays whole
  pub drawn_leaves_i : pen.ienable ≡ false → (drawn pen os p).i ≡ p.i
  drawn_leaves_i h = drawn_leaves (λ (q : Picture). q.i) pen os p (λ o m q. step_leaves_i pen q o h)

  -- with the Z enable off the Z memory stays whole
  pub drawn_leaves_z : pen.zenable ≡ false → (drawn pen os p).z ≡ p.z
  drawn_leaves_z h = drawn_leaves (λ (q : Picture). q.z) pen os p (λ o m q. step_leaves_z pen q o (ap (λ (b : Bool). b && is_deep o.kind) h))

  -- offers of kinds without depth leave the Z memory whole
  pub drawn_shallow : ((o : Offer) → Memᴰ o os → is_deep o.kind ≡ false) → (drawn pen os p).z ≡ p.z
  drawn_shallow h = drawn_leaves (λ (q : Picture). q.z) pen os p (λ o m q. step_leaves_z pen q o (go pen.zenable (is_deep o.kind) (h o m)))
    where
      go : (a b : Bool) → b ≡ false → a && b ≡ false
      go true b e = e
      go false b e = refl
