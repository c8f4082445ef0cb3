-- The laws of stores: lengths and count kept, what a place sees of them, and memories that they leave whole. Assumes nothing.
use Rattle.std.proofs.Common.{◌≡◌, ℕ, ◌*◌, ◌<◌, Bool, true, false, cond, ◌&&◌, eqb, ◌≢◌, List, [], ◌∷◌, map, length, get_or, set, sym, refl, ap, ◌∙◌, subst, ⊎_elim, length-set, get_or-set_other, get_or-set_same, eqb-true}
use Rattle.picture.proofs.Places.{place_low}
use mathlib.Core.List.Memᴰ
use mathlib.Core.List.{foldl, Memᴰ}
use lib.Seq.{set-get_or}
use borrow.Author.Tests.{eqb-false}
use Rattle.picture.specs.declared.Pen.{Pen}
use Rattle.picture.specs.declared.Frame.{Frame}
use Rattle.picture.specs.Picture.{Picture, picture, new_i}
use Rattle.picture.specs.Cell.{Cell, cell_at}
use Rattle.picture.specs.Store.{Store, pixel_for, stored_i, stored_z, site, stored, filled, storable, read_of, after_store, stores_at}
use Rattle.picture.specs.Place.{layout_of, width_of, place_of, rows_of, in_memory}

-- storing no pixels leaves the picture as it was
pub filled_nil : (pen : Pen) (p : Picture) → filled pen [] p ≡ p
unfolding filled
filled_nil pen p = refl

-- storing pixels keeps the length of I
pub filled_i : (pen : Pen) (ss : List Store) (p : Picture) → length (filled pen ss p).i ≡ length p.i
unfolding filled stored
filled_i pen [] p = refl
filled_i pen (s ∷ ss) p = filled_i pen ss (stored pen p s) ∙ length-set p.i _ _

-- storing pixels keeps the length of Z
pub filled_z : (pen : Pen) (ss : List Store) (p : Picture) → length (filled pen ss p).z ≡ length p.z
unfolding filled stored
filled_z pen [] p = refl
filled_z pen (s ∷ ss) p = filled_z pen ss (stored pen p s) ∙ length-set p.z _ _

-- storing pixels counts none of them as passed
pub filled_passed : (pen : Pen) (ss : List Store) (p : Picture) → (filled pen ss p).passed ≡ p.passed
unfolding filled stored
filled_passed pen [] p = refl
filled_passed pen (s ∷ ss) p = filled_passed pen ss (stored pen p s)

store_away : (pen : Pen) (p : Picture) (s : Store) (at : ℕ) → at ≢ site pen s → cell_at (stored pen p s) at ≡ cell_at p at
unfolding stored
store_away pen p s at h = rw (get_or-set_other p.i, get_or-set_other p.z)

store_here : (pen : Pen) (p : Picture) (s : Store) (at : ℕ) → site pen s ≡ at → at < length p.i → at < length p.z
    → cell_at (stored pen p s) at ≡ after_store pen (cell_at p at) s
unfolding stored after_store
store_here pen p s at e hi hz = rw (e, get_or-set_same p.i, get_or-set_same p.z)

-- what stores leave at a place is what those made there leave of the two numbers that stood there
pub filled_cell : (pen : Pen) (ss : List Store) (p : Picture) (at : ℕ)
    → ((s : Store) → Memᴰ s ss → site pen s ≡ at → (at < length p.i) × (at < length p.z))
    → cell_at (filled pen ss p) at ≡ foldl (after_store pen) (cell_at p at) (stores_at pen at ss)
unfolding filled stores_at
filled_cell pen [] p at has = refl
filled_cell pen (s ∷ ss) p at has =
    filled_cell pen ss (stored pen p s) at
    (λ q m e. let k = has q (Memᴰ.tail m) e in (rw (filled_i pen (s ∷ []) p) k.0, rw (filled_z pen (s ∷ []) p) k.1))
    ∙ go (eqb (site pen s) at) refl
  where
    go : (b : Bool) → eqb (site pen s) at ≡ b
        → foldl (after_store pen) (cell_at (stored pen p s) at) (stores_at pen at ss) ≡ foldl (after_store pen) (cell_at p at) (cond b (s ∷ stores_at pen at ss) (stores_at pen at ss))
    go true e =
        let same = eqb-true _ _ e in
        let k = has s (Memᴰ.head refl) same in
        ap (λ (c : Cell). foldl (after_store pen) c (stores_at pen at ss)) (store_here pen p s at same k.0 k.1)
    go false e = ap (λ (c : Cell). foldl (after_store pen) c (stores_at pen at ss)) (store_away pen p s at (λ q. eqb-false _ _ e (sym q)))

-- a place of none of them keeps both its numbers
pub filled_away : (pen : Pen) (ss : List Store) (p : Picture) (at : ℕ) → (Memᴰ at (map (site pen) ss) → ⊥) → cell_at (filled pen ss p) at ≡ cell_at p at
unfolding filled
filled_away pen [] p at h = refl
filled_away pen (s ∷ ss) p at h = filled_away pen ss (stored pen p s) at (λ u. h (Memᴰ.tail u)) ∙ store_away pen p s at (λ e. h (Memᴰ.head e))

-- with the I enable off the I memory stays whole
pub filled_leaves_i : (pen : Pen) (ss : List Store) (p : Picture) → pen.ienable ≡ false → (filled pen ss p).i ≡ p.i
unfolding filled stored stored_i new_i
filled_leaves_i pen [] p h = refl
filled_leaves_i pen (s ∷ ss) p h = filled_leaves_i pen ss (stored pen p s) h ∙ ap (set p.i (site pen s)) (rw h (go s.deep)) ∙ set-get_or p.i (site pen s) 0
  where
    go : (b : Bool) → cond b (get_or p.i (site pen s) 0) (get_or p.i (site pen s) 0) ≡ get_or p.i (site pen s) 0
    go true = refl
    go false = refl

-- with the Z enable off, or where none is of a depth, the Z memory stays whole
pub filled_leaves_z : (pen : Pen) (ss : List Store) (p : Picture) → ((s : Store) → Memᴰ s ss → s.deep && pen.zenable ≡ false) → (filled pen ss p).z ≡ p.z
unfolding filled stored stored_z
filled_leaves_z pen [] p h = refl
filled_leaves_z pen (s ∷ ss) p h =
    filled_leaves_z pen ss (stored pen p s) (λ q u. h q (Memᴰ.tail u)) ∙ ap (set p.z (site pen s)) (rw (h s (Memᴰ.head refl))) ∙ set-get_or p.z (site pen s) 0

-- where every store lies inside memories of two lengths, their places are of the rows in use
pub sites_low : (pen : Pen) (ni nz : ℕ) (ss : List Store)
    → ((s : Store) → Memᴰ s ss → in_memory pen.frame (rows_of pen.frame ni nz) s.x s.y ≡ true)
    → (at : ℕ) → Memᴰ at (map (site pen) ss) → at < rows_of pen.frame ni nz * width_of (layout_of pen.frame) pen.frame.line
sites_low pen ni nz [] h at u = absurd (Memᴰ.not-nil u)
sites_low pen ni nz (s ∷ ss) h at u =
    ⊎_elim
    (λ e. subst (λ (n : ℕ). n < rows_of pen.frame ni nz * width_of (layout_of pen.frame) pen.frame.line) (sym e)
    (place_low pen.frame ni nz s.x s.y (h s (Memᴰ.head refl))))
    (λ v. sites_low pen ni nz ss (λ q w. h q (Memᴰ.tail w)) at v) (Memᴰ.cases_cons u)

-- ---- one pixel

module _ (pen : Pen) (i z : List ℕ) (x y v : ℕ) where
  abbrev rows : ℕ
  rows = rows_of pen.frame (length i) (length z)

  -- outside the memory nothing is stored
  pub store_outside : (deep : Bool) → in_memory pen.frame rows x y ≡ false → picture i z 0 ≡ filled pen (storable pen rows (pixel_for deep x y v)) (picture i z 0)
  unfolding storable filled
  store_outside deep h = rw h

  module _ {deep : Bool} {at : ℕ} (is : at ≡ place_of pen.frame x y) (h : in_memory pen.frame rows x y ≡ true) where
    -- inside, in I
    pub store_intensity : {i' : List ℕ} → deep ≡ false → i' ≡ set i at (new_i pen v (get_or i at 0))
        → picture i' z 0 ≡ filled pen (storable pen rows (pixel_for deep x y v)) (picture i z 0)
    unfolding storable filled stored stored_i stored_z
    store_intensity d e = rw (h, d, e, is, set-get_or z)

    -- inside, in Z
    pub store_deep : {z' : List ℕ} → deep ≡ true → z' ≡ set z at (cond pen.zenable v (get_or z at 0))
        → picture i z' 0 ≡ filled pen (storable pen rows (pixel_for deep x y v)) (picture i z 0)
    unfolding storable filled stored stored_i stored_z
    store_deep d e = rw (h, d, e, is, set-get_or i)

module _ (frame : Frame) (i z : List ℕ) (x y : ℕ) where
  abbrev used : ℕ
  used = rows_of frame (length i) (length z)

  -- outside the memory 0 is read
  pub read_outside : (deep : Bool) → in_memory frame used x y ≡ false → 0 ≡ read_of frame deep x y i z
  unfolding read_of
  read_outside deep h = rw h

  module _ {deep : Bool} {at : ℕ} (is : at ≡ place_of frame x y) (h : in_memory frame used x y ≡ true) where
    -- inside, what stands in Z
    pub read_deep : deep ≡ true → get_or z at 0 ≡ read_of frame deep x y i z
    unfolding read_of
    read_deep d = rw (h, d, is)

    -- or in I
    pub read_intensity : deep ≡ false → get_or i at 0 ≡ read_of frame deep x y i z
    unfolding read_of
    read_intensity d = rw (h, d, is)

-- a pixel that is stored lies inside the memory
pub within_inside : (pen : Pen) (rows : ℕ) (s q : Store) → Memᴰ q (storable pen rows s) → in_memory pen.frame rows q.x q.y ≡ true
unfolding storable
within_inside pen rows s q = go (in_memory pen.frame rows s.x s.y) refl
  where
    go : (b : Bool) → in_memory pen.frame rows s.x s.y ≡ b → Memᴰ q (cond b (s ∷ []) []) → in_memory pen.frame rows q.x q.y ≡ true
    go true h u = subst (λ (t : Store). in_memory pen.frame rows t.x t.y ≡ true) (sym (Memᴰ.eq_of_singleton u)) h
    go false h u = absurd (Memᴰ.not-nil u)

-- and is that pixel
pub within_is : (pen : Pen) (rows : ℕ) (s q : Store) → Memᴰ q (storable pen rows s) → q ≡ s
unfolding storable
within_is pen rows s q = go (in_memory pen.frame rows s.x s.y)
  where
    go : (b : Bool) → Memᴰ q (cond b (s ∷ []) []) → q ≡ s
    go true u = Memᴰ.eq_of_singleton u
    go false u = absurd (Memᴰ.not-nil u)
