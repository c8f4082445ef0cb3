-- Pixels stored and read: what is read back, what stands elsewhere, and a pixel stored where it was read. Assumes nothing.
use Rattle.std.proofs.Common.{◌≡◌, ℕ, ◌≤◌, Bool, true, false, cond, List, [], ◌∷◌, map, length, get_or, set, sym, refl, ap, ◌∙◌, ap₂, arith, get_or-set_same}
use mathlib.Core.List.Memᴰ
use mathlib.Core.List.{Memᴰ}
use lib.Seq.{set-get_or}
use Rattle.ground.proofs.Truth.{either}
use Rattle.picture.specs.declared.Pen.{Pen}
use Rattle.picture.specs.Place.{place_of, rows_of, in_memory}
use Rattle.picture.specs.Picture.{Picture, picture, in_planes, new_i}
use Rattle.picture.specs.Cell.{Cell, cell_at}
use Rattle.picture.specs.Store.{pixel_for, site, filled, storable, read_of}
use Rattle.picture.proofs.Places.{place_below, place_apart}
use Rattle.picture.proofs.Rows.{in_all_planes}
use Rattle.picture.proofs.Planes.{planes_same}
use Rattle.picture.proofs.Stores.{filled_i, filled_z, filled_away, store_outside, store_intensity, store_deep}

-- each number of a memory has 16 bits
abbrev pub Low : List ℕ → Type 0
Low l = (at : ℕ) → get_or l at 0 ≤ 65535

-- a number in some planes and itself in the others
pub own_planes : (planes x : ℕ) → planes ≤ 65535 → x ≤ 65535 → in_planes planes x x ≡ x
unfolding in_planes
own_planes planes x h k = planes_same 16 x planes (omega (arith, k)) (omega (arith, h))

own_i : (pen : Pen) (x : ℕ) → pen.planes ≤ 65535 → x ≤ 65535 → new_i pen x x ≡ x
unfolding new_i
own_i pen x h k = go pen.ienable
  where
    go : (b : Bool) → cond b (in_planes pen.planes x x) x ≡ x
    go true = own_planes pen.planes x h k
    go false = refl

module _ (pen : Pen) (i z : List ℕ) (deep : Bool) (x y v : ℕ) where
  -- the rows in use of the two memories, before the pixel is stored
  abbrev pub in_use : ℕ
  in_use = rows_of pen.frame (length i) (length z)

  -- the picture after a pixel is stored
  abbrev pub left : Picture
  left = filled pen (storable pen in_use (pixel_for deep x y v)) (picture i z 0)

  rows_stay : rows_of pen.frame (length left.i) (length left.z) ≡ in_use
  rows_stay = ap₂ (λ (a b : ℕ). rows_of pen.frame a b) (filled_i pen (storable pen in_use (pixel_for deep x y v)) (picture i z 0)) (filled_z pen (storable pen in_use (pixel_for deep x y v)) (picture i z 0))

  -- a place of another pixel is none of those stored at
  site_apart : (x' y' : ℕ) → ((x ≡ x') × (y ≡ y') → ⊥) → in_memory pen.frame in_use x' y' ≡ true → Memᴰ (place_of pen.frame x' y') (map (site pen) (storable pen in_use (pixel_for deep x y v))) → ⊥
  unfolding storable
  site_apart x' y' apart h = go (in_memory pen.frame in_use x y) refl
    where
      go : (b : Bool) → in_memory pen.frame in_use x y ≡ b → Memᴰ (place_of pen.frame x' y') (map (site pen) (cond b (pixel_for deep x y v ∷ []) [])) → ⊥
      go true e u = apart (place_apart pen.frame (length i) (length z) x y x' y' e h (sym (Memᴰ.eq_of_singleton u)))
      go false e u = Memᴰ.not-nil u

  module _ (deep' : Bool) (x' y' : ℕ) where
    in_cell : (p q : Picture) (at : ℕ) → cell_at p at ≡ cell_at q at → get_or (cond deep' p.z p.i) at 0 ≡ get_or (cond deep' q.z q.i) at 0
    in_cell p q at e = go deep'
      where
        go : (b : Bool) → get_or (cond b p.z p.i) at 0 ≡ get_or (cond b q.z q.i) at 0
        go true = ap (λ (c : Cell). c.z) e
        go false = ap (λ (c : Cell). c.i) e

    -- another pixel reads as before
    pub read_elsewhere : ((x ≡ x') × (y ≡ y') → ⊥) → read_of pen.frame deep' x' y' left.i left.z ≡ read_of pen.frame deep' x' y' i z
    unfolding read_of
    read_elsewhere apart =
        ap (λ (rows : ℕ). cond (in_memory pen.frame rows x' y') (get_or (cond deep' left.z left.i) (place_of pen.frame x' y') 0) 0) rows_stay
        ∙ go (in_memory pen.frame in_use x' y') refl
      where
        go : (b : Bool) → in_memory pen.frame in_use x' y' ≡ b
            → cond b (get_or (cond deep' left.z left.i) (place_of pen.frame x' y') 0) 0 ≡ cond b (get_or (cond deep' z i) (place_of pen.frame x' y') 0) 0
        go true e =
            in_cell left (picture i z 0) (place_of pen.frame x' y')
            (filled_away pen (storable pen in_use (pixel_for deep x y v)) (picture i z 0) (place_of pen.frame x' y') (site_apart x' y' apart e))
        go false e = refl

  -- with both enables on and all planes, a number of 16 bits is read back inside the memory
  pub read_back_lem : pen.ienable ≡ true → pen.zenable ≡ true → pen.planes ≡ 65535 → v ≤ 65535 → in_memory pen.frame in_use x y ≡ true
      → read_of pen.frame deep x y left.i left.z ≡ v
  unfolding read_of new_i
  read_back_lem ion zon all low e =
      ap (λ (rows : ℕ). cond (in_memory pen.frame rows x y) (get_or (cond deep left.z left.i) at 0) 0) rows_stay
      ∙ ap (λ (b : Bool). cond b (get_or (cond deep left.z left.i) at 0) 0) e
      ∙ go deep refl
    where
      at : ℕ
      at = place_of pen.frame x y

      go : (d : Bool) → deep ≡ d → get_or (cond d left.z left.i) at 0 ≡ v
      go true t =
          ap (λ (p : Picture). get_or p.z at 0) (sym (store_deep pen i z x y v {deep = deep} {at = at} refl e t refl))
          ∙ get_or-set_same z at (cond pen.zenable v (get_or z at 0)) 0 (place_below pen.frame (length i) (length z) x y e).1 ∙ rw zon
      go false t =
          ap (λ (p : Picture). get_or p.i at 0) (sym (store_intensity pen i z x y v {deep = deep} {at = at} refl e t refl))
          ∙ get_or-set_same i at (new_i pen v (get_or i at 0)) 0 (place_below pen.frame (length i) (length z) x y e).0 ∙ rw (ion, all) (in_all_planes (get_or i at 0) v low)

-- a pixel stored where it was read leaves the picture as it was, whatever enables and planes
pub read_stored : (pen : Pen) (i z : List ℕ) (deep : Bool) (x y : ℕ) → pen.planes ≤ 65535 → Low i
    → left pen i z deep x y (read_of pen.frame deep x y i z) ≡ picture i z 0
unfolding read_of
read_stored pen i z deep x y h low = go (in_memory pen.frame (rows_of pen.frame (length i) (length z)) x y) refl
  where
    at : ℕ
    at = place_of pen.frame x y

    go : (b : Bool) → in_memory pen.frame (rows_of pen.frame (length i) (length z)) x y ≡ b
        → left pen i z deep x y (cond b (get_or (cond deep z i) at 0) 0) ≡ picture i z 0
    go false e = sym (store_outside pen i z x y 0 deep e)
    go true e = which deep refl
      where
        which : (d : Bool) → deep ≡ d → left pen i z deep x y (get_or (cond d z i) at 0) ≡ picture i z 0
        which true t =
            sym (store_deep pen i z x y (get_or z at 0) {deep = deep} {at = at} refl e t refl)
            ∙ ap (λ (l : List ℕ). picture i l 0) (ap (set z at) (either (λ (n : ℕ). n ≡ get_or z at 0) pen.zenable (λ t. refl) (λ t. refl)) ∙ set-get_or z at 0)
        which false t =
            sym (store_intensity pen i z x y (get_or i at 0) {deep = deep} {at = at} refl e t refl)
            ∙ ap (λ (l : List ℕ). picture l z 0) (ap (set i at) (own_i pen (get_or i at 0) h (low at)) ∙ set-get_or i at 0)
