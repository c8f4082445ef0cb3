-- Why a unit's columns and places are told from the places that the whole picture has in rows: the line length is as much for each unit, so a pixel's
-- place has its column's remainder. Assumes nothing.
use Rattle.std.proofs.Common.{◌≡◌, ℕ, ◌+◌, ◌-◌, ◌*◌, ◌/◌, ◌%◌, ◌^◌, ◌<◌, ◌≤◌, Bool, true, false, cond, not, ◌&&◌, eqb, ltb, ◌⊎◌, refl, ap, ◌∙◌, inl, inr, mul_comm, add_comm, div-add-mod', mul_left_comm, arith, ltb-false, ltb-true, ne_eqb, eqb-true}
use native.Mathlib.Nat.{add-mul-div_left, add-mul-mod_self_left}
use lib.Bits.{bit_and, and_mask}
use Rattle.picture.specs.declared.Frame.{Frame}
use Rattle.picture.specs.Place.{lies_plain, lies_tiled, ways_of, share, layout_of, is_whole, place_of, mine}
use Rattle.ground.proofs.Truth.{both, neither}
use Rattle.picture.proofs.Places.{lies_shared, ways_low, place_shared}
use Rattle.line.specs.Part.{part, part_of, has_place}

-- ---- places of the whole picture, by a number that divides the line length

module _ (line ways x y : ℕ) (h : line % ways ≡ 0) where
  spot_is : y * line + x ≡ x + ways * (y * (line / ways))
  spot_is =
      let e : line / ways * ways ≡ line = omega (arith, div-add-mod' line ways, h) in
      omega (arith, ap (λ (n : ℕ). y * n) e, mul_left_comm ways y (line / ways), mul_comm ways (line / ways))

  spot_mod : (y * line + x) % ways ≡ x % ways
  spot_mod = ap (λ (n : ℕ). n % ways) spot_is ∙ add-mul-mod_self_left x ways (y * (line / ways))

  spot_div : 0 < ways → (y * line + x) / ways ≡ y * (line / ways) + x / ways
  spot_div p = ap (λ (n : ℕ). n / ways) spot_is ∙ add-mul-div_left x (y * (line / ways)) p ∙ add_comm (x / ways) (y * (line / ways))

-- ---- a unit

-- two or four are a small power of 2
pub part_shift : (frame : Frame) → (part_of frame).shift ≤ 2
unfolding part_of
part_shift frame = go (ltb frame.layout 4)
  where
    go : (t : Bool) → (cond t (part 1 1 (frame.layout % 2)) (part 2 3 (frame.layout % 4))).shift ≤ 2
    go true = omega arith
    go false = omega arith

module _ (frame : Frame) (e : lies_plain frame ≡ false) (f : lies_tiled frame ≡ false) where
  high : frame.layout ≤ 7
  high = ltb-false 7 frame.layout (neither (eqb frame.layout 0) (ltb 7 frame.layout) e).1

  even : is_whole (layout_of frame) frame.line ≡ true → frame.line % ways_of frame ≡ 0
  unfolding is_whole
  even h =
      let w : is_whole (share (ways_of frame) (frame.layout - ways_of frame)) frame.line ≡ true = rw (lies_shared frame e f) at h in
      eqb-true _ _ (both (not (eqb frame.line 0) && not (eqb (ways_of frame) 0)) (eqb (frame.line % ways_of frame) 0) w).1

  -- it has the places of its columns
  pub part_mine : (x y : ℕ) → is_whole (layout_of frame) frame.line ≡ true → has_place (part_of frame) (y * frame.line + x) ≡ mine (layout_of frame) x
  unfolding has_place part_of mine
  part_mine x y h = rw (lies_shared frame e f) (go (ltb frame.layout 4) refl (even h) (ways_low frame e f))
    where
      go : (t : Bool) → ltb frame.layout 4 ≡ t → frame.line % cond t 2 4 ≡ 0 → cond t 2 4 ≤ frame.layout
          → eqb (bit_and (y * frame.line + x) (cond t (part 1 1 (frame.layout % 2)) (part 2 3 (frame.layout % 4))).mask) (cond t (part 1 1 (frame.layout % 2)) (part 2 3 (frame.layout % 4))).unit
          ≡ eqb (x % cond t 2 4) (frame.layout - cond t 2 4)
      go true t d l =
          let m = ltb-true frame.layout 4 t in
          let u : frame.layout % 2 ≡ frame.layout - 2 = omega (arith, m, l) in
          rw (and_mask (y * frame.line + x) 1, spot_mod frame.line 2 x y d, u)
      go false t d l =
          let u : frame.layout % 4 ≡ frame.layout - 4 = omega (arith, high, l) in
          rw (and_mask (y * frame.line + x) 2, spot_mod frame.line 4 x y d, u)

  -- one after the other
  pub part_place : (x y : ℕ) → is_whole (layout_of frame) frame.line ≡ true → (y * frame.line + x) / 2 ^ (part_of frame).shift ≡ place_of frame x y
  unfolding part_of
  part_place x y h = rw (place_shared frame x y e f) (go (ltb frame.layout 4) (even h))
    where
      go : (t : Bool) → frame.line % cond t 2 4 ≡ 0
          → (y * frame.line + x) / 2 ^ (cond t (part 1 1 (frame.layout % 2)) (part 2 3 (frame.layout % 4))).shift ≡ y * (frame.line / cond t 2 4) + x / cond t 2 4
      go true d = spot_div frame.line 2 x y d (omega arith)
      go false d = spot_div frame.line 4 x y d (omega arith)

  -- a column that is nearer to one of its own than there are units is none
  pub part_between : (x z d : ℕ) → 0 < d → d < 2 ^ (part_of frame).shift → (z ≡ x + d) ⊎ (x ≡ z + d) → mine (layout_of frame) x ≡ true → mine (layout_of frame) z ≡ false
  unfolding part_of mine
  part_between x z d p l a m = rw (lies_shared frame e f) (go (ltb frame.layout 4) l a (rw (lies_shared frame e f) at m))
    where
      go : (t : Bool) → d < 2 ^ (cond t (part 1 1 (frame.layout % 2)) (part 2 3 (frame.layout % 4))).shift → (z ≡ x + d) ⊎ (x ≡ z + d)
          → eqb (x % cond t 2 4) (frame.layout - cond t 2 4) ≡ true → eqb (z % cond t 2 4) (frame.layout - cond t 2 4) ≡ false
      go true l (inl a) m = let u = eqb-true (x % 2) (frame.layout - 2) m in ne_eqb (z % 2) (frame.layout - 2) (λ q. omega (arith, p, l, a, u, q))
      go true l (inr a) m = let u = eqb-true (x % 2) (frame.layout - 2) m in ne_eqb (z % 2) (frame.layout - 2) (λ q. omega (arith, p, l, a, u, q))
      go false l (inl a) m = let u = eqb-true (x % 4) (frame.layout - 4) m in ne_eqb (z % 4) (frame.layout - 4) (λ q. omega (arith, p, l, a, u, q))
      go false l (inr a) m = let u = eqb-true (x % 4) (frame.layout - 4) m in ne_eqb (z % 4) (frame.layout - 4) (λ q. omega (arith, p, l, a, u, q))
