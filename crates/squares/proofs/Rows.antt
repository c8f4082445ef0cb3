-- Copying a square as the code does it: row by row, each row a run of places, cut off where the picture ends. Assumes nothing.
use mathlib.Core.Path.{◌≡◌, sym, ◌∙◌}
use mathlib.Core.Bool.{Bool, false, ◌&&◌, and-false, and-or_distrib_left}
use mathlib.Core.List.{List}
use Prim.Native.Nat.{ℕ, suc, ◌+◌, ◌*◌, ◌-◌, ◌/◌, ◌%◌, ◌≤◌, ◌<◌, min}
use native.Mathlib.Nat.{zero-mul, suc-mul, mul_comm, mul-le-mul, mod-lt, div-lt_iff_lt-mul, pos_of_ne-zero}
use native.Mathlib.Omega.{arith}
use borrow.Author.Tests.{ltb-false}
use lib.Dec.{ltb}
use lib.ListN.{length, get_or, set}
use Rattle.squares.specs.Squares.{corner}
use Rattle.squares.specs.Copy.{is_among, covers, holds, overlay, copy_square}
use Rattle.squares.proofs.Any.{one_fails}
use Rattle.squares.proofs.Among.{among_none, among_low, among_add, among_clip, among_row}
use Rattle.squares.proofs.Overlay.{length_overlay, overlay_none, overlay_same, overlay_set, overlay_more}

-- ---- a run of places

module _ (new old : List ℕ) (e : length new ≡ length old) (at : ℕ) where
  -- a picture over which a run of no places is laid is as it was
  pub run_start : old ≡ overlay (is_among 0 at) new 0 old
  run_start = overlay_none new old e (is_among 0 at) (λ i k. among_none at i)

  -- one place more
  pub run_more : {view : List ℕ} (i : ℕ) → at + i < length old → view ≡ overlay (is_among i at) new 0 old
      → set view (at + i) (get_or new (at + i) 0) ≡ overlay (is_among (i + 1) at) new 0 old
  run_more i h v =
      let l = length_overlay (is_among i at) new 0 old in
      rw v
      (overlay_set new (overlay (is_among i at) new 0 old) (e ∙ sym l) (at + i) (omega (arith, l))
      ∙ overlay_more new old e (is_among i at) (is_among 1 (at + i)) (is_among (i + 1) at) (λ p k. among_add i 1 at p))

-- ---- the rows of a square

-- n places of a row inside the picture, from column x on, end before the picture does
pub row_ends : (width rows x y n k : ℕ) → k ≡ width * rows → x + n ≤ width → y < rows → y * width + x + n ≤ k
row_ends width rows x y n k e h l =
    omega (arith, e, h, mul_comm width rows, suc-mul y width, mul-le-mul {n₁ = suc y} {m₁ = width} {n₂ = rows} {m₂ = width} (omega (arith, l)) (omega arith))

-- a place in some of a square's columns and rows
abbrev pub inside : ℕ → ℕ → ℕ → ℕ → ℕ → ℕ → Bool
inside width x y columns height at = is_among columns x (at % width) && is_among height y (at / width)

module _ (new old : List ℕ) (width rows x y : ℕ) (sn : length new ≡ width * rows) (so : length old ≡ width * rows) where
  alike : length new ≡ length old
  alike = sn ∙ sym so

  -- a place of the picture lies in a column and in a row of it
  place_inside : (at : ℕ) → at < length old → (at % width < width) × (at / width < rows)
  place_inside at h =
      let some : 0 < width = pos_of_ne-zero (λ z. let none : width * rows ≡ 0 = rw z (zero-mul rows) in omega (arith, so, h)) in
      (mod-lt at some, (div-lt_iff_lt-mul some).1 (omega (arith, so, h, mul_comm width rows)))

  -- outside the picture nothing is copied
  pub square_right : width ≤ x → old ≡ copy_square width new old (corner x y)
  unfolding copy_square covers
  square_right h =
      overlay_none new old alike (λ p. holds (p % width) (p / width) (corner x y))
      (λ i k. rw (among_low 8 x (i % width) (omega (arith, (place_inside i k).0))))

  -- a square above the picture's last row leaves the picture as it was
  pub square_above : rows ≤ y → old ≡ copy_square width new old (corner x y)
  unfolding copy_square covers
  square_above h =
      overlay_none new old alike (λ p. holds (p % width) (p / width) (corner x y))
      (λ i k. rw (among_low 8 y (i / width) (omega (arith, (place_inside i k).1))) (and-false (is_among 8 x (i % width))))

  -- so does a square whose corner is outside
  pub square_outside : ltb x width && ltb y rows ≡ false → old ≡ copy_square width new old (corner x y)
  square_outside e = one_fails (ltb x width) (ltb y rows) e (λ t. square_right (ltb-false x width t)) (λ t. square_above (ltb-false y rows t))

  module _ (columns : ℕ) where
    -- a picture over which no row of a square is laid is as it was
    pub rows_start : old ≡ overlay (inside width x y columns 0) new 0 old
    rows_start = overlay_none new old alike (inside width x y columns 0) (λ i k. rw (among_none y (i / width)) (and-false (is_among columns x (i % width))))

    -- one row more
    pub rows_more : {view : List ℕ} (j : ℕ) → x + columns ≤ width → view ≡ overlay (inside width x y columns j) new 0 old
        → overlay (is_among columns ((y + j) * width + x)) new 0 view ≡ overlay (inside width x y columns (j + 1)) new 0 old
    rows_more j fits v =
        rw v
        (overlay_more new old alike (inside width x y columns j) (is_among columns ((y + j) * width + x)) (inside width x y columns (j + 1))
        (λ i k.
        rw (among_row width columns x (y + j) i fits, among_add j 1 y (i / width))
        (and-or_distrib_left (is_among columns x (i % width)) (is_among j y (i / width)) (is_among 1 (y + j) (i / width)))))

  -- the rows that are inside are the square
  pub rows_done : overlay (inside width x y (min 8 (width - x)) (min 8 (rows - y))) new 0 old ≡ copy_square width new old (corner x y)
  unfolding copy_square covers
  rows_done =
      overlay_same new old alike (inside width x y (min 8 (width - x)) (min 8 (rows - y))) (λ p. holds (p % width) (p / width) (corner x y))
      (λ i k.
      let p = place_inside i k in
      rw (among_clip 8 width x (i % width) p.0, among_clip 8 rows y (i / width) p.1))
