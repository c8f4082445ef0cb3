-- A square's differences are those of its rows, each a run of places of the picture, cut off where the picture ends. Assumes nothing.
use mathlib.Core.Path.{◌≡◌, refl}
use mathlib.Core.Bool.{Bool, true, false, ◌&&◌, ◌||◌}
use mathlib.Core.List.{List}
use Prim.Native.Nat.{ℕ, ◌+◌, ◌*◌, ◌-◌, ◌≤◌, ◌<◌, min}
use native.Mathlib.Nat.{add_assoc}
use native.Mathlib.Numerals.{add-one}
use native.Mathlib.Omega.{arith}
use borrow.Author.Tests.{lt-ltb, ltb-true, ltb-false}
use lib.Dec.{ltb}
use Rattle.ground.proofs.Truth.{both, same_test}
use Rattle.squares.specs.Squares.{any_below, any_in}
use Rattle.squares.specs.Change.{unlike, run_differs, differs}
use Rattle.squares.proofs.Any.{any_here, any_found, fails, in_here, in_found, one_fails}

-- ---- a run of places

module _ (old new : List ℕ) (at : ℕ) where
  -- at no places nothing differs
  pub run_none : run_differs old new at 0 ≡ false
  unfolding run_differs any_below
  run_none = refl

  -- one place more
  pub run_next : (i : ℕ) → run_differs old new at (i + 1) ≡ run_differs old new at i || unlike old new (at + i)
  unfolding run_differs any_below
  run_next i = rw (add-one i)

-- ---- a square

module _ (old new : List ℕ) (width rows : ℕ) where
  -- a pixel that differs is inside the picture, and its place differs
  pub differs_parts : (x y : ℕ) → differs old new width rows x y ≡ true → (x < width) × (y < rows) × (unlike old new (y * width + x) ≡ true)
  unfolding differs
  differs_parts x y e =
      let p = both (ltb x width && ltb y rows) (unlike old new (y * width + x)) e in
      let q = both (ltb x width) (ltb y rows) p.0 in
      (ltb-true x width q.0, ltb-true y rows q.1, p.1)

  -- a pixel inside the picture whose place differs does differ
  pub differs_of : (x y : ℕ) → x < width → y < rows → unlike old new (y * width + x) ≡ true → differs old new width rows x y ≡ true
  unfolding differs
  differs_of x y h k e = rw (lt-ltb x width h, lt-ltb y rows k) e

  module _ (x y side : ℕ) where
    -- a square that is wholly outside has no difference
    pub right_of : width ≤ x → any_in (differs old new width rows) side x y ≡ false
    right_of h =
        fails _ (λ e.
        let f = in_found (differs old new width rows) side x y e in
        omega (arith, (differs_parts (x + f.0) (y + f.1) f.4).0))

    -- and a square above the picture's last row has no difference
    pub above : rows ≤ y → any_in (differs old new width rows) side x y ≡ false
    above h =
        fails _ (λ e.
        let f = in_found (differs old new width rows) side x y e in
        omega (arith, (differs_parts (x + f.0) (y + f.1) f.4).1))

    -- so has a square whose corner is outside
    pub outside_alike : ltb x width && ltb y rows ≡ false → any_in (differs old new width rows) side x y ≡ false
    outside_alike e = one_fails (ltb x width) (ltb y rows) e (λ t. right_of (ltb-false x width t)) (λ t. above (ltb-false y rows t))

  module _ (x y : ℕ) where
    -- the part of row j of a square of side 8 that is inside the picture has a difference
    abbrev pub row_differs : ℕ → Bool
    row_differs j = run_differs old new ((y + j) * width + x) (min 8 (width - x))

    -- the rows that are inside tell of all
    pub clipped : any_in (differs old new width rows) 8 x y ≡ any_below (min 8 (rows - y)) row_differs
    unfolding run_differs
    clipped =
        same_test _ _
        (λ e.
        let f = in_found (differs old new width rows) 8 x y e in
        let p = differs_parts (x + f.0) (y + f.1) f.4 in
        any_here _ row_differs f.1 (omega (arith, f.3, p.1))
        (any_here _ (λ i. unlike old new ((y + f.1) * width + x + i)) f.0 (omega (arith, f.2, p.0))
        (rw (add_assoc ((y + f.1) * width) x f.0) p.2)))
        (λ e.
        let r = any_found (min 8 (rows - y)) row_differs e in
        let c = any_found (min 8 (width - x)) (λ i. unlike old new ((y + r.0) * width + x + i)) r.2 in
        in_here (differs old new width rows) 8 x y c.0 r.0 (omega (arith, c.1)) (omega (arith, r.1))
        (differs_of (x + c.0) (y + r.0) (omega (arith, c.1)) (omega (arith, r.1)) (rw (add_assoc ((y + r.0) * width) x c.0) at c.2)))
