-- Pages: each has a row, and together they are the image. Assumes nothing.
use mathlib.Core.Path.{◌≡◌, refl, sym, ap, ap₂, ◌∙◌}
use mathlib.Core.Bool.{Bool, true, false, cond}
use mathlib.Core.List.{List, ◌++◌}
use Prim.Native.Nat.{ℕ, zero, suc, ◌+◌, ◌-◌, ◌*◌, ◌/◌, ◌≤◌, ◌<◌, min}
use native.Mathlib.Nat.{div-zero, le_trans, mul-le-mul_left, mul-le-mul_right, div-mul-le_self, le-div_iff_mul-le, div-lt_iff_lt-mul}
use native.Mathlib.Omega.{arith}
use borrow.Author.Tests.{ltb-true, ltb-false, eqb-false}
use lib.ListN.{length, take, replicate, length-replicate}
use lib.Dec.{ltb, eqb}
use Rattle.report.specs.Image.{image_heading, pixel_size, down, image}
use Rattle.report.specs.Levels.{levels, level_image, drawn_places}
use Rattle.report.proofs.Pages.{down_join}
use Rattle.report.proofs.Levels.{drawn_low}
use Rattle.ground.proofs.Truth.{either}
use Rattle.machine.specs.Machine.{memories}
use Rattle.chip.specs.Fresh.{fresh}
use Rattle.console.specs.Room.{filled, Filled}
use Rattle.show.specs.Show.{rows_holding, rows_shown, page_rows, pages}

-- rows that fit have a length
pub rows_line : (places line rows : ℕ) → rows ≡ places / line → (rows ≡ 0 → ⊥) → 0 < line
rows_line places zero rows e h = absurd (h (e ∙ div-zero places))
rows_line places (suc line) rows e h = omega arith

-- ---- the rows of an image in levels

-- rows that hold places that stand in `rows` rows are no more than these
holding_low : (line rows n : ℕ) → 0 < line → n ≤ rows * line → rows_holding line n ≤ rows
unfolding rows_holding
holding_low line rows n h k = either (λ (m : ℕ). m ≤ rows) (eqb n 0) (λ e. omega arith) (λ e. some (eqb-false n 0 e))
  where
    some : (n ≡ 0 → ⊥) → suc ((n - 1) / line) ≤ rows
    some e =
        let low : n - 1 < rows * line = omega (arith, k, e) in
        (div-lt_iff_lt-mul h).1 low

module _ (given : Bool) (line rows : ℕ) (im zm : List ℕ) (h : 0 < line) where
  shown_low : rows_shown given line rows im zm ≤ rows
  unfolding rows_shown
  shown_low =
      either (λ (m : ℕ). m ≤ rows) given (λ e. omega arith) (λ e. holding_low line rows (drawn_places im zm (rows * line)) h (drawn_low im zm (rows * line)))

  -- their places stand in the memory
  pub shown_within : {kept : ℕ} → kept ≡ rows_shown given line rows im zm → rows * line ≤ length im → kept * line ≤ length im
  shown_within e k =
      let low : rows_shown given line rows im zm * line ≤ rows * line = mul-le-mul_right line shown_low in
      rw e (le_trans low k)

-- ---- one page

-- rows that fit with two bytes a place fit with one
pub page_sized : (line most count : ℕ) → count * (2 * line) ≤ 131072 → count * (pixel_size most * line) ≤ 131072
unfolding pixel_size
page_sized line most count h = go (ltb most 256)
  where
    go : (b : Bool) → count * (cond b 1 2 * line) ≤ 131072
    go true =
        let less : 1 * line ≤ 2 * line = omega arith in
        le_trans (mul-le-mul_left count less) h
    go false = h

module _ (line below : ℕ) where
  -- a page has no more rows than are left
  pub page_low : page_rows line below ≤ below
  unfolding page_rows
  page_low = omega arith

  -- it fits
  pub page_fits : 0 < line → page_rows line below * (2 * line) ≤ 131072
  unfolding page_rows
  page_fits h =
      let few : min below (131072 / (2 * line)) ≤ 131072 / (2 * line) = omega arith in
      le_trans (mul-le-mul_right (2 * line) few) (div-mul-le_self 131072 (2 * line))

  -- it has a row, for any line length of 16 bits
  pub page_some : 0 < line → line < 65536 → 0 < below → 0 < page_rows line below
  unfolding page_rows
  page_some h k b =
      let wide : 0 < 2 * line = omega arith in
      let one : 1 * (2 * line) ≤ 131072 = omega arith in
      let q : 1 ≤ 131072 / (2 * line) = (le-div_iff_mul-le wide).1 one in
      omega (arith, q)

-- ---- all of them

module _ (line : ℕ) (h : 0 < line) (k : line < 65536) where
  page_left : (below n : ℕ) → below ≤ suc n → below - page_rows line below ≤ n
  page_left below n b = go (ltb 0 below) refl
    where
      go : (t : Bool) → ltb 0 below ≡ t → below - page_rows line below ≤ n
      go true e = omega (arith, page_some line below h k (ltb-true 0 below e))
      go false e = omega (arith, ltb-false 0 below e)

  pages_down : (most : ℕ) (memory : List ℕ) (n below : ℕ) → below ≤ n → pages most line memory below n ≡ down most line memory below below
  unfolding pages down
  pages_down most memory zero below b =
      let none : below ≡ 0 = omega arith in
      rw none
  pages_down most memory (suc n) below b =
      let p = page_rows line below in
      let all : p + (below - p) ≡ below = omega (arith, page_low line below) in
      rw (pages_down most memory n (below - p) (page_left below n b)) (sym (down_join most line memory below p (below - p)) ∙ ap (down most line memory below) all)

  -- the heading and the pages, written one after the other, are the image
  pub shown_image : (most rows : ℕ) (memory : List ℕ) → image_heading most line rows ++ pages most line memory rows rows ≡ image most line rows memory
  unfolding image
  shown_image most rows memory = rw (pages_down most memory rows rows (omega arith))

  -- so are those of levels
  pub shown_levels : (depth : Bool) (rows : ℕ) (im zm : List ℕ)
      → image_heading 255 line rows ++ pages 255 line (levels depth im zm (rows * line)) rows rows ≡ level_image depth line rows im zm
  unfolding level_image
  shown_levels depth rows im zm = shown_image 255 rows (levels depth im zm (rows * line))

-- ---- fresh memories

take_replicate : (n m a : ℕ) → n ≤ m → take n (replicate m a) ≡ replicate n a
take_replicate zero m a h = refl
take_replicate (suc n) zero a h = absurd (omega arith)
take_replicate (suc n) (suc m) a h = rw (take_replicate n m a (omega arith))

take_blank : (n a : ℕ) {memory : List ℕ} → n ≤ 1048576 → Filled 1048576 a memory → take n memory ≡ replicate n a
unfolding filled
take_blank n a h b = rw b.same (take_replicate n 1048576 a h)

-- the first places of blank ones are fresh memories
pub first_fresh : (n : ℕ) {im zm : List ℕ} → n ≤ 1048576 → Filled 1048576 0 im → Filled 1048576 65535 zm
    → memories (take n im) (take n zm) ≡ fresh (length (take n im))
first_fresh n {im} {zm} h p q =
    let size : length (take n im) ≡ n = ap (length {A = ℕ}) (take_blank n 0 h p) ∙ length-replicate n 0 in
    ap₂ (λ (i z : List ℕ). memories i z) (take_blank n 0 h p) (take_blank n 65535 h q) ∙ ap fresh (sym size)
