-- Images: how long each part is, rows that reach past a memory's end, and pages that join. Assumes nothing.
use mathlib.Core.Path.{◌≡◌, refl, sym, ap, ◌∙◌}
use mathlib.Core.Bool.{Bool, true, false, cond}
use mathlib.Core.List.{List, [], ◌∷◌, ◌++◌, append_assoc, append-nil}
use Prim.Native.Nat.{ℕ, zero, suc, ◌+◌, ◌-◌, ◌*◌, ◌/◌, ◌%◌, ◌^◌, ◌≤◌, ◌<◌, min}
use native.Mathlib.Nat.{add-zero, add-suc, add_assoc, mul-zero, mul-suc, suc-mul, mul-le-mul_left, mul-le-mul_right, le-div_iff_mul-le, div-lt_iff_lt-mul}
use native.Mathlib.Numerals.{add-one}
use native.Mathlib.Omega.{arith}
use borrow.Author.Tests.{lt-ltb, le-ltb, ltb-true, ltb-false}
use lib.ListN.{length, get_or, take, drop, length-append, get_or-eq_default}
use lib.Dec.{ltb}
use Rattle.report.specs.Text.{decimal, field, pair}
use Rattle.report.specs.Image.{magic, image_heading, two_bytes, pixel, pixel_size, numbers, row_bytes, down}
use Rattle.report.proofs.Decimal.{decimal_short}
use Rattle.report.proofs.Lengths.{length_field, length_pair}

-- ---- the heading

module _ (most line rows : ℕ) where
  -- an image's heading is as long as its kind, which has 3 bytes, its pair of width and height, and its greatest number with the line's end
  pub image_heading_parts : length (image_heading most line rows) ≡ 3 + length (pair line rows 10) + length (field most 10)
  unfolding image_heading
  image_heading_parts =
      let size = pair line rows 10 in
      omega (arith, length-append (magic ++ size) (field most 10), length-append magic size)

  -- an image's heading is as long as the digits of its three numbers, and 6 bytes more
  pub length_image_heading : length (image_heading most line rows) ≡ length (decimal line) + length (decimal rows) + length (decimal most) + 6
  length_image_heading = omega (arith, image_heading_parts, length_pair line rows 10, length_field most 10)

  -- it is short: three numbers of 64 bits
  pub image_heading_short : most < 2 ^ 64 → line < 2 ^ 64 → rows < 2 ^ 64 → length (image_heading most line rows) ≤ 66
  image_heading_short g h k = omega (arith, length_image_heading, decimal_short most g, decimal_short line h, decimal_short rows k)

-- ---- rows

-- a product is more than the room where its factor is more than the quotient
pub over_quotient : (room row count : ℕ) → 0 < row → ltb (room / row) count ≡ ltb room (count * row)
over_quotient room row count h = go (ltb (room / row) count) refl
  where
    go : (b : Bool) → ltb (room / row) count ≡ b → b ≡ ltb room (count * row)
    go true t = sym (lt-ltb room (count * row) ((div-lt_iff_lt-mul h).0 (ltb-true (room / row) count t)))
    go false t = sym (le-ltb room (count * row) ((le-div_iff_mul-le h).0 (ltb-false (room / row) count t)))

-- a pixel has one byte, or two
module _ (most : ℕ) where
  -- where no number is above 255, a pixel has one byte
  pub size_one : most < 256 → pixel_size most ≡ 1
  unfolding pixel_size
  size_one h = rw (lt-ltb most 256 h)

  -- where a number may be above 255, a pixel has two bytes
  pub size_two : 256 ≤ most → pixel_size most ≡ 2
  unfolding pixel_size
  size_two h = rw (le-ltb most 256 h)

  -- where no number is above 255, a pixel's byte is its number mod 256
  pub pixel_one : (n : ℕ) → most < 256 → pixel most n ≡ n % 256 ∷ []
  unfolding pixel
  pixel_one n h = rw (lt-ltb most 256 h)

  -- where a number may be above 255, a pixel is its number's two bytes
  pub pixel_two : (n : ℕ) → 256 ≤ most → pixel most n ≡ two_bytes n
  unfolding pixel
  pixel_two n h = rw (le-ltb most 256 h)

-- it has at most two
pub size_low : (most : ℕ) → pixel_size most ≤ 2
unfolding pixel_size
size_low most = go (ltb most 256)
  where
    go : (b : Bool) → cond b 1 2 ≤ 2
    go true = omega arith
    go false = omega arith

-- they are the last of the two bytes of its number
pub pixel_cut : (most n : ℕ) → n < 65536 → take (2 - (2 - pixel_size most)) (drop (2 - pixel_size most) (n / 256 % 256 ∷ n % 256 ∷ [])) ≡ pixel most n
unfolding pixel pixel_size
pixel_cut most n h = go (ltb most 256)
  where
    go : (b : Bool) → take (2 - (2 - cond b 1 2)) (drop (2 - cond b 1 2) (n / 256 % 256 ∷ n % 256 ∷ [])) ≡ cond b (n % 256 ∷ []) (two_bytes n)
    go true = refl
    go false =
        let high : n / 256 % 256 ≡ n / 256 = omega arith in
        ap (λ (m : ℕ). m ∷ n % 256 ∷ []) high

-- its bytes are as many
pub length_pixel : (most n : ℕ) → length (pixel most n) ≡ pixel_size most
unfolding pixel pixel_size
length_pixel most n = go (ltb most 256)
  where
    go : (b : Bool) → length (cond b (n % 256 ∷ []) (two_bytes n)) ≡ cond b 1 2
    go true = refl
    go false = refl

module _ (most : ℕ) (memory : List ℕ) where
  -- one number more
  pub numbers_more : (from n : ℕ) → numbers most memory from (n + 1) ≡ numbers most memory from n ++ pixel most (get_or memory (from + n) 0)
  unfolding numbers
  numbers_more from n = rw (add-one n)

  -- the numbers of n places have n times the bytes of a pixel
  pub length_numbers : (from n : ℕ) → length (numbers most memory from n) ≡ pixel_size most * n
  unfolding numbers
  length_numbers from zero = sym (mul-zero (pixel_size most))
  length_numbers from (suc n) =
      let here = get_or memory (from + n) 0 in
      omega (
        arith,
        length-append (numbers most memory from n) (pixel most here),
        length_pixel most here,
        length_numbers from n,
        mul-suc (pixel_size most) n,
      )

  -- a number and those before it
  pub numbers_within : (from k n : ℕ) → k < n → length (numbers most memory from k) + pixel_size most ≤ length (numbers most memory from n)
  numbers_within from k n h =
      omega (arith, length_numbers from k, length_numbers from n, mul-suc (pixel_size most) k, mul-le-mul_left (pixel_size most) h)

  -- numbers join
  pub numbers_join : (from a b : ℕ) → numbers most memory from (a + b) ≡ numbers most memory from a ++ numbers most memory (from + a) b
  unfolding numbers
  numbers_join from a zero = rw (add-zero a) (sym (append-nil (numbers most memory from a)))
  numbers_join from a (suc b) =
      let first = numbers most memory from a in
      let rest = numbers most memory (from + a) b in
      rw (add-suc a b, numbers_join from a b, add_assoc from a b) (append_assoc first rest (pixel most (get_or memory (from + (a + b)) 0)))

  -- from a memory's end on all numbers are alike
  numbers_beyond : (from n : ℕ) → length memory ≤ from → numbers most memory (length memory) n ≡ numbers most memory from n
  unfolding numbers
  numbers_beyond from zero h = refl
  numbers_beyond from (suc n) h =
      let here = get_or-eq_default memory 0 {n = length memory + n} (omega arith) in
      let there = get_or-eq_default memory 0 {n = from + n} (omega arith) in
      rw (numbers_beyond from n h, here, there)

  -- numbers from past a memory's end on are the same as those from its end on
  pub numbers_from : (from n : ℕ) → numbers most memory (min from (length memory)) n ≡ numbers most memory from n
  numbers_from from n = go (ltb from (length memory)) refl
    where
      go : (b : Bool) → ltb from (length memory) ≡ b → numbers most memory (min from (length memory)) n ≡ numbers most memory from n
      go true t =
          let low = ltb-true from (length memory) t in
          let e : min from (length memory) ≡ from = omega arith in
          rw e
      go false t =
          let high = ltb-false from (length memory) t in
          let e : min from (length memory) ≡ length memory = omega arith in
          rw e (numbers_beyond from n high)

module _ (most line : ℕ) (memory : List ℕ) where
  -- a row has the bytes of a pixel for each of its places
  pub length_row : (y : ℕ) → length (row_bytes most line memory y) ≡ pixel_size most * line
  unfolding row_bytes
  length_row y = length_numbers most memory (y * line) line

  -- one row more
  pub down_more : (below k : ℕ) → down most line memory below (k + 1) ≡ down most line memory below k ++ row_bytes most line memory (below - suc k)
  unfolding down
  down_more below k = rw (add-one k)

  -- k rows have k times the bytes of a row
  pub length_down : (below k : ℕ) → length (down most line memory below k) ≡ k * (pixel_size most * line)
  unfolding down
  length_down below zero = omega arith
  length_down below (suc k) =
      let row = row_bytes most line memory (below - suc k) in
      omega (arith, length-append (down most line memory below k) row, length_down below k, length_row (below - suc k), suc-mul k (pixel_size most * line))

  -- a test of the product is a test of the rows' length
  pub rows_asked : (below k room : ℕ) {answer : Bool} → answer ≡ ltb room (k * (pixel_size most * line)) → answer ≡ ltb room (length (down most line memory below k))
  rows_asked below k room e = e ∙ ap (ltb room) (sym (length_down below k))

  -- a row and those above it
  pub down_within : (below k count : ℕ) → k < count
      → length (down most line memory below k) + length (row_bytes most line memory (below - suc k)) ≤ length (down most line memory below count)
  down_within below k count h =
      omega (
        arith,
        length_down below k,
        length_down below count,
        length_row (below - suc k),
        suc-mul k (pixel_size most * line),
        mul-le-mul_right (pixel_size most * line) h,
      )

  -- pages join: the rows under `below` are the first of them, and then those under the last of these
  pub down_join : (below a b : ℕ) → down most line memory below (a + b) ≡ down most line memory below a ++ down most line memory (below - a) b
  unfolding down
  down_join below a zero = rw (add-zero a) (sym (append-nil (down most line memory below a)))
  down_join below a (suc b) =
      let row : below - suc (a + b) ≡ below - a - suc b = omega arith in
      let first = down most line memory below a in
      let rest = down most line memory (below - a) b in
      rw (add-suc a b, down_join below a b, row) (append_assoc first rest (row_bytes most line memory (below - a - suc b)))
