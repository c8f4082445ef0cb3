-- How long each part of the text is. Assumes nothing.
use mathlib.Core.Path.{◌≡◌, refl, sym, ◌∙◌}
use mathlib.Core.List.{List, [], ◌∷◌, ◌++◌}
use Prim.Native.Nat.{ℕ, zero, suc, ◌+◌, ◌-◌, ◌≤◌, ◌<◌}
use native.Mathlib.Nat.{add-zero, add-suc}
use native.Mathlib.Numerals.{add-one}
use native.Mathlib.Omega.{arith}
use borrow.Author.Tests.{ne_eqb, eqb-true, eqb-false, not-true, not-false}
use mathlib.Core.Bool.{Bool, true, false, not}
use lib.Dec.{eqb}
use lib.ListN.{length, get_or, length-append}
use Rattle.report.specs.declared.place.Place.{Place}
use Rattle.report.specs.Text.{decimal, field, pair, column_of, row_of, place_of, shown, place_line, lines, named, heading, report, words_name, refusal_name, passed_name}

-- a number with the byte after it is one byte longer than its digits
pub length_field : (n after : ℕ) → length (field n after) ≡ length (decimal n) + 1
unfolding field
length_field n after = length-append (decimal n) (after ∷ [])

-- a pair is as long as its two fields
pub pair_parts : (m n after : ℕ) → length (pair m n after) ≡ length (field m 32) + length (field n after)
unfolding pair
pair_parts m n after = length-append (field m 32) (field n after)

-- a pair is as long as the digits of its two numbers, and two bytes more
pub length_pair : (m n after : ℕ) → length (pair m n after) ≡ length (decimal m) + length (decimal n) + 2
length_pair m n after = omega (arith, pair_parts m n after, length_field m 32, length_field n after)

-- a test that an I is not 0
module _ (i : ℕ) {r : Bool} (e : r ≡ not (eqb i 0)) where
  -- where it says that the place does not show, the I is 0
  pub unseen : r ≡ false → i ≡ 0
  unseen f = eqb-true i 0 (not-false (eqb i 0) (sym e ∙ f))

  -- where it says that the place shows, it is not
  pub seen : r ≡ true → i ≡ 0 → ⊥
  seen t = eqb-false i 0 (not-true (eqb i 0) (sym e ∙ t))

-- a place that shows has a line of its column, its row, its I and its Z
pub shown_lem : (p : Place) → (p.i ≡ 0 → ⊥) → shown p ≡ pair (column_of p.line p.index) (row_of p.line p.index) 32 ++ pair p.i p.z 10
shown_lem p h = rw (ne_eqb p.i 0 h)

-- that line is as long as its two pairs
pub length_shown : (p : Place) → (p.i ≡ 0 → ⊥) → length (shown p) ≡ length (pair (column_of p.line p.index) (row_of p.line p.index) 32) + length (pair p.i p.z 10)
length_shown p h = rw (shown_lem p h) (length-append (pair (column_of p.line p.index) (row_of p.line p.index) 32) (pair p.i p.z 10))

-- a place that does not show has none
pub shown_none : (p : Place) → p.i ≡ 0 → shown p ≡ []
shown_none p h = rw h

-- the first line
pub named_parts : (name : List ℕ) (n after : ℕ) → length (named name n after) ≡ length name + length (field n after)
unfolding named
named_parts name n after = length-append name (field n after)

module _ (words refusal passed : ℕ) where
  -- the first line is as long as its three names with their numbers
  pub heading_parts : length (heading words refusal passed)
      ≡ length (named words_name words 32) + length (named refusal_name refusal 32) + length (named passed_name passed 10)
  unfolding heading
  heading_parts =
      let a = named words_name words 32 in
      let b = named refusal_name refusal 32 in
      let c = named passed_name passed 10 in
      let all : length (heading words refusal passed) ≡ length (a ++ b) + length c = length-append (a ++ b) c in
      omega (arith, all, length-append a b)

  -- the first line is as long as the digits of its three numbers, and 24 bytes more
  pub length_heading : length (heading words refusal passed) ≡ length (decimal words) + length (decimal refusal) + length (decimal passed) + 24
  length_heading =
      omega (
        arith,
        heading_parts,
        named_parts words_name words 32,
        named_parts refusal_name refusal 32,
        named_parts passed_name passed 10,
        length_field words 32,
        length_field refusal 32,
        length_field passed 10,
      )

-- ---- the lines so far

module _ (line : ℕ) (im zm : List ℕ) where
  -- a place with the numbers of two memories has its line
  pub place_told : (k : ℕ) {z : ℕ} {p : Place} → z ≡ get_or zm k 0 → p ≡ place_of line k (get_or im k 0) z
      → shown p ≡ place_line line k (get_or im k 0) (get_or zm k 0)
  unfolding place_line
  place_told k e f = rw (f, e)

  -- no place has no line
  pub lines_none : lines line im zm 0 ≡ []
  unfolding lines
  lines_none = refl

  -- one place more
  pub lines_more : (n : ℕ) → lines line im zm (n + 1) ≡ lines line im zm n ++ place_line line n (get_or im n 0) (get_or zm n 0)
  unfolding lines
  lines_more n = rw (add-one n)

  -- more places make no shorter text
  lines_grow : (n k : ℕ) → length (lines line im zm n) ≤ length (lines line im zm (n + k))
  unfolding lines
  lines_grow n zero = rw (add-zero n) (omega arith)
  lines_grow n (suc k) =
      let here = place_line line (n + k) (get_or im (n + k) 0) (get_or zm (n + k) 0) in
      rw (add-suc n k) (omega (arith, lines_grow n k, length-append (lines line im zm (n + k)) here))

  -- a place and those before it
  pub lines_within : (n : ℕ) → n < length im
      → length (lines line im zm n) + length (place_line line n (get_or im n 0) (get_or zm n 0)) ≤ length (lines line im zm (length im))
  lines_within n h =
      let here = place_line line n (get_or im n 0) (get_or zm n 0) in
      let all : n + 1 + (length im - (n + 1)) ≡ length im = omega arith in
      let up = rw (lines_more n, all) at (lines_grow (n + 1) (length im - (n + 1))) in
      omega (arith, up, length-append (lines line im zm n) here)

  -- the whole text is as long as its first line and the lines of all places
  pub length_report : (words refusal passed : ℕ)
      → length (report words refusal passed line im zm) ≡ length (heading words refusal passed) + length (lines line im zm (length im))
  unfolding report
  length_report words refusal passed = length-append (heading words refusal passed) (lines line im zm (length im))
