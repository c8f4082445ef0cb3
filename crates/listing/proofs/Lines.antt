-- How long names and lines are. Assumes nothing.
use Rattle.std.proofs.Common.{◌≡◌, ℕ, zero, suc, ◌+◌, ◌*◌, ◌/◌, ◌%◌, ◌≤◌, List, [], ◌∷◌, ◌++◌, length, get_or, take, drop, refl, suc-mul, add-one, arith, length-append, length-drop, length-take-le}
use Rattle.report.proofs.Decimal.{length_digits}
use Rattle.report.specs.Text.{last_digits}
use Rattle.listing.specs.Text.{names, name_of, placed, line, lines, listing}

-- ---- part of a text

module _ (text : List ℕ) (from count : ℕ) (h : from + count ≤ length text) where
  -- a part of a text that ends within it is as long as was asked for
  pub length_part : length (take count (drop from text)) ≡ count
  length_part = length-take-le count (drop from text) (omega (arith, length-drop from text))

-- ---- a line, and lines

-- a name has six columns
pub length_name : (word : ℕ) → length (name_of (word / 65536 % 16)) ≡ 6
unfolding name_of names
length_name word = length_part names (6 * (word / 65536 % 16)) 6 (omega arith)

-- a word with the index of its remark has 15 columns
pub length_placed : (index word : ℕ) → length (placed index word) ≡ 15
unfolding placed
length_placed index word =
    let marked = last_digits 16 5 word ++ (32 ∷ 35 ∷ 32 ∷ []) in
    let whole : length (placed index word) ≡ length (marked ++ last_digits 10 7 index) = refl in
    omega (
      arith,
      whole,
      length-append (last_digits 16 5 word) (32 ∷ 35 ∷ 32 ∷ []),
      length-append marked (last_digits 10 7 index),
      length_digits 16 5 word,
      length_digits 10 7 index,
    )

-- a line has 26 bytes, its end included
pub length_line : (index word : ℕ) → length (line index word) ≡ 26
unfolding line
length_line index word =
    let name = name_of (word / 65536 % 16) in
    let named = placed index word ++ name in
    let whole : length (line index word) ≡ length (named ++ last_digits 16 4 word ++ (10 ∷ [])) = refl in
    omega (
      arith,
      whole,
      length_placed index word,
      length-append (placed index word) name,
      length-append named (last_digits 16 4 word),
      length-append (named ++ last_digits 16 4 word) (10 ∷ []),
      length_digits 16 4 word,
      length_name word,
    )

-- no words have no lines
pub lines_none : (from : ℕ) (words : List ℕ) → lines from words 0 ≡ []
unfolding lines
lines_none from words = refl

-- one word more adds its line behind the others
pub lines_more : (from : ℕ) (words : List ℕ) (k : ℕ) → lines from words (k + 1) ≡ lines from words k ++ line (from + k) (get_or words k 0)
unfolding lines
lines_more from words k = rw (add-one k)

-- the lines of k words have 26 bytes for each of them
pub length_lines : (from : ℕ) (words : List ℕ) (k : ℕ) → length (lines from words k) ≡ k * 26
unfolding lines
length_lines from words zero = refl
length_lines from words (suc k) =
    let whole : length (lines from words (suc k)) ≡ length (lines from words k ++ line (from + k) (get_or words k 0)) = refl in
    omega (
      arith,
      whole,
      length-append (lines from words k) (line (from + k) (get_or words k 0)),
      length_lines from words k,
      length_line (from + k) (get_or words k 0),
      suc-mul k 26,
    )

-- a listing has 26 bytes for each of its words
pub length_listing : (from : ℕ) (words : List ℕ) → length (listing from words) ≡ length words * 26
unfolding listing
length_listing from words = length_lines from words (length words)
