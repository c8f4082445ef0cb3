-- The text of a run (document 01, "Examples", the drawing program): bytes in ASCII, of which 32 is a space and 10 ends a line.
use Rattle.std.specs.Prelude.{ℕ, zero, suc, ◌+◌, ◌/◌, ◌%◌, Bool, cond, ◌&&◌, List, [], ◌∷◌, ◌++◌, length, get_or, ltb, leb, eqb}
use Rattle.report.specs.declared.number.Base.{Base}
use Rattle.report.specs.declared.number.Base.TheVariants.{Ten, Sixteen}
use Rattle.report.specs.declared.place.Place.{Place}

-- ---- numbers

-- the digits of a number of at most k digits, the most significant first
unfoldable pub digits : ℕ → ℕ → List ℕ
digits zero n = []
digits (suc k) n = cond (ltb n 10) [] (digits k (n / 10)) ++ ((48 + n % 10) ∷ [])

-- a number in decimal, no zero in front: no number n has more than n + 1 digits
unfoldable pub decimal : ℕ → List ℕ
decimal n = digits (suc n) n

-- a number, and the byte after it
unfoldable pub field : ℕ → ℕ → List ℕ
field n after = decimal n ++ (after ∷ [])

-- a digit's character: 0 to 9, then A to F
unfoldable pub glyph : ℕ → ℕ
glyph d = cond (ltb d 10) (48 + d) (55 + d)

-- the last k digits of a number in a base, the most significant first
unfoldable pub last_digits : ℕ → ℕ → ℕ → List ℕ
last_digits base zero n = []
last_digits base (suc k) n = last_digits base k (n / base) ++ (glyph (n % base) ∷ [])

-- the bases that have digits, and a character for each: 1 to 16
abbrev pub is_base : ℕ → Bool
is_base base = ltb 0 base && leb base 16

-- the last k digits of a number in such a base; in another there are none
unfoldable pub digits_in : ℕ → ℕ → ℕ → List ℕ
digits_in base k n = cond (is_base base) (last_digits base k n) []

-- a base, as a number
abbrev pub radix : Base → ℕ
radix Ten = 10
radix Sixteen = 16

-- ---- the places that show

-- two numbers, a space between them, and the byte after them
unfoldable pub pair : ℕ → ℕ → ℕ → List ℕ
pair m n after = field m 32 ++ field n after

-- a place's column is the place mod the line length, and its row the place div the line length; with a line length of 0 all is row 0
abbrev pub column_of : ℕ → ℕ → ℕ
column_of line place = place % line

-- a place's row is the place div the line length
abbrev pub row_of : ℕ → ℕ → ℕ
row_of line place = place / line

-- a place, by the line length and its index, and its numbers
abbrev pub place_of : ℕ → ℕ → ℕ → ℕ → Place
place_of line place i z = record { line = line; index = place; i = i; z = z }

-- the line of a place that is so given: column, row, I and Z; none where I is 0
abbrev pub shown : Place → List ℕ
shown p = cond (eqb p.i 0) [] (pair (column_of p.line p.index) (row_of p.line p.index) 32 ++ pair p.i p.z 10)

-- the line of a place
unfoldable pub place_line : ℕ → ℕ → ℕ → ℕ → List ℕ
place_line line place i z = shown (place_of line place i z)

-- the lines of the first n places, places rising; past its end a memory holds 0
unfoldable pub lines : ℕ → List ℕ → List ℕ → ℕ → List ℕ
lines line im zm zero = []
lines line im zm (suc n) = lines line im zm n ++ place_line line n (get_or im n 0) (get_or zm n 0)

-- ---- the whole text

-- a name, its number, and the byte after it
unfoldable pub named : List ℕ → ℕ → ℕ → List ℕ
named name n after = name ++ field n after

-- the names of the three numbers, each with a space: `words `, `refusal `, `passed `
abbrev pub words_name : List ℕ
words_name = 119 ∷ 111 ∷ 114 ∷ 100 ∷ 115 ∷ 32 ∷ []

-- the second is `refusal `, before the number that refused a word, or 0
abbrev pub refusal_name : List ℕ
refusal_name = 114 ∷ 101 ∷ 102 ∷ 117 ∷ 115 ∷ 97 ∷ 108 ∷ 32 ∷ []

-- the third is `passed `, before the number of pixels that passed
abbrev pub passed_name : List ℕ
passed_name = 112 ∷ 97 ∷ 115 ∷ 115 ∷ 101 ∷ 100 ∷ 32 ∷ []

-- the first line: what came of the run
unfoldable pub heading : ℕ → ℕ → ℕ → List ℕ
heading words refusal passed = named words_name words 32 ++ named refusal_name refusal 32 ++ named passed_name passed 10

-- the first line, and a line for each place of the I memory that shows
unfoldable pub report : ℕ → ℕ → ℕ → ℕ → List ℕ → List ℕ → List ℕ
report words refusal passed line im zm = heading words refusal passed ++ lines line im zm (length im)
