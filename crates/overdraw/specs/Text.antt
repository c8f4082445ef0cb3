-- The lines of the report (document 02, [11]), in columns: bytes in ASCII, of which 32 is a blank and 10 ends a line.
--   file  kind     figures         offered          passed          hidden percent
--   000   gouraud        7            3668            3668               0       0
use Rattle.std.specs.Prelude.{ℕ, zero, suc, ◌+◌, ◌*◌, ◌/◌, ◌%◌, cond, List, [], ◌∷◌, ◌++◌, eqb}
use Rattle.tally.specs.declared.Count.{Count}
use Rattle.tally.specs.declared.Tally.{Tally}
use Rattle.tally.specs.Overdraw.{Entered}

-- ---- numbers

-- the last digit of a number, or a blank where nothing is left of it
unfoldable pub glyph : ℕ → ℕ
glyph n = cond (eqb n 0) 32 (48 + n % 10)

-- a number in k columns, as it stands in front of another digit: nothing is left of 0
unfoldable pub front : ℕ → ℕ → List ℕ
front zero n = []
front (suc k) n = front k (n / 10) ++ (glyph n ∷ [])

-- a number in k columns, at the right, blanks in front; of a number with more digits the last k
unfoldable pub columns : ℕ → ℕ → List ℕ
columns zero n = []
columns (suc k) n = front k (n / 10) ++ ((48 + n % 10) ∷ [])

-- the hidden pixels of a hundred that are offered, rounded down; 0 where none is offered
unfoldable pub percent_of : Count → ℕ
percent_of c = c.hidden * 100 / c.offered

-- ---- names

-- a file's name is its number in three digits; with it three blanks, as names have six columns
abbrev pub name_of : ℕ → List ℕ
name_of k = (48 + k / 100 % 10) ∷ (48 + k / 10 % 10) ∷ (48 + k % 10) ∷ 32 ∷ 32 ∷ 32 ∷ []

-- `total`
abbrev pub total_name : List ℕ
total_name = 116 ∷ 111 ∷ 116 ∷ 97 ∷ 108 ∷ 32 ∷ []

-- the kinds, in eight columns: `gouraud`, `constant`, `line0`, `line1`, `line2`
abbrev pub gouraud_name : List ℕ
gouraud_name = 103 ∷ 111 ∷ 117 ∷ 114 ∷ 97 ∷ 117 ∷ 100 ∷ 32 ∷ []

-- the name `constant` fills the eight columns
abbrev pub constant_name : List ℕ
constant_name = 99 ∷ 111 ∷ 110 ∷ 115 ∷ 116 ∷ 97 ∷ 110 ∷ 116 ∷ []

-- the name `line0` has three blanks behind it
abbrev pub line0_name : List ℕ
line0_name = 108 ∷ 105 ∷ 110 ∷ 101 ∷ 48 ∷ 32 ∷ 32 ∷ 32 ∷ []

-- the name `line1` has three blanks behind it
abbrev pub line1_name : List ℕ
line1_name = 108 ∷ 105 ∷ 110 ∷ 101 ∷ 49 ∷ 32 ∷ 32 ∷ 32 ∷ []

-- the name `line2` has three blanks behind it
abbrev pub line2_name : List ℕ
line2_name = 108 ∷ 105 ∷ 110 ∷ 101 ∷ 50 ∷ 32 ∷ 32 ∷ 32 ∷ []

-- `refusal` and `too long` stand where a kind would
abbrev pub refusal_name : List ℕ
refusal_name = 114 ∷ 101 ∷ 102 ∷ 117 ∷ 115 ∷ 97 ∷ 108 ∷ 32 ∷ []

-- the words `too long` fill the eight columns of a kind
abbrev pub too_long_name : List ℕ
too_long_name = 116 ∷ 111 ∷ 111 ∷ 32 ∷ 108 ∷ 111 ∷ 110 ∷ 103 ∷ []

-- ---- lines

-- the names of the columns, each in its columns, a row for each
unfoldable pub heading : List ℕ
heading =
    102 ∷ 105 ∷ 108 ∷ 101 ∷ 32 ∷ 32  -- file
    ∷ 107 ∷ 105 ∷ 110 ∷ 100 ∷ 32 ∷ 32 ∷ 32 ∷ 32  -- kind
    ∷ 32 ∷ 102 ∷ 105 ∷ 103 ∷ 117 ∷ 114 ∷ 101 ∷ 115  -- figures
    ∷ 32 ∷ 32 ∷ 32 ∷ 32 ∷ 32 ∷ 32 ∷ 32 ∷ 32 ∷ 32 ∷ 111 ∷ 102 ∷ 102 ∷ 101 ∷ 114 ∷ 101 ∷ 100  -- offered
    ∷ 32 ∷ 32 ∷ 32 ∷ 32 ∷ 32 ∷ 32 ∷ 32 ∷ 32 ∷ 32 ∷ 32 ∷ 112 ∷ 97 ∷ 115 ∷ 115 ∷ 101 ∷ 100  -- passed
    ∷ 32 ∷ 32 ∷ 32 ∷ 32 ∷ 32 ∷ 32 ∷ 32 ∷ 32 ∷ 32 ∷ 32 ∷ 104 ∷ 105 ∷ 100 ∷ 100 ∷ 101 ∷ 110  -- hidden
    ∷ 32 ∷ 112 ∷ 101 ∷ 114 ∷ 99 ∷ 101 ∷ 110 ∷ 116  -- percent
    ∷ 10 ∷ []

-- the four numbers of a count, and the share that is hidden
unfoldable pub numbers : Count → List ℕ
numbers c = columns 8 c.figures ++ columns 16 c.offered ++ columns 16 c.passed ++ columns 16 c.hidden ++ columns 8 (percent_of c)

-- the line of a kind
unfoldable pub count_line : List ℕ → List ℕ → Count → List ℕ
count_line name kind c = name ++ kind ++ numbers c ++ (10 ∷ [])

-- a line a kind
unfoldable pub tally_lines : List ℕ → Tally → List ℕ
tally_lines name t =
    count_line name gouraud_name t.gouraud ++ count_line name constant_name t.constant ++ count_line name line0_name t.line0 ++ count_line name line1_name t.line1
    ++ count_line name line2_name t.line2

-- the line of a refusal; none for 0
unfoldable pub refusal_line : List ℕ → ℕ → List ℕ
refusal_line name n = cond (eqb n 0) [] (name ++ refusal_name ++ columns 8 n ++ (10 ∷ []))

-- the line of a recording that is too long
unfoldable pub too_long_line : List ℕ → List ℕ
too_long_line name = name ++ too_long_name ++ (10 ∷ [])

-- the lines of a recording: that it is too long, or a line a kind and its refusal
unfoldable pub entry_lines : List ℕ → Entered → List ℕ
entry_lines name e = cond e.long (too_long_line name) (tally_lines name e.tally ++ refusal_line name e.refusal)
