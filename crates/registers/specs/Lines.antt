-- The line lengths that INIT may choose (document 01, "Registers", the table of 36 codes).
use Rattle.std.specs.Prelude.{ℕ, ◌+◌, ◌-◌, ◌/◌, ◌%◌, cond, ◌&&◌, List, [], ◌∷◌, leb, ltb, length, get_or}

-- the shortest line length that is listed
abbrev pub shortest_line : ℕ
shortest_line = 256

-- the longest line length that is listed
abbrev pub longest_line : ℕ
longest_line = 8768

-- what all line lengths that are listed are multiples of
abbrev pub line_unit : ℕ
line_unit = 64

-- the largest page code
abbrev pub largest_page : ℕ
largest_page = 7

-- codes from `first` on have these lengths; any other code is looked for in the rest
abbrev pub from : ℕ → ℕ → List ℕ → ℕ → ℕ
from code first lengths rest = cond (leb first code && ltb code (first + length lengths)) (get_or lengths (code - first) 0) rest

-- the line length of a code; 0 for one that is not listed
unfoldable pub line_of : ℕ → ℕ
line_of code =
    from code 0 (256 ∷ 320 ∷ 384 ∷ 448 ∷ 512 ∷ 576 ∷ 640 ∷ 704 ∷ [])
    (from code 8 (1024 ∷ 1088 ∷ 1152 ∷ 1216 ∷ [])
    (from code 12 (2048 ∷ 2112 ∷ 2176 ∷ 2240 ∷ [])
    (from code 18 (768 ∷ 832 ∷ [])
    (from code 22 (1280 ∷ 1344 ∷ [])
    (from code 26 (2304 ∷ 2368 ∷ [])
    (from code 28 (4096 ∷ 4160 ∷ 4352 ∷ 4416 ∷ [])
    (from code 34 (1536 ∷ 1600 ∷ [])
    (from code 38 (2560 ∷ 2624 ∷ [])
    (from code 42 (4608 ∷ 4672 ∷ 8192 ∷ 8256 ∷ 8704 ∷ 8768 ∷ []) 0)))))))))

-- bits 13 to 8 of INIT's data are the line length code
abbrev pub code_in : ℕ → ℕ
code_in d = d / 256 % 64

-- bits 7 and 6 of INIT's data are the code of the number of chips
abbrev pub chips_in : ℕ → ℕ
chips_in d = d / 64 % 4

-- bits 5 and 4 of INIT's data are the unit
abbrev pub unit_in : ℕ → ℕ
unit_in d = d / 16 % 4

-- bits 3 to 0 of INIT's data are the page code
abbrev pub page_in : ℕ → ℕ
page_in d = d % 16
