-- A word with what the machine made of it, as text: the line that `list` prints of it and, in the same remark, what it means, which of its
-- subcommand's parameters it is and of how many, the number that refuses it or 0, and how many pixels passed.
--   D2000 # 0000003 PARM 2000 WINDOW     2/5 00 0000000
-- With a pixel, its I and Z before and after the word come behind that. Each number has as many digits as its columns, zeros in front.
use Rattle.std.specs.Prelude.{ℕ, ◌*◌, ◌/◌, ◌%◌, cond, List, [], ◌∷◌, ◌++◌, take, drop, ◌==◌}
use Rattle.listing.specs.declared.trace.Meaning.{Meaning}
use Rattle.listing.specs.declared.trace.Traced.{Traced}
use Rattle.listing.specs.declared.trace.Numbers.{Numbers}
use Rattle.report.specs.Text.{last_digits}
use Rattle.listing.specs.Text.{name_of, placed}

-- ---- what a word means

-- the meanings, each in twelve columns, a row for each: AUX 0 to 12 by their names, 13 nothing, IMG to memory and from memory; the kinds of figures that
-- a vertex completes; the figures that one opens; and the other words
unfoldable pub meanings : List ℕ
meanings =
    32 ∷ 80 ∷ 77 ∷ 79 ∷ 68 ∷ 69 ∷ 32 ∷ 32 ∷ 32 ∷ 32 ∷ 32 ∷ 32  -- 0: PMODE
    ∷ 32 ∷ 76 ∷ 77 ∷ 79 ∷ 68 ∷ 69 ∷ 32 ∷ 32 ∷ 32 ∷ 32 ∷ 32 ∷ 32  -- 1: LMODE
    ∷ 32 ∷ 73 ∷ 77 ∷ 79 ∷ 68 ∷ 69 ∷ 32 ∷ 32 ∷ 32 ∷ 32 ∷ 32 ∷ 32  -- 2: IMODE
    ∷ 32 ∷ 90 ∷ 67 ∷ 79 ∷ 78 ∷ 84 ∷ 82 ∷ 79 ∷ 76 ∷ 32 ∷ 32 ∷ 32  -- 3: ZCONTROL
    ∷ 32 ∷ 72 ∷ 67 ∷ 79 ∷ 78 ∷ 84 ∷ 82 ∷ 79 ∷ 76 ∷ 32 ∷ 32 ∷ 32  -- 4: HCONTROL
    ∷ 32 ∷ 84 ∷ 80 ∷ 65 ∷ 84 ∷ 84 ∷ 69 ∷ 82 ∷ 78 ∷ 32 ∷ 32 ∷ 32  -- 5: TPATTERN
    ∷ 32 ∷ 87 ∷ 73 ∷ 78 ∷ 68 ∷ 79 ∷ 87 ∷ 32 ∷ 32 ∷ 32 ∷ 32 ∷ 32  -- 6: WINDOW
    ∷ 32 ∷ 83 ∷ 69 ∷ 67 ∷ 84 ∷ 73 ∷ 79 ∷ 78 ∷ 32 ∷ 32 ∷ 32 ∷ 32  -- 7: SECTION
    ∷ 32 ∷ 67 ∷ 79 ∷ 76 ∷ 79 ∷ 82 ∷ 32 ∷ 32 ∷ 32 ∷ 32 ∷ 32 ∷ 32  -- 8: COLOR
    ∷ 32 ∷ 76 ∷ 80 ∷ 65 ∷ 84 ∷ 84 ∷ 69 ∷ 82 ∷ 78 ∷ 32 ∷ 32 ∷ 32  -- 9: LPATTERN
    ∷ 32 ∷ 77 ∷ 65 ∷ 83 ∷ 75 ∷ 32 ∷ 32 ∷ 32 ∷ 32 ∷ 32 ∷ 32 ∷ 32  -- 10: MASK
    ∷ 32 ∷ 117 ∷ 110 ∷ 109 ∷ 111 ∷ 100 ∷ 101 ∷ 108 ∷ 108 ∷ 101 ∷ 100 ∷ 32  -- 11: unmodelled
    ∷ 32 ∷ 76 ∷ 83 ∷ 84 ∷ 65 ∷ 84 ∷ 85 ∷ 83 ∷ 32 ∷ 32 ∷ 32 ∷ 32  -- 12: LSTATUS
    ∷ 32 ∷ 110 ∷ 111 ∷ 116 ∷ 104 ∷ 105 ∷ 110 ∷ 103 ∷ 32 ∷ 32 ∷ 32 ∷ 32  -- 13: nothing
    ∷ 32 ∷ 108 ∷ 111 ∷ 97 ∷ 100 ∷ 32 ∷ 32 ∷ 32 ∷ 32 ∷ 32 ∷ 32 ∷ 32  -- 14: load
    ∷ 32 ∷ 115 ∷ 97 ∷ 118 ∷ 101 ∷ 32 ∷ 32 ∷ 32 ∷ 32 ∷ 32 ∷ 32 ∷ 32  -- 15: save
    ∷ 32 ∷ 103 ∷ 111 ∷ 117 ∷ 114 ∷ 97 ∷ 117 ∷ 100 ∷ 32 ∷ 32 ∷ 32 ∷ 32  -- 16: gouraud
    ∷ 32 ∷ 99 ∷ 111 ∷ 110 ∷ 115 ∷ 116 ∷ 97 ∷ 110 ∷ 116 ∷ 32 ∷ 32 ∷ 32  -- 17: constant
    ∷ 32 ∷ 108 ∷ 105 ∷ 110 ∷ 101 ∷ 48 ∷ 32 ∷ 32 ∷ 32 ∷ 32 ∷ 32 ∷ 32  -- 18: line0
    ∷ 32 ∷ 108 ∷ 105 ∷ 110 ∷ 101 ∷ 49 ∷ 32 ∷ 32 ∷ 32 ∷ 32 ∷ 32 ∷ 32  -- 19: line1
    ∷ 32 ∷ 108 ∷ 105 ∷ 110 ∷ 101 ∷ 50 ∷ 32 ∷ 32 ∷ 32 ∷ 32 ∷ 32 ∷ 32  -- 20: line2
    ∷ 32 ∷ 115 ∷ 116 ∷ 114 ∷ 105 ∷ 112 ∷ 32 ∷ 32 ∷ 32 ∷ 32 ∷ 32 ∷ 32  -- 21: strip
    ∷ 32 ∷ 102 ∷ 97 ∷ 110 ∷ 32 ∷ 32 ∷ 32 ∷ 32 ∷ 32 ∷ 32 ∷ 32 ∷ 32  -- 22: fan
    ∷ 32 ∷ 108 ∷ 105 ∷ 110 ∷ 101 ∷ 32 ∷ 32 ∷ 32 ∷ 32 ∷ 32 ∷ 32 ∷ 32  -- 23: line
    ∷ 32 ∷ 115 ∷ 116 ∷ 97 ∷ 114 ∷ 116 ∷ 32 ∷ 32 ∷ 32 ∷ 32 ∷ 32 ∷ 32  -- 24: start
    ∷ 32 ∷ 105 ∷ 110 ∷ 116 ∷ 101 ∷ 110 ∷ 115 ∷ 105 ∷ 116 ∷ 121 ∷ 32 ∷ 32  -- 25: intensity
    ∷ 32 ∷ 100 ∷ 101 ∷ 112 ∷ 116 ∷ 104 ∷ 32 ∷ 32 ∷ 32 ∷ 32 ∷ 32 ∷ 32  -- 26: depth
    ∷ 32 ∷ 114 ∷ 111 ∷ 119 ∷ 32 ∷ 32 ∷ 32 ∷ 32 ∷ 32 ∷ 32 ∷ 32 ∷ 32  -- 27: row
    ∷ 32 ∷ 112 ∷ 105 ∷ 120 ∷ 101 ∷ 108 ∷ 73 ∷ 32 ∷ 32 ∷ 32 ∷ 32 ∷ 32  -- 28: pixelI
    ∷ 32 ∷ 112 ∷ 105 ∷ 120 ∷ 101 ∷ 108 ∷ 90 ∷ 32 ∷ 32 ∷ 32 ∷ 32 ∷ 32  -- 29: pixelZ
    ∷ 32 ∷ 114 ∷ 101 ∷ 115 ∷ 101 ∷ 114 ∷ 118 ∷ 101 ∷ 100 ∷ 32 ∷ 32 ∷ 32  -- 30: reserved
    ∷ 32 ∷ 117 ∷ 110 ∷ 107 ∷ 110 ∷ 111 ∷ 119 ∷ 110 ∷ 32 ∷ 32 ∷ 32 ∷ 32 ∷ []  -- 31: unknown

-- a row of them, with a blank on both sides
unfoldable pub meaning_name : ℕ → List ℕ
meaning_name row = take 12 (drop (12 * (row % 32)) meanings)

-- which of how many parameters: `2/5`, `0/5` while none has come, and `-` where there are none
unfoldable pub share : ℕ → ℕ → List ℕ
share came wanted = cond (wanted == 0) (45 ∷ 32 ∷ 32 ∷ []) (last_digits 10 1 came ++ (47 ∷ []) ++ last_digits 10 1 wanted)

-- what a word means, and behind it which of how many parameters the word is
unfoldable pub meaning_text : Meaning → List ℕ
meaning_text m = meaning_name m.row ++ share m.came m.wanted

-- ---- lines

-- a blank, and a number of so many digits
unfoldable pub number_text : ℕ → ℕ → List ℕ
number_text count n = (32 ∷ []) ++ last_digits 10 count n

-- the number that refuses a word, and how many pixels passed
unfoldable pub answer_text : ℕ → ℕ → List ℕ
answer_text refusal passed = number_text 2 refusal ++ number_text 7 passed

-- a word with what the machine made of it
unfoldable pub traced_text : Traced → List ℕ
traced_text t =
    placed t.index t.word ++ name_of (t.word / 65536 % 16) ++ last_digits 16 4 t.word ++ meaning_text t.meaning ++ answer_text t.refusal t.passed

-- the two numbers of a pixel
unfoldable pub numbers_text : Numbers → List ℕ
numbers_text n = number_text 5 n.i ++ number_text 5 n.z

-- the line of a word
unfoldable pub trace_line : Traced → List ℕ
trace_line t = traced_text t ++ (10 ∷ [])

-- the line of a word with a pixel's numbers before and after it
unfoldable pub watch_line : Traced → Numbers → Numbers → List ℕ
watch_line t before after = traced_text t ++ numbers_text before ++ numbers_text after ++ (10 ∷ [])
