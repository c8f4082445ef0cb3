-- A recording as text: a line for each word, with the word in hexadecimal and, as a remark, its index, the command's name and the data.
--   F0000 # 0000000 INIT 0000
-- Bytes are in ASCII, of which 32 is a space, 35 is # and 10 ends a line.
use Rattle.std.specs.Prelude.{ℕ, zero, suc, ◌+◌, ◌*◌, ◌/◌, ◌%◌, List, [], ◌∷◌, ◌++◌, length, take, drop, slice_index}
use Rattle.report.specs.Text.{last_digits}

-- the names of the commands 0 to F hex (the sheet's table of commands), each in six columns, a row for each
unfoldable pub names : List ℕ
names =
    32 ∷ 80 ∷ 84 ∷ 82 ∷ 78 ∷ 32  -- 0: PTRN
    ∷ 32 ∷ 73 ∷ 32 ∷ 32 ∷ 32 ∷ 32  -- 1: I
    ∷ 32 ∷ 90 ∷ 32 ∷ 32 ∷ 32 ∷ 32  -- 2: Z
    ∷ 32 ∷ 89 ∷ 32 ∷ 32 ∷ 32 ∷ 32  -- 3: Y
    ∷ 32 ∷ 88 ∷ 32 ∷ 32 ∷ 32 ∷ 32  -- 4: X
    ∷ 32 ∷ 84 ∷ 49 ∷ 88 ∷ 32 ∷ 32  -- 5: T1X
    ∷ 32 ∷ 84 ∷ 50 ∷ 88 ∷ 32 ∷ 32  -- 6: T2X
    ∷ 32 ∷ 82 ∷ 83 ∷ 86 ∷ 68 ∷ 32  -- 7: reserved: RSVD
    ∷ 32 ∷ 76 ∷ 88 ∷ 32 ∷ 32 ∷ 32  -- 8: LX
    ∷ 32 ∷ 73 ∷ 77 ∷ 71 ∷ 32 ∷ 32  -- 9: IMG
    ∷ 32 ∷ 65 ∷ 68 ∷ 68 ∷ 82 ∷ 32  -- A: ADDR
    ∷ 32 ∷ 80 ∷ 88 ∷ 32 ∷ 32 ∷ 32  -- B: PX
    ∷ 32 ∷ 82 ∷ 83 ∷ 86 ∷ 68 ∷ 32  -- C: reserved: RSVD
    ∷ 32 ∷ 80 ∷ 65 ∷ 82 ∷ 77 ∷ 32  -- D: PARM
    ∷ 32 ∷ 65 ∷ 85 ∷ 88 ∷ 32 ∷ 32  -- E: AUX
    ∷ 32 ∷ 73 ∷ 78 ∷ 73 ∷ 84 ∷ 32 ∷ []  -- F: INIT

-- the name of a command, with a blank on both sides
unfoldable pub name_of : ℕ → List ℕ
name_of command = take 6 (drop (6 * command) names)

-- a word, and the index that its remark begins with
unfoldable pub placed : ℕ → ℕ → List ℕ
placed index word = last_digits 16 5 word ++ (32 ∷ 35 ∷ 32 ∷ []) ++ last_digits 10 7 index

-- the line of the word with an index
unfoldable pub line : ℕ → ℕ → List ℕ
line index word = placed index word ++ name_of (word / 65536 % 16) ++ last_digits 16 4 word ++ (10 ∷ [])

-- the lines of the first n words, the first of which has the index `from`
unfoldable pub lines : ℕ → List ℕ → ℕ → List ℕ
lines from words zero = []
lines from words (suc n) = lines from words n ++ line (from + n) (slice_index words n)

-- the lines of all words
unfoldable pub listing : ℕ → List ℕ → List ℕ
listing from words = lines from words (length words)
