-- Text as words: words of five hexadecimal digits, in capital or small letters, with spaces, tabs or line ends between them; from # to the
-- line's end stands a remark. A line ends with 10, 13 and 10, or 13 alone; lines are counted by 10. It is read byte by byte, so that a text may
-- come in pieces. The words are stored from the front of a lent buffer on.
use Rattle.std.specs.Prelude.{ℕ, ◌+◌, ◌-◌, ◌*◌, ◌%◌, ◌^◌, Bool, cond, ◌||◌, List, length, take, ◌==◌, nat_lt, slice_set}
use mathlib.Core.List.{foldl}
use Rattle.listing.specs.declared.read.Reader.{Reader}
use Rattle.listing.specs.declared.read.Mood.{Mood}
use Rattle.listing.specs.declared.read.Mood.TheVariants.{Words, Remark, NotWord, NoRoom}

-- a reader, by its parts: the mood, the digits that have come as a number and how many they are, the words stored, and the line
abbrev pub reader : Mood → ℕ → ℕ → ℕ → ℕ → Reader
reader mood value count held line = record { mood = mood; value = value; digits = count; held = held; line = line }

-- how far reading has come: its reader, and the lent buffer
pub record Reading : Type 0 where
  pub reader : Reader
  pub words : List ℕ

-- a reading, by its parts: the reader, and the lent buffer
abbrev pub reading : Reader → List ℕ → Reading
reading r ws = record { reader = r; words = ws }

-- ---- bytes

-- the digit that a byte is, or 16: 0 to 9, A to F, a to f
unfoldable pub digit_of : ℕ → ℕ
digit_of b =
    cond (nat_lt b 48) 16 (cond (nat_lt b 58) (b - 48) (cond (nat_lt b 65) 16 (cond (nat_lt b 71) (b - 55) (cond (nat_lt b 97) 16 (cond (nat_lt b 103) (b - 87) 16)))))

-- whether a byte ends a word: a space, a tab, a line's end (10, or 13 and 10), or the # of a remark
unfoldable pub is_end : ℕ → Bool
is_end b = b == 32 || b == 9 || b == 13 || b == 10 || b == 35

-- ---- one byte

-- the same reader, in another mood
abbrev pub in_mood : Mood → Reader → Reader
in_mood mood r = reader mood r.value r.digits r.held r.line

-- a digit more: a word has five
unfoldable pub grown : Reader → ℕ → Reader
grown r d =
    cond (nat_lt r.digits 5) (reader r.mood (r.value % 65536 * 16 + d) (r.digits + 1) r.held r.line) (in_mood NotWord r)

-- the word that has begun, stored at the next place, if there is room
unfoldable pub stored : Reading → Reading
stored s =
    cond (nat_lt s.reader.held (length s.words))
    (reading (reader Words 0 0 (s.reader.held + 1) s.reader.line) (slice_set s.words s.reader.held s.reader.value))
    (reading (in_mood NoRoom s.reader) s.words)

-- a word's end: five digits are a word, no digits are nothing, and any other number of digits is no word
unfoldable pub closed : Reading → Reading
closed s =
    cond (s.reader.digits == 0) s (cond (s.reader.digits == 5) (stored s) (reading (in_mood NotWord s.reader) s.words))

-- the next line
abbrev pub lined : Reader → Reader
lined r = reader Words r.value r.digits r.held ((r.line + 1) % 2 ^ 64)

-- a byte that ends words: # starts a remark, and 10 ends the line
unfoldable pub passed : Reader → ℕ → Reader
passed r b = cond (b == 35) (in_mood Remark r) (cond (b == 10) (lined r) r)

-- the same, unless there was no word or no room
abbrev pub passed_in : Mood → Reader → ℕ → Reader
passed_in Words r b = passed r b
passed_in Remark r b = r
passed_in NotWord r b = r
passed_in NoRoom r b = r

-- the byte behind a word
unfoldable pub ended : Reading → ℕ → Reading
ended s b = reading (passed_in s.reader.mood s.reader b) s.words

-- a byte outside of remarks
unfoldable pub in_words : Reading → ℕ → Reading
in_words s b =
    cond (nat_lt (digit_of b) 16) (reading (grown s.reader (digit_of b)) s.words)
    (cond (is_end b) (ended (closed s) b) (reading (in_mood NotWord s.reader) s.words))

-- a byte of a remark: 10 ends it and the line, and 13 ends it, be it before 10 or alone
unfoldable pub remarked : Reader → ℕ → Reader
remarked r b = cond (b == 10) (lined r) (cond (b == 13) (in_mood Words r) r)

-- a byte, by the mood; where the text is no text of words, or there is no room, reading stays where it stands
abbrev pub taking : Mood → Reading → ℕ → Reading
taking Words s b = in_words s b
taking Remark s b = reading (remarked s.reader b) s.words
taking NotWord s b = s
taking NoRoom s b = s

-- one byte more
unfoldable pub taken : Reading → ℕ → Reading
taken s b = taking s.reader.mood s b

-- ---- a text

-- before the first byte
abbrev pub at_start : Reader
at_start = reader Words 0 0 0 1

-- a text more. A word is stored when the byte behind it comes, so that a whole text ends with a line's end or a blank
unfoldable pub read_on : Reading → List ℕ → Reading
read_on s text = foldl taken s text

-- the words that were read
unfoldable pub words_in : Reading → List ℕ
words_in s = take s.reader.held s.words
