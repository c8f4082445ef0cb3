-- What each call on packed streams tells and leaves, for every input (document 01, "Numbers that come back": 1, 11, 12 and 13).
use Rattle.std.specs.Prelude.{ℕ, ◌+◌, ◌-◌, ◌%◌, ◌^◌, List, ◌++◌, Bool, cond, not, ◌&&◌, ◌||◌, length, get_or, drop, ltb, eqb, Result, Ok, Err}
use Rattle.ground.specs.Refusal.{told}
use Rattle.ground.specs.declared.Refusal.{Refusal}
use Rattle.stream.specs.Format.{fit, unpack_of, pack_of, word_at}

-- ---- the numbers

-- 11: the packed length mod 5 is 1, 2 or 4
unfoldable pub bad_length : List ℕ → Bool
bad_length bytes = eqb (length bytes % 5) 1 || eqb (length bytes % 5) 2 || eqb (length bytes % 5) 4

-- 12: the last half byte of an odd stream is not 0 (1 + 2 j words are 3 + 5 j bytes)
unfoldable pub bad_tail : List ℕ → Bool
bad_tail bytes = eqb (length bytes % 5) 3 && not (eqb (get_or bytes (length bytes - 1) 0 % 16) 0)

-- a stream's checks, 11 and then 12; past both, what the next check tells
unfoldable pub checked : List ℕ → ℕ → ℕ
checked bytes next = cond (bad_length bytes) 11 (cond (bad_tail bytes) 12 next)

-- 13: the lent output is too short for the result
unfoldable pub no_room : List ℕ → List ℕ → ℕ
no_room result out = cond (ltb (length out) (length result)) 13 0

-- ---- the two calls that write

-- what such a call comes to: the number and the length that it tells, and what it leaves in the lent output
pub record Outcome : Type 0 where
  pub refusal : ℕ
  pub size : ℕ
  pub left : List ℕ

-- the result stands at the front, and the places beyond are untouched
unfoldable pub over : List ℕ → List ℕ → List ℕ
over result out = result ++ drop (length result) out

-- a success tells the result's length
abbrev pub written : List ℕ → List ℕ → Outcome
written result out = record { refusal = 0; size = length result; left = over result out }

-- a refusal tells its number and length 0, and leaves the output untouched
abbrev pub refused : ℕ → List ℕ → Outcome
refused number out = record { refusal = number; size = 0; left = out }

-- what comes of a call that its checks refuse with a number, or do not refuse where that is 0
unfoldable pub concluded : ℕ → List ℕ → List ℕ → Outcome
concluded number result out = cond (eqb number 0) (written result out) (refused number out)

-- unpacking checks 11, 12, 13
unfoldable pub unpacking : List ℕ → List ℕ → Outcome
unpacking bytes out = concluded (checked bytes (no_room (unpack_of bytes) out)) (unpack_of bytes) out

-- packing checks 1 (a word of more than 20 bits), then 13
unfoldable pub packing : List ℕ → List ℕ → Outcome
packing words out = concluded (cond (fit 20 words) (no_room (pack_of words) out) 1) (pack_of words) out

-- the number that an answer of the code stands for: 0 for a success
abbrev pub coded_number : Result ℕ Refusal → ℕ
coded_number answer = told answer

-- the length that an answer stands for is the result's for a success, and 0 for every refusal
abbrev pub size_of : Result ℕ Refusal → ℕ
size_of (Ok n) = n
size_of (Err refusal) = 0

-- an answer, with what the call left
abbrev pub coded_told : Result ℕ Refusal → List ℕ → Outcome
coded_told answer left = record { refusal = coded_number answer; size = size_of answer; left = left }

-- ---- the entries for C

-- a value, or 2 ^ 63 plus the refusal number
unfoldable pub entry : ℕ → ℕ → ℕ
entry number value = cond (eqb number 0) value (2 ^ 63 + number)

-- how many words a stream holds: checks 11, 12
unfoldable pub word_count : List ℕ → ℕ
word_count bytes = entry (checked bytes 0) (length (unpack_of bytes))

-- which word stands at place k, counted from 0: checks 11, 12, and 13 past the last word
unfoldable pub word_entry : List ℕ → ℕ → ℕ
word_entry bytes k = entry (checked bytes (cond (ltb k (length (unpack_of bytes))) 0 13)) (word_at bytes k)

-- an answer, and what the call left in the memory that was lent for it
pub record Answer : Type 0 where
  pub told : ℕ
  pub left : List ℕ

-- the answer that tells a number, with what the call left
abbrev pub answer : ℕ → List ℕ → Answer
answer told left = record { told = told; left = left }

-- packing and unpacking as entries give them: the length that was written, or 2 ^ 63 plus the refusal number
unfoldable pub answered : Outcome → Answer
answered o = answer (entry o.refusal o.size) o.left
