-- What the two calls for viewers tell and leave, for every input (request [14]: 2, 9 and 13).
use Rattle.std.specs.Prelude.{ℕ, ◌+◌, ◌*◌, ◌%◌, ◌^◌, Bool, true, cond, ◌&&◌, List, [], ◌∷◌, map, length, ltb, leb, eqb}
use Rattle.stream.specs.Calls.{no_room, over, Answer, answer}
use Rattle.squares.specs.declared.size.Corner.{Corner}
use Rattle.squares.specs.Squares.{corner_of, numbers}
use Rattle.squares.specs.Change.{changed}
use Rattle.squares.specs.Copy.{copy_squares}

-- ---- the numbers

-- a size that is allowed: a width from 1 to 256, rows up to 256, and a length of width times rows
unfoldable pub good_size : ℕ → ℕ → ℕ → Bool
good_size n width rows = ltb 0 width && leb width 256 && leb rows 256 && eqb n (width * rows)

-- the checks of pictures of two lengths: 2 where these differ, 9 where the size is not allowed; past both, what the next check tells
unfoldable pub checked : ℕ → ℕ → ℕ → ℕ → ℕ → ℕ
checked n m width rows next = cond (eqb n m) (cond (good_size n width rows) next 9) 2

-- a square such as is listed for a picture: its corner is inside, and 8 divides both numbers of it
unfoldable pub is_square : ℕ → ℕ → Corner → Bool
is_square width rows c = eqb (c.x % 8) 0 && eqb (c.y % 8) 0 && ltb c.x width && ltb c.y rows

-- each square of a list is such as is listed for the picture
unfoldable pub are_squares : ℕ → ℕ → List Corner → Bool
are_squares width rows [] = true
are_squares width rows (c ∷ cs) = is_square width rows c && are_squares width rows cs

-- ---- answers for C

-- what comes of a call that its checks refuse with a number, or do not refuse where that is 0: it tells a value and leaves its result, or tells
-- 2 ^ 63 plus the number and leaves what was lent untouched
unfoldable pub answered : ℕ → ℕ → List ℕ → List ℕ → Answer
answered number value result lent = cond (eqb number 0) (answer value result) (answer (2 ^ 63 + number) lent)

-- ---- the two calls

-- the squares that remain, a number each
abbrev pub listed : List ℕ → List ℕ → ℕ → ℕ → List ℕ
listed old new width rows = numbers (changed old new width rows)

-- listing checks 2, 9, 13, writes the squares that remain and tells how many they are
unfoldable pub listing : List ℕ → List ℕ → ℕ → ℕ → List ℕ → Answer
listing old new width rows out =
    answered (checked (length old) (length new) width rows (no_room (listed old new width rows) out))
    (length (listed old new width rows)) (over (listed old new width rows) out) out

-- copying checks 2 and 9, the latter of the size and of each listed square, copies the squares into a view and tells how many they are
unfoldable pub copying : List ℕ → List ℕ → ℕ → ℕ → List ℕ → Answer
copying list new width rows view =
    answered (checked (length view) (length new) width rows (cond (are_squares width rows (map corner_of list)) 0 9))
    (length list) (copy_squares width new view (map corner_of list)) view
