-- The squares of side 8 that hold what a test of pixels marks (request [14]): a square is split into quarters while its side exceeds 8, and
-- one with no marked pixel is dropped.
use Rattle.std.specs.Prelude.{ℕ, zero, suc, ◌+◌, ◌*◌, ◌/◌, ◌%◌, Bool, false, cond, ◌||◌, List, [], ◌∷◌, ◌++◌, map}
use Rattle.squares.specs.declared.size.Corner.{Corner}

-- whether some number below n passes a test
unfoldable pub any_below : ℕ → (ℕ → Bool) → Bool
any_below zero test = false
any_below (suc n) test = any_below n test || test n

-- whether the square of a side whose lower left corner is (x, y) holds a marked pixel
unfoldable pub any_in : (ℕ → ℕ → Bool) → ℕ → ℕ → ℕ → Bool
any_in marked side x y = any_below side (λ j. any_below side (λ i. marked (x + i) (y + j)))

-- a square of side 8 is told by its lower left corner: the one whose corner is (x, y)
abbrev pub corner : ℕ → ℕ → Corner
corner x y = record { x = x; y = y }

-- the side of a square that is split n times down to squares of side 8
unfoldable pub side_of : ℕ → ℕ
side_of zero = 8
side_of (suc n) = 2 * side_of n

-- what a square comes to: nothing where it holds no marked pixel
unfoldable pub kept : (ℕ → ℕ → Bool) → ℕ → ℕ → ℕ → List Corner → List Corner
kept marked side x y listed = cond (any_in marked side x y) listed []

-- the squares of side 8 that remain of one that is split n times: quarters in the order lower left, lower right, upper left, upper right
unfoldable pub squares : (ℕ → ℕ → Bool) → ℕ → ℕ → ℕ → List Corner
squares marked zero x y = kept marked 8 x y (corner x y ∷ [])
squares marked (suc n) x y =
    kept marked (side_of (suc n)) x y
    (squares marked n x y
    ++ squares marked n (x + side_of n) y
    ++ squares marked n x (y + side_of n)
    ++ squares marked n (x + side_of n) (y + side_of n))

-- a square as one number: y in the high half of 32 bits, x in the low half
abbrev pub number_of : Corner → ℕ
number_of c = c.y * 65536 + c.x

-- and the square that a number tells
abbrev pub corner_of : ℕ → Corner
corner_of v = corner (v % 65536) (v / 65536)

-- listed squares, a number each
abbrev pub numbers : List Corner → List ℕ
numbers cs = map number_of cs
