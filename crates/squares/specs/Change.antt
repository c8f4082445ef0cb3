-- Where two pictures of one size differ (request [14]).
use Rattle.std.specs.Prelude.{ℕ, ◌+◌, ◌*◌, Bool, not, ◌&&◌, List, get_or, ltb, eqb}
use Rattle.squares.specs.declared.size.Corner.{Corner}
use Rattle.squares.specs.Squares.{any_below, squares}

-- the two pictures hold unlike numbers at a place
unfoldable pub unlike : List ℕ → List ℕ → ℕ → Bool
unlike old new at = not (eqb (get_or old at 0) (get_or new at 0))

-- so do they at one of n places from `at` on
unfoldable pub run_differs : List ℕ → List ℕ → ℕ → ℕ → Bool
run_differs old new at n = any_below n (λ i. unlike old new (at + i))

-- pixel (x, y) is inside the picture, and differs
unfoldable pub differs : List ℕ → List ℕ → ℕ → ℕ → ℕ → ℕ → Bool
differs old new width rows x y = ltb x width && ltb y rows && unlike old new (y * width + x)

-- the list of request [14]: what remains of the square of side 256, which is split five times
abbrev pub changed : List ℕ → List ℕ → ℕ → ℕ → List Corner
changed old new width rows = squares (differs old new width rows) 5 0 0
