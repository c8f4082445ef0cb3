-- `change::square_differs` meets its contract: the rows of the square up to the picture's end tell of all. The invariant of the loop: no row passed
-- differs. Assumes nothing.
use mathlib.Core.Path.{◌≡◌}
use mathlib.Core.Bool.{false}
use Rattle.squares.specs.Squares.{any_below}
use Rattle.squares.proofs.Clip.{row_differs}
use Rattle.squares.proofs.change.square_differs.Given as goal

abbrev pub invariant-loop-j : goal.invariant-loop-j
invariant-loop-j l = any_below l.j (row_differs l.old l.new l.size.width l.size.rows l.square.x l.square.y) ≡ false
