-- `copy::copy_square` meets its contract: outside the picture nothing is copied, and inside the rows up to its end are the square. The invariant of the
-- loop: the rows passed are copied, and the length is kept. Assumes nothing.
use mathlib.Core.Path.{◌≡◌}
use lib.ListN.{length}
use Rattle.squares.specs.Copy.{overlay}
use Rattle.squares.proofs.Rows.{inside}
use Rattle.squares.proofs.copy.copy_square.Given as goal

abbrev pub invariant-loop-j : goal.invariant-loop-j
invariant-loop-j l = (length l.view ≡ length l.initial.view) × (l.view ≡ overlay (inside l.size.width l.square.x l.square.y l.inside.width l.j) l.new 0 l.initial.view)
