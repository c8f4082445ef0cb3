-- `copy::copy_listed` meets its contract. The invariant of its loop: copying the squares left into the view comes to copying all into the view as it
-- was, and the length is kept. Assumes nothing.
use mathlib.Core.Path.{◌≡◌}
use mathlib.Core.List.{map}
use lib.ListN.{length, drop}
use Rattle.squares.specs.Squares.{corner_of}
use Rattle.squares.specs.Copy.{copy_squares}
use Rattle.squares.proofs.copy.copy_listed.Given as goal

abbrev pub invariant-loop-k : goal.invariant-loop-k
invariant-loop-k l =
    (length l.view ≡ length l.initial.view)
    × (copy_squares l.size.width l.new l.initial.view (map corner_of l.list) ≡ copy_squares l.size.width l.new l.view (map corner_of (drop l.k l.list)))
