-- The invariant of the loop of `copy::are_squares`: all numbers tell squares just where those from k on do. Assumes nothing.
use Rattle.std.proofs.Common.{◌≡◌, map}
use lib.ListN.{drop}
use Rattle.squares.specs.Squares.{corner_of}
use Rattle.squares.specs.Calls.{are_squares}
use Rattle.squares.proofs.copy.are_squares.Given as goal

abbrev pub invariant-loop-k : goal.invariant-loop-k
invariant-loop-k l =
    are_squares l.size.width l.size.rows (map corner_of (drop l.k l.list)) ≡ are_squares l.size.width l.size.rows (map corner_of l.list)
