-- `change::run_differs` meets its contract. The invariant of its loop: what is found so far is whether a place passed differs. Assumes nothing.
use mathlib.Core.Path.{◌≡◌}
use Rattle.squares.specs.Change.{run_differs}
use Rattle.squares.proofs.change.run_differs.Given as goal

abbrev pub invariant-loop-i : goal.invariant-loop-i
invariant-loop-i l = l.some ≡ run_differs l.old l.new l.at l.i
