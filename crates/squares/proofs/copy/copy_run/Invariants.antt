-- `copy::copy_run` meets its contract. The invariant of its loop: the first i places have the new numbers. Assumes nothing.
use mathlib.Core.Path.{◌≡◌}
use Rattle.squares.specs.Copy.{is_among, overlay}
use Rattle.squares.proofs.copy.copy_run.Given as goal

abbrev pub invariant-loop-i : goal.invariant-loop-i
invariant-loop-i l = l.view ≡ overlay (is_among l.i l.at) l.new 0 l.initial.view
