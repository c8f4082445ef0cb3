-- `write` meets its contract. The invariant of its loop: the first i numbers are put. Assumes nothing.
use lib.ListN.{take}
use Rattle.report.specs.Calls.{Put}
use Rattle.squares.proofs.write.Given as goal

abbrev pub invariant-loop-i : goal.invariant-loop-i
invariant-loop-i l = Put (take l.i l.squares) l.initial.out 0 l.out l.i
