-- `receive` meets its contract. The invariant of its loop: the buffer keeps its length. Assumes nothing.
use mathlib.Core.Path.{◌≡◌}
use lib.ListN.{length}
use Rattle.receive.proofs.receive.Given as goal

abbrev pub invariant-loop : goal.invariant-loop
invariant-loop g l = 65536 ≡ length l.part
