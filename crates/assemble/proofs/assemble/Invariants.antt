-- `assemble` meets its contract. The invariant of its loop: no more words are stored than there is room for. Assumes nothing.
use mathlib.Core.Path.{◌≡◌}
use Prim.Native.Nat.{◌≤◌}
use lib.ListN.{length}
use Rattle.assemble.proofs.assemble.Given as goal

abbrev pub invariant-loop : goal.invariant-loop
invariant-loop g l = (length l.words ≡ length l.initial.words) × (65536 ≡ length l.part) × (l.r.held ≤ length l.words)
