-- `write::pack_groups` meets its contract. The invariant of its loop: the first 10 j bytes stand at the front of `out`.
-- Assumes nothing.
use mathlib.Core.Path.{◌≡◌}
use Prim.Native.Nat.{◌*◌}
use Rattle.stream.specs.Format.{pack_of}
use Rattle.stream.proofs.Filling.{front}
use Rattle.stream.proofs.write.pack_groups.Given as goal

abbrev pub invariant-loop-j : goal.invariant-loop-j
invariant-loop-j l = l.out ≡ front (10 * l.j) (pack_of l.words) l.initial.out
