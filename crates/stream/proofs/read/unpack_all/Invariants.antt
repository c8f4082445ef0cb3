-- `read::unpack_all` meets its contract. The invariant of its loop: the first 2 j words stand at the front of `out`.
-- Assumes nothing.
use mathlib.Core.Path.{◌≡◌}
use Prim.Native.Nat.{◌*◌}
use Rattle.stream.specs.Format.{unpack_of}
use Rattle.stream.proofs.Filling.{front}
use Rattle.stream.proofs.read.unpack_all.Given as goal

abbrev pub invariant-loop-j : goal.invariant-loop-j
invariant-loop-j l = l.out ≡ front (2 * l.j) (unpack_of l.bytes) l.initial.out
