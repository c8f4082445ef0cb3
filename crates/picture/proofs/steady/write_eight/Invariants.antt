-- `steady::write_eight` meets its contract. The invariant of its loop: the numbers before number k are stored. Assumes nothing.
use Rattle.std.proofs.Common.{◌≡◌, ◌+◌, get_or, set}
use Rattle.std.specs.List.{range_with_len}
use mathlib.Core.List.{foldl}
use Rattle.picture.proofs.steady.write_eight.Given as goal

abbrev pub invariant-loop-k : goal.invariant-loop-k
invariant-loop-k l = l.m ≡ foldl (λ m k. set m (l.at + k) (get_or l.v k 0)) l.initial.m (range_with_len 0 l.k)
