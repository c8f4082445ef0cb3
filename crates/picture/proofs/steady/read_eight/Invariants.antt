-- `steady::read_eight` meets its contract. The invariant of its loop: the numbers before number k are there. Assumes nothing.
use Rattle.std.proofs.Common.{◌≡◌, ℕ, ◌+◌, ◌<◌, length, get_or}
use Rattle.picture.proofs.steady.read_eight.Given as goal

abbrev pub invariant-loop-k : goal.invariant-loop-k
invariant-loop-k l = (length l.read ≡ 8) × ((k : ℕ) → k < l.k → get_or l.read k 0 ≡ get_or l.m (l.at + k) 0)
