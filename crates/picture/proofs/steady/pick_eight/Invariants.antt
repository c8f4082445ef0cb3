-- `steady::pick_eight` meets its contract. The invariant of its loop: the numbers before number k are there. Assumes nothing.
use Rattle.std.proofs.Common.{◌≡◌, ℕ, ◌<◌, cond, ltb, length, get_or}
use Rattle.picture.proofs.steady.pick_eight.Given as goal

abbrev pub invariant-loop-k : goal.invariant-loop-k
invariant-loop-k l = (length l.picked ≡ 8) × ((k : ℕ) → k < l.k → get_or l.picked k 0 ≡ cond (ltb l.z (get_or l.deep k 0)) l.new (get_or l.old k 0))
