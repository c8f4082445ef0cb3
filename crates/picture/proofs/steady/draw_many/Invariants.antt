-- `steady::draw_many` meets its contract. The invariant of its loop: the pixels of the eights before eight k are drawn, or all, and the eight counts sum up to
-- how many passed. Those that the last eight have in common with the eight before them are drawn again, which changes nothing. Assumes nothing.
use Rattle.std.proofs.Common.{◌+◌, ◌*◌, min}
use Rattle.picture.specs.Draw.{steady_of}
use Rattle.picture.specs.Loops.{sum_of}
use Rattle.picture.proofs.Runs.{Ran}
use Rattle.picture.proofs.steady.draw_many.Given as goal

abbrev pub invariant-loop-k : goal.invariant-loop-k
invariant-loop-k l =
    Ran (λ j. l.run.base + j) (steady_of l.i) (steady_of l.z) l.initial.im l.initial.zm 0 l.im l.zm (sum_of l.n) (min (8 * l.k) l.all)
