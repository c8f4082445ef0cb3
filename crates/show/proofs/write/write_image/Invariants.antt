-- `write::write_image` meets its contract. Its loop needs no invariant: each page is asked for anew. The measure is the number of rows left. Assumes nothing.
use Rattle.show.proofs.write.write_image.Given as goal

abbrev pub invariant-loop-below : goal.invariant-loop-below
invariant-loop-below g l = Unit {0}

abbrev pub decreases-loop-below : goal.decreases-loop-below
decreases-loop-below g l = l.below
