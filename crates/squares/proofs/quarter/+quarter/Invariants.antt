-- The measure of the recursion is the square's side, which a call halves. Assumes nothing.
use Rattle.squares.proofs.quarter.+quarter.Given as goal

abbrev pub decreases-quarter : goal.decreases-quarter
decreases-quarter l = l.side
