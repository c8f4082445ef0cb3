-- `reach::reach` meets its contract. The invariant of its loop: the words taken have come as far as the definition says. Assumes nothing.
use mathlib.Core.Path.{◌≡◌}
use Rattle.show.specs.Reach.{reached}
use Rattle.show.proofs.reach.reach.Given as goal

abbrev pub invariant-loop-k : goal.invariant-loop-k
invariant-loop-k l = l.s ≡ reached l.places l.bytes l.k
