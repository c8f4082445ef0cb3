-- `scale::drawn_places` meets its contract. The invariant of its loop: the places left have what all of them have. Assumes nothing.
use Rattle.std.proofs.Common.{◌≡◌}
use Rattle.report.specs.Levels.{drawn_places}
use Rattle.report.proofs.scale.drawn_places.Given as goal

abbrev pub invariant-loop-place : goal.invariant-loop-place
invariant-loop-place l = drawn_places l.im l.zm l.place ≡ drawn_places l.im l.zm l.n
