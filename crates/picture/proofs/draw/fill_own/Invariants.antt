-- `draw::fill_own` meets its contract. The invariant of its loop: j pixels are drawn, and the carried numbers are those of pixel j.
-- Assumes nothing.
use Rattle.std.proofs.Common.{◌≡◌, ◌+◌, ◌*◌}
use Rattle.picture.specs.Place.{place_of}
use Rattle.picture.specs.Offer.{offer}
use Rattle.picture.specs.Draw.{shown, carried_to}
use Rattle.picture.proofs.Loops.{Filling}
use Rattle.picture.proofs.draw.fill_own.Given as goal

abbrev pub invariant-loop-j : goal.invariant-loop-j
invariant-loop-j l =
    (l.base ≡ place_of l.pen.frame l.own.x l.y)
    × Filling l.pen (λ m. shown l.pen (offer l.kind (l.own.x + l.ways * m) l.y (carried_to l.own.i m) (carried_to l.own.z m))) l.own.i l.own.z l.own.count l.initial.im l.initial.zm l.im l.zm l.i l.z l.j l.n
