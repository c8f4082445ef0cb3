-- `place::place_inside` meets its contract. Assumes nothing.
use Rattle.std.proofs.Common.{sym, ◌∙◌, arith}
use Rattle.picture.proofs.Places.{place_below}
use Rattle.picture.proofs.place.place_inside.Goals as goal

pub returns-then-is_inside : goal.returns-then-is_inside
returns-then-is_inside c =
    let a = c.args in
    let inside = sym c.is_inside.ensures ∙ c.if-is_inside.true in
    let below = place_below a.frame a.ni a.nz a.x a.y inside in
    record { inside = inside; is = c.place.ensures.0; i = omega (arith, c.place.ensures.0, below.0); z = omega (arith, c.place.ensures.0, below.1) }
