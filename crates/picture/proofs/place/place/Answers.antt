-- `place::place` meets its contract. Assumes nothing.
use Rattle.std.proofs.Common.{ℕ, ◌+◌, ◌*◌, ◌/◌, sym, ap, ◌∙◌, div-le_self, arith}
use Rattle.picture.proofs.Places.{place_fits, part_fits, place_plain, place_tiled, place_shared}
use Rattle.picture.proofs.place.place.Goals as goal

pub returns-then-lies_plain : goal.returns-then-lies_plain
returns-then-lies_plain c =
    let a = c.args in (
      sym (place_plain a.frame a.x a.y (sym c.lies_plain.ensures ∙ c.if-lies_plain.true)),
      omega (arith, place_fits a.y a.frame.line (omega arith) (omega arith)),
    )

pub returns-then-lies_tiled : goal.returns-then-lies_tiled
returns-then-lies_tiled c =
    let a = c.args in
    (c.place_tiled.ensures.0 ∙ sym (place_tiled a.frame a.x a.y (sym c.lies_tiled.ensures ∙ c.if-lies_tiled.true)), c.place_tiled.ensures.1)

pub returns : goal.returns
returns c =
    let a = c.args in
    let w = c.ways_of-ways.ensures in
    let d = div-le_self a.frame.line c.ways_of-ways.result in
    let e = div-le_self a.x c.ways_of-ways.result in (
      ap (λ (v : ℕ). a.y * (a.frame.line / v) + a.x / v) w.0 ∙ sym (place_shared a.frame a.x a.y (sym c.lies_plain.ensures ∙ c.if-lies_plain.false) (sym c.lies_tiled.ensures ∙ c.if-lies_tiled.false)),
      omega (arith, e, part_fits a.y a.frame.line c.ways_of-ways.result (omega arith) (omega (arith, d))),
    )
