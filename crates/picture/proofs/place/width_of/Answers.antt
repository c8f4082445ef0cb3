-- `place::width_of` meets its contract. Assumes nothing.
use Rattle.std.proofs.Common.{sym}
use Rattle.ground.proofs.Truth.{neither}
use Rattle.picture.specs.Place.{width_of}
use Rattle.picture.proofs.Places.{lies_shared, whole_width}
use Rattle.picture.proofs.place.width_of.Goals as goal

pub returns-then-lies_plain-lies_tiled : goal.returns-then-lies_plain-lies_tiled
returns-then-lies_plain-lies_tiled c =
    sym (whole_width c.args.frame (rw (c.lies_plain.ensures, c.lies_tiled.ensures) at c.if-lies_plain-lies_tiled.true))

pub returns : goal.returns
unfolding width_of
returns c =
    let other = neither _ _ (rw (c.lies_plain.ensures, c.lies_tiled.ensures) at c.if-lies_plain-lies_tiled.false) in
    rw (lies_shared c.args.frame other.0 other.1, ← c.ways_of.ensures.0)
