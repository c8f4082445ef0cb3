-- `route::way_of` meets its contract. Assumes nothing.
use Rattle.line.specs.Route.{lies_of, way_of}
use Rattle.line.proofs.route.way_of.Goals as goal

pub returns-then-not-inside : goal.returns-then-not-inside
unfolding way_of
returns-then-not-inside c = rw c.if-not-inside.true

pub returns-then-lies_plain : goal.returns-then-lies_plain
unfolding way_of lies_of
returns-then-lies_plain c = rw (c.if-not-inside.false, ← c.lies_plain.ensures, c.if-lies_plain.true)

pub returns-then-lies_tiled : goal.returns-then-lies_tiled
unfolding way_of lies_of
returns-then-lies_tiled c = rw (c.if-not-inside.false, ← c.lies_plain.ensures, c.if-lies_plain.false, ← c.lies_tiled.ensures, c.if-lies_tiled.true)

pub returns-else-lies_tiled : goal.returns-else-lies_tiled
unfolding way_of lies_of
returns-else-lies_tiled c = rw (c.if-not-inside.false, ← c.lies_plain.ensures, c.if-lies_plain.false, ← c.lies_tiled.ensures, c.if-lies_tiled.false)
