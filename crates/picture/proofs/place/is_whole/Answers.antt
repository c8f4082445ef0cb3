-- `place::is_whole` meets its contract. Assumes nothing.
use Rattle.std.proofs.Common.{◌%◌, not, eqb, sym, ◌∙◌}
use Rattle.picture.specs.Place.{is_whole}
use Rattle.picture.proofs.Places.{lies_plain_lem, lies_tiled_lem, lies_shared, some_ways}
use Rattle.picture.proofs.place.is_whole.Goals as goal

pub returns-then-lies_plain : goal.returns-then-lies_plain
unfolding is_whole
returns-then-lies_plain c = rw (lies_plain_lem c.args.frame (sym c.lies_plain.ensures ∙ c.if-lies_plain.true))

pub returns-then-lies_tiled : goal.returns-then-lies_tiled
unfolding is_whole
returns-then-lies_tiled c =
    rw (lies_tiled_lem c.args.frame (sym c.lies_tiled.ensures ∙ c.if-lies_tiled.true))

pub returns : goal.returns
unfolding is_whole
returns c =
    rw (lies_shared c.args.frame (sym c.lies_plain.ensures ∙ c.if-lies_plain.false) (sym c.lies_tiled.ensures ∙ c.if-lies_tiled.false), ← c.ways_of.ensures.0)
    (some_ways (not (eqb c.args.frame.line 0)) (eqb (c.args.frame.line % c.ways_of.result) 0) c.ways_of.result c.ways_of.ensures.1)
