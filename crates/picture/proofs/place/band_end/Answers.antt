-- `place::band_end` meets its contract. Assumes nothing.
use Rattle.std.proofs.Common.{sym, ◌∙◌, arith}
use Rattle.picture.specs.Loops.{band_end}
use Rattle.picture.proofs.Places.{lies_tiled_lem, end_row}
use Rattle.picture.proofs.place.band_end.Goals as goal

pub returns-then-lies_tiled : goal.returns-then-lies_tiled
unfolding band_end
returns-then-lies_tiled c = (rw (lies_tiled_lem c.args.frame (sym c.lies_tiled.ensures ∙ c.if-lies_tiled.true)), omega arith)

pub returns : goal.returns
returns c =
    let a = c.args in
    (sym (end_row a.frame a.y (sym c.lies_tiled.ensures ∙ c.if-lies_tiled.false)), omega arith)
