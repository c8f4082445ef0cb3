-- `place::rows_in` meets its contract. Assumes nothing.
use Rattle.std.proofs.Common.{sym, ◌∙◌, arith}
use Rattle.picture.specs.Place.{layout_of}
use Rattle.picture.proofs.Layouts.{width_some}
use Rattle.picture.proofs.Places.{rows_tiled, rows_width}
use Rattle.picture.proofs.place.rows_in.Goals as goal

pub nonzero_div-result : goal.nonzero_div-result
nonzero_div-result c = omega (arith, width_some (layout_of c.args.frame) c.args.frame.line c.requires, c.width_of-width.ensures)

pub returns-then-lies_tiled : goal.returns-then-lies_tiled
returns-then-lies_tiled c = rows_tiled c.args.frame c.args.n _ c.width_of-width.ensures (sym c.lies_tiled.ensures ∙ c.if-lies_tiled.true)

pub nonzero_div-result-2 : goal.nonzero_div-result-2
nonzero_div-result-2 c = omega (arith, width_some (layout_of c.args.frame) c.args.frame.line c.requires, c.width_of-width.ensures)

pub returns : goal.returns
returns c = rows_width c.args.frame c.args.n _ c.width_of-width.ensures (sym c.lies_tiled.ensures ∙ c.if-lies_tiled.false)
