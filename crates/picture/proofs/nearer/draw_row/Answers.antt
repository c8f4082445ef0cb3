-- `nearer::draw_row` meets its contract: pixels side by side, and those of tiles, are what is drawn of the row. Assumes nothing.
use Rattle.std.proofs.Common.{length, sym, refl, ◌∙◌, arith}
use Rattle.picture.specs.Place.{rows_of}
use Rattle.picture.specs.Picture.{picture}
use Rattle.picture.proofs.Runs.{tiled_run, tiled_fits}
use Rattle.picture.proofs.nearer.draw_row.Goals as goal

pub draw_tiles-requires : goal.draw_tiles-requires
draw_tiles-requires c =
    let a = c.args in
    let lies = sym c.lies_tiled.ensures ∙ c.if-lies_tiled.true in
    let base = c.place.ensures in
    let t = tiled_fits a.frame a.s.lo a.s.hi a.s.y a.s.i a.s.z c.requires.0 c.requires.1 lies base.0 (length a.m.now.i.now) (length a.m.now.z.now) c.requires.2 (omega arith) in
    record { some = c.requires.0; few = t.0; low = base.1; i = t.1; z = t.2 }

pub returns-then-lies_tiled : goal.returns-then-lies_tiled
returns-then-lies_tiled c =
    let a = c.args in
    let lies = sym c.lies_tiled.ensures ∙ c.if-lies_tiled.true in (
      (refl, refl),
      c.draw_tiles.ensures
          ∙ tiled_run a.frame a.s.lo a.s.hi a.s.y a.s.i a.s.z c.requires.0 c.requires.1 lies c.place.ensures.0
          (rows_of a.frame (length a.m.now.i.now) (length a.m.now.z.now)) c.requires.2 (picture a.m.now.i.now a.m.now.z.now 0),
    )
