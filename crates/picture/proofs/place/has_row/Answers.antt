-- `place::has_row` meets its contract. Assumes nothing.
use Rattle.std.proofs.Common.{ltb, sym, ap, ◌∙◌, zero-le, le-ltb}
use Rattle.picture.proofs.Places.{rows_none, row_test}
use Rattle.picture.proofs.place.has_row.Goals as goal

pub returns-then-is_whole : goal.returns-then-is_whole
returns-then-is_whole c =
    let a = c.args in
    rw (c.band_end.ensures.0, c.width_of.ensures) (sym (row_test a.frame a.ni a.nz a.y (sym c.is_whole.ensures ∙ c.if-is_whole.true)))

pub returns : goal.returns
returns c =
    let a = c.args in
    sym (ap (ltb a.y) (rows_none a.frame a.ni a.nz (sym c.is_whole.ensures ∙ c.if-is_whole.false)) ∙ le-ltb a.y 0 zero-le)
