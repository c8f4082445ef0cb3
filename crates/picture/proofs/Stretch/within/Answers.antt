-- `Stretch::within` meets its contract: nothing is seen outside the row's part of the memory. Assumes nothing.
use Rattle.std.proofs.Common.{ltb, sym, refl, ◌∙◌, ltb-true}
use Rattle.ground.proofs.Truth.{both}
use Rattle.picture.specs.Place.{rows_of}
use Rattle.picture.proofs.Rows.{part_some, part_none}
use Rattle.picture.proofs.Stretch.within.Goals as goal

pub returns-then-self-hi : goal.returns-then-self-hi
returns-then-self-hi c =
    let a = c.args in
    let test = both (ltb a.self.lo c.min-hi.result) c.has_row.result c.if-self-hi.true in
    part_some (rows_of a.frame a.ni a.nz) a.self c.min-hi.ensures (ltb-true _ _ test.0) (sym c.has_row.ensures ∙ test.1)

pub returns : goal.returns
returns c =
    let a = c.args in
    part_none (rows_of a.frame a.ni a.nz) a.self (ltb a.self.lo c.min-hi.result) c.has_row.result c.min-hi.ensures refl (sym c.has_row.ensures) c.if-self-hi.false
