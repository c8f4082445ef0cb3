-- `place::rows_of` meets its contract. Assumes nothing.
use Rattle.std.proofs.Common.{ℕ, min, sym, ap, ◌∙◌}
use Rattle.picture.specs.Limits.{most_rows}
use Rattle.picture.specs.Place.{layout_of, rows_in}
use Rattle.picture.proofs.Places.{rows_none, rows_some}
use Rattle.picture.proofs.place.rows_of.Goals as goal

pub returns-then-is_whole : goal.returns-then-is_whole
returns-then-is_whole c =
    let a = c.args in
    c.min-then-is_whole.ensures
    ∙ ap (λ (m : ℕ). min m most_rows) (c.rows_in.ensures ∙ ap (rows_in (layout_of a.frame) a.frame.line) c.min.ensures)
    ∙ sym (rows_some a.frame a.ni a.nz (sym c.is_whole.ensures ∙ c.if-is_whole.true))

pub returns : goal.returns
returns c = let a = c.args in sym (rows_none a.frame a.ni a.nz (sym c.is_whole.ensures ∙ c.if-is_whole.false))
