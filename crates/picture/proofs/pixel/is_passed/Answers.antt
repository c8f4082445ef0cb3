-- `pixel::is_passed` meets its contract. Assumes nothing.
use Rattle.std.proofs.Common.{Bool, ◌&&◌, get_or, sym, ap, ◌∙◌}
use Rattle.picture.specs.Picture.{wins}
use Rattle.picture.proofs.Offers.{compared_is, passes_tested, passes_free}
use Rattle.picture.proofs.pixel.is_passed.Goals as goal

pub returns-then-pen-is_deep : goal.returns-then-pen-is_deep
returns-then-pen-is_deep c =
    let a = c.args in
    c.wins.ensures
    ∙ ap (wins a.kind) (compared_is a.z (get_or a.zm.now a.at 0) c.cmp.ensures)
    ∙ sym (passes_tested a.pen a.kind a.z (get_or a.zm.now a.at 0) (ap (λ (d : Bool). a.pen.depth && d) (sym c.is_deep.ensures) ∙ c.if-pen-is_deep.true))

pub returns : goal.returns
returns c = let a = c.args in sym (passes_free a.pen a.kind a.z (get_or a.zm.now a.at 0) (ap (λ (d : Bool). a.pen.depth && d) (sym c.is_deep.ensures) ∙ c.if-pen-is_deep.false))
