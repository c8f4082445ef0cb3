-- `copy_squares` meets its contract: each test decides one case of `copying`. Assumes nothing.
use mathlib.Core.Path.{sym, ◌∙◌}
use lib.ListN.{length}
use Rattle.std.proofs.lemmas.Result.{err_from_is_err_and}
use Rattle.squares.proofs.Calls.{sized, copy_refused, copy_strange, copy_done}
use Rattle.squares.proofs.copy_squares.Goals as goal

pub returns-in_err-checked : goal.returns-in_err-checked
returns-in_err-checked c =
    let a = c.args in
    let p = err_from_is_err_and c.from_residual.result c.from_residual.ensures.1 in
    rw (p.1, p.2) (copy_refused a.list.now a.new.now a.size.width a.size.rows a.view.now _ c.in_err-checked.ensures)

pub returns-then-not-are_squares : goal.returns-then-not-are_squares
returns-then-not-are_squares c =
    let a = c.args in
    copy_strange a.list.now a.new.now a.size.width a.size.rows a.view.now (sym c.in_ok-checked.ensures)
    (sym c.are_squares.ensures ∙ c.if-not-are_squares.true)

pub copy_listed-requires : goal.copy_listed-requires
copy_listed-requires c =
    let a = c.args in
    let z = sized (length a.view.now) (length a.new.now) a.size.width a.size.rows 0 (sym c.in_ok-checked.ensures) in
    (z.new, z.old)

pub returns : goal.returns
returns c =
    let a = c.args in
    copy_done a.list.now a.new.now a.size.width a.size.rows a.view.now (sym c.in_ok-checked.ensures)
    (sym c.are_squares.ensures ∙ c.if-not-are_squares.false) c.copy_listed.ensures
