-- `list_squares` meets its contract: each test decides one case of `listing`. At most 1024 squares remain, so there is room for them all.
-- Assumes nothing.
use mathlib.Core.Path.{◌≡◌, refl, sym, ◌∙◌}
use native.Mathlib.Omega.{arith}
use lib.ListN.{length}
use Rattle.std.proofs.lemmas.Result.{err_from_is_err_and}
use Rattle.squares.specs.Change.{differs}
use Rattle.squares.specs.Calls.{listed}
use Rattle.squares.proofs.Few.{few}
use Rattle.squares.proofs.Calls.{sized, five, list_refused, list_short, list_done}
use Rattle.squares.proofs.list_squares.Goals as goal

pub returns-in_err-checked : goal.returns-in_err-checked
returns-in_err-checked c =
    let a = c.args in
    let p = err_from_is_err_and c.from_residual.result c.from_residual.ensures.1 in
    rw (p.1, p.2) (list_refused a.old.now a.new.now a.size.width a.size.rows a.out.now _ c.in_err-checked.ensures)

pub invariant_of-quarter : goal.invariant_of-quarter
invariant_of-quarter c =
    let a = c.args in
    let z = sized (length a.old.now) (length a.new.now) a.size.width a.size.rows 0 (sym c.in_ok-checked.ensures) in
    record { old_fits = z.old; new_fits = z.new }

pub quarter-requires : goal.quarter-requires
quarter-requires c =
    let a = c.args in
    record { side_bound = (omega arith, omega arith); side = record { splits = 5; is = five }; room = λ n e. omega (arith, few (differs a.old.now a.new.now a.size.width a.size.rows) n 0 0 e) }

pub returns-then-out-count : goal.returns-then-out-count
returns-then-out-count c =
    let a = c.args in
    list_short a.old.now a.new.now a.size.width a.size.rows a.out.now (sym c.in_ok-checked.ensures)
    (rw (c.as_slice-squares.ensures, c.quarter.ensures 5 five) at c.if-out-count.true)

pub returns : goal.returns
returns c =
    let a = c.args in
    let found : c.as_slice-squares.result.now ≡ listed a.old.now a.new.now a.size.width a.size.rows = c.as_slice-squares.ensures ∙ c.quarter.ensures 5 five in
    rw (c.write.ensures, found)
    (list_done a.old.now a.new.now a.size.width a.size.rows a.out.now (sym c.in_ok-checked.ensures) (rw found at c.if-out-count.false) refl)
