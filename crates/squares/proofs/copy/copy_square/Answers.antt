-- `copy::copy_square` meets its contract. Assumes nothing.
use mathlib.Core.Path.{◌≡◌, refl, sym, ◌∙◌}
use Prim.Native.Nat.{◌+◌, ◌-◌, min}
use native.Mathlib.Omega.{arith}
use lib.ListN.{length}
use Rattle.std.proofs.Common.{rules}
use Rattle.squares.proofs.Rows.{square_outside, row_ends, rows_start, rows_more, rows_done}
use Rattle.squares.proofs.copy.copy_square.Goals as goal

pub returns-then-not-has : goal.returns-then-not-has
returns-then-not-has c =
    let a = c.args in
    square_outside a.new.now a.view.now a.size.width a.size.rows a.square.x a.square.y c.requires.0 c.requires.1 (sym c.has.ensures ∙ c.if-not-has.true)

pub loop-j-init : goal.loop-j-init
loop-j-init c =
    let a = c.args in
    (refl, rows_start a.new.now a.view.now a.size.width a.size.rows a.square.x a.square.y c.requires.0 c.requires.1 c.clip-inside.result.width)

pub copy_run-requires-clause-n_in_bounds : goal.copy_run-requires-clause-n_in_bounds
copy_run-requires-clause-n_in_bounds c =
    let a = c.args in
    row_ends a.size.width a.size.rows a.square.x (a.square.y + c.loop-j.j) c.clip-inside.result.width (length c.loop-j.view)
    (c.loop-j.invariant.0 ∙ c.requires.1) c.clip-inside.ensures.columns.1 (omega (arith, c.clip-inside.ensures.rows.1, c.loop-j-test.true))

pub loop-j-preserved : goal.loop-j-preserved
loop-j-preserved c =
    let a = c.args in
    let columns = c.clip-inside.result.width in (
      search rules,
      c.copy_run.ensures
          ∙ rows_more a.new.now a.view.now a.size.width a.size.rows a.square.x a.square.y c.requires.0 c.requires.1 columns c.loop-j.j
          (omega (arith, c.clip-inside.ensures.columns.0, c.clip-inside.ensures.columns.1)) c.loop-j.invariant.1,
    )

pub returns : goal.returns
returns c =
    let a = c.args in
    let e : c.loop-j.j ≡ min 8 (a.size.rows - a.square.y) = omega (arith, c.clip-inside.ensures.rows.0) in
    rw (e, c.clip-inside.ensures.columns.0) at c.loop-j.invariant.1
    ∙ rows_done a.new.now a.view.now a.size.width a.size.rows a.square.x a.square.y c.requires.0 c.requires.1
