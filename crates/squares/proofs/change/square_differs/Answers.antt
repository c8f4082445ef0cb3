-- `change::square_differs` meets its contract. Assumes nothing.
use mathlib.Core.Path.{◌≡◌, sym, ◌∙◌}
use mathlib.Core.Bool.{true, false}
use Prim.Native.Nat.{◌-◌, min}
use native.Mathlib.Omega.{arith}
use Rattle.squares.proofs.Any.{any_none, any_here, any_next}
use Rattle.squares.proofs.Clip.{row_differs, clipped}
use Rattle.squares.proofs.change.square_differs.Goals as goal

pub loop-j-init : goal.loop-j-init
loop-j-init c =
    let p = c.args.pictures.now in
    let s = c.args.square in
    any_none (row_differs p.old.now p.new.now p.size.width p.size.rows s.x s.y)

pub returns-then-row_differs : goal.returns-then-row_differs
returns-then-row_differs c =
    let p = c.args.pictures.now in
    let s = c.args.square in
    let row = row_differs p.old.now p.new.now p.size.width p.size.rows s.x s.y in
    let here : row c.loop-j.j ≡ true = rw c.clip-inside.ensures.columns.0 at (sym c.row_differs.ensures ∙ c.if-row_differs.true) in
    sym (clipped p.old.now p.new.now p.size.width p.size.rows s.x s.y
    ∙ any_here (min 8 (p.size.rows - s.y)) row c.loop-j.j (omega (arith, c.clip-inside.ensures.rows.0)) here)

pub loop-j-preserved : goal.loop-j-preserved
loop-j-preserved c =
    let p = c.args.pictures.now in
    let s = c.args.square in
    let row = row_differs p.old.now p.new.now p.size.width p.size.rows s.x s.y in
    let none : row c.loop-j.j ≡ false = rw c.clip-inside.ensures.columns.0 at (sym c.row_differs.ensures ∙ c.if-row_differs.false) in
    any_next c.loop-j.j row c.loop-j.invariant none

pub returns : goal.returns
returns c =
    let p = c.args.pictures.now in
    let s = c.args.square in
    let e : c.loop-j.j ≡ min 8 (p.size.rows - s.y) = omega (arith, c.clip-inside.ensures.rows.0) in
    sym (clipped p.old.now p.new.now p.size.width p.size.rows s.x s.y ∙ rw e at c.loop-j.invariant)
