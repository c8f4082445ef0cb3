-- `write` meets its contract: each turn puts one number more. Assumes nothing.
use mathlib.Core.Path.{◌≡◌}
use native.Mathlib.Numerals.{add-one}
use native.Mathlib.Omega.{arith}
use lib.ListN.{get_or, length}
use lib.Seq.{take-suc, take-length}
use Rattle.report.proofs.Putting.{put_byte, put_append, put_over}
use Rattle.squares.proofs.write.Goals as goal

pub loop-i-preserved : goal.loop-i-preserved
loop-i-preserved c =
    let a = c.args in
    let i = c.loop-i.i in
    let v = get_or a.squares.now i 0 in
    rw (add-one i, take-suc a.squares.now i 0 (omega arith)) (rw (← add-one i) (put_append c.loop-i.invariant (put_byte c.loop-i.out i v)))

pub returns : goal.returns
returns c =
    let xs = c.args.squares.now in
    let i : c.loop-i.i ≡ length xs = omega arith in
    (put_over c.requires (rw (take-length xs) at (rw i at c.loop-i.invariant))).1
