-- `copy::copy_run` meets its contract: the run begins with no place, and each turn adds one. Assumes nothing.
use native.Mathlib.Omega.{arith}
use Rattle.squares.proofs.Rows.{run_start, run_more}
use Rattle.squares.proofs.copy.copy_run.Goals as goal

pub loop-i-init : goal.loop-i-init
loop-i-init c = run_start c.args.new.now c.args.view.now c.requires.len c.args.at

pub loop-i-preserved : goal.loop-i-preserved
loop-i-preserved c =
    let a = c.args in
    run_more a.new.now a.view.now c.requires.len a.at c.loop-i.i (omega arith) c.loop-i.invariant
