-- `change::run_differs` meets its contract. Assumes nothing.
use mathlib.Core.Path.{sym, ap, ◌∙◌}
use mathlib.Core.Bool.{Bool, ◌||◌}
use Prim.Native.Nat.{◌+◌}
use Rattle.squares.specs.Change.{unlike}
use Rattle.squares.proofs.Clip.{run_none, run_next}
use Rattle.squares.proofs.change.run_differs.Goals as goal

pub loop-i-init : goal.loop-i-init
loop-i-init c = sym (run_none c.args.old.now c.args.new.now c.args.at)

pub loop-i-preserved : goal.loop-i-preserved
unfolding unlike
loop-i-preserved c =
    let a = c.args in
    let i = c.loop-i.i in
    ap (λ (b : Bool). b || unlike a.old.now a.new.now (a.at + i)) c.loop-i.invariant ∙ sym (run_next a.old.now a.new.now a.at i)
