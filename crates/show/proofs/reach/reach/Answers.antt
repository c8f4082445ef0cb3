-- `reach::reach` meets its contract: no word, and one more; and the highest figure has rows. Assumes nothing.
use mathlib.Core.Path.{◌≡◌, ap, sym, subst}
use Prim.Native.Nat.{◌<◌}
use native.Mathlib.Omega.{arith}
use Rattle.std.specs.Prelude.{IfSome}
use Rattle.show.specs.Reach.{reached}
use Rattle.show.specs.declared.Above.{Above}
use Rattle.show.specs.declared.Came.{Came}
use Rattle.show.proofs.Reaching.{reached_none, reached_more, reached_high}
use Rattle.show.proofs.reach.reach.Goals as goal

pub loop-k-init : goal.loop-k-init
loop-k-init c = reached_none c.args.places c.args.bytes.now c.reset.ensures

pub loop-k-preserved : goal.loop-k-preserved
loop-k-preserved c = reached_more c.args.places c.args.bytes.now c.loop-k.k c.loop-k.invariant c.taken_at-s.ensures

pub returns : goal.returns
returns c =
    let a = c.args in
    let all : c.loop-k.k ≡ a.count = omega arith in
    let told : c.loop-k.s ≡ reached a.places a.bytes.now a.count = rw all at c.loop-k.invariant in
    record {
      so_far = ap (λ (s : Came). s.above) told;
      high = subst (λ (s : Came). IfSome s.above (λ (above : Above). 0 < above.height)) (sym told) (reached_high a.places a.bytes.now a.count);
    }
