-- `sort::kept` meets its contract. Assumes nothing.
use mathlib.Core.Path.{refl}
use native.Mathlib.Omega.{arith}
use Rattle.ground.proofs.Numbers.{number_positive}
use Rattle.stream.proofs.Round.{word_fits}
use Rattle.mending.proofs.Sorting.{kept_more, kept_past, kept_end}
use Rattle.mending.proofs.sort.kept.Goals.{in-Ok, in_default}
use Rattle.mending.proofs.sort.kept.Goals as goal

pub tried-requires : goal.tried-requires
tried-requires c = omega (arith, c.word.ensures, word_fits c.args.bytes.now c.loop-k.k)

pub loop-k-preserved : goal.loop-k-preserved
loop-k-preserved c =
    let i = c.loop-k.invariant in
    let below = rw c.held-k-end.ensures at c.loop-k-test.true in
    elim c.match-tried.branch [
      | in-Ok w ↦
          rw (w.r-is, w.j-is)
          (record {
            few = omega (arith, i.few);
            so_far_lem = kept_more _ below refl c.word.ensures w.in-Ok.ensures refl i.so_far_lem;
          })
      | in_default w ↦
          rw (w.r-is, w.j-is)
          (record {
            few = omega (arith, i.few);
            so_far_lem = kept_past _ below refl c.word.ensures w.in_default.ensures (λ z. omega (arith, number_positive w.in_default.field-0, z)) i.so_far_lem;
          })
    ]

pub returns : goal.returns
returns c = let i = c.loop-k.invariant in kept_end _ c.loop-k.r (rw c.held-k-end.ensures at c.loop-k-test.false) i.so_far_lem
