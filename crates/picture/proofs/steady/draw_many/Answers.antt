-- `steady::draw_many` meets its contract. The invariant of its loop: the pixels of the eights before eight k are drawn, or all, and the eight counts sum up to
-- how many passed. Those that the last eight have in common with the eight before them are drawn again, which changes nothing. Assumes nothing.
use Rattle.std.proofs.Common.{◌≡◌, ◌+◌, ◌*◌, min, arith}
use Rattle.picture.proofs.Runs.{ran_start, ran_i, ran_z}
use Rattle.picture.proofs.Eights.{ran_passed, ran_eight}
use Rattle.picture.proofs.steady.draw_many.Goals as goal

pub loop-k-init : goal.loop-k-init
loop-k-init c =
    let e : min (8 * 0) c.args.run.count ≡ 0 = omega arith in
    rw e ran_start

pub draw_eight-counted-requires : goal.draw_eight-counted-requires
draw_eight-counted-requires c =
    let k = c.loop-k in
    let l = c.min.ensures in
    let t = c.loop-k-test.true in
    let d = c.div_ceil-k-end.ensures in (
      omega (arith, l, t, d, c.requires.0, c.requires.1.i, ran_i k.invariant),
      omega (arith, l, t, d, c.requires.0, c.requires.1.z, ran_z k.invariant),
      omega (arith, t, d, c.well_formed, ran_passed k.invariant),
    )

pub loop-k-preserved : goal.loop-k-preserved
loop-k-preserved c =
    let run = c.args.run in
    let k = c.loop-k in
    let l = c.min.ensures in
    let t = c.loop-k-test.true in
    let d = c.div_ceil-k-end.ensures in
    ran_eight run.base c.whole-i.result c.whole-z.result c.min.result (min (8 * (k.k + 1)) run.count) k.invariant (omega (arith, l, t, d))
    (omega (arith, l, t, d, c.requires.0)) (omega (arith, t, c.requires.1.z)) (omega (arith, c.well_formed)) (omega (arith, l, t, d, c.requires.0))
    c.draw_eight-counted.ensures

pub sum_eight-requires : goal.sum_eight-requires
sum_eight-requires c = omega (arith, c.well_formed, ran_passed c.loop-k.invariant)
