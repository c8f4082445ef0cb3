-- `nearer::draw_tiled` meets its contract. The invariant of its loop: the pixels before column x are drawn, and the carried numbers are those
-- of column x. The measure is the number of columns left. Assumes nothing.
use Rattle.std.proofs.Common.{◌≡◌, ◌+◌, ◌-◌, ◌%◌, eqb, leb, arith, eqb-true, leb-true}
use Rattle.ground.proofs.Truth.{both}
use Rattle.picture.proofs.Loops.{running_start, running_more, running_four}
use Rattle.picture.proofs.nearer.draw_tiled.Goals as goal

pub loop-x-init : goal.loop-x-init
loop-x-init c =
    let a = c.args in
    let none : a.s.lo - a.s.lo ≡ 0 = omega arith in
    record {
      from = omega arith;
      running = rw none (running_start (omega arith) (omega arith));
    }

pub loop-x-preserved-then-x-s : goal.loop-x-preserved-then-x-s
loop-x-preserved-then-x-s c =
    let a = c.args in
    let k = c.loop-x in
    let test = both (eqb (k.x % 4) 0) (leb (k.x + 4) a.s.hi) c.if-x-s.true in
    let even = eqb-true (k.x % 4) 0 test.0 in
    let room = leb-true (k.x + 4) a.s.hi test.1 in
    let along = c.along_tiles in
    let d = c.draw_four-passed.ensures in
    let from = k.invariant.from in
    let on : k.x + 4 - a.s.lo ≡ k.x - a.s.lo + 4 = omega (arith, from) in
    record {
      from = omega (arith, from);
      running =
          rw on
          (running_four k.invariant.running (λ j. a.base + along.result + j) (omega (arith, from, room)) c.after-i.ensures c.after-z.ensures d.1
          (λ j l. omega (arith, l, even, along.ensures.0, from)) d.0);
    }

pub loop-x-preserved : goal.loop-x-preserved
loop-x-preserved c =
    let a = c.args in
    let k = c.loop-x in
    let along = c.along_tiles-else-x-s in
    let d = c.put_nearer-passed.ensures in
    let from = k.invariant.from in
    let on : k.x + 1 - a.s.lo ≡ k.x - a.s.lo + 1 = omega (arith, from) in
    record {
      from = omega (arith, from);
      running =
          rw on
          (running_more k.invariant.running {at = a.base + along.result} (omega (arith, from, c.loop-x-test.true)) c.after-i-else-x-s.ensures c.after-z-else-x-s.ensures d.1
          (omega (arith, along.ensures.0, from)) c.whole.ensures c.whole-else-x-s.ensures d.0);
    }
