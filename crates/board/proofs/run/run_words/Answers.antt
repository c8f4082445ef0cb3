-- `run::run_words` meets its contract. Assumes nothing.
use Rattle.std.proofs.Common.{◌≡◌, refl, arith}
use Rattle.ground.proofs.Numbers.{number_positive}
use Rattle.board.proofs.Lengths.{as_long_more}
use Rattle.board.proofs.Turns.{reached_more, reached_halt, reached_end}
use Rattle.board.proofs.run.run_words.Goals as goal

pub returns-in-Err : goal.returns-in-Err
returns-in-Err c =
    let going = c.loop-k.invariant in
    rw c.into.ensures
    (reached_halt _ _ _ going.so_far_lem (rw c.held-count.ensures at c.loop-k-test.true) c.in-Err.ensures (λ z. omega (arith, number_positive c.in-Err.refusal, z)))

pub loop-k-preserved : goal.loop-k-preserved
loop-k-preserved c =
    let going = c.loop-k.invariant in
    let s = c.step_at.auto in
    record {
      long = as_long_more going.long (s.i0, (s.z0, (s.i1, (s.z1, (s.i2, (s.z2, (s.i3, (s.z3, tt {0}))))))));
      so_far_lem = reached_more _ _ _ going.so_far_lem (rw c.held-count.ensures at c.loop-k-test.true) c.in-Ok.ensures refl;
    }

pub returns : goal.returns
returns c =
    let going = c.loop-k.invariant in
    let all : c.loop-k.k ≡ c.held-count.result = omega arith in
    rw (← all) (reached_end _ _ _ going.so_far_lem (rw c.held-count.ensures at c.loop-k-test.false))
