-- `recording::words_counted` meets its contract. Its loop keeps that the whole count is the count of the words that are left, from where k words
-- came to. Assumes nothing.
use Rattle.std.proofs.Common.{refl, arith}
use Rattle.ground.proofs.Numbers.{number_positive}
use Rattle.stream.proofs.Stream.{length_unpack}
use Rattle.tally.proofs.Words.{reached_start, reached_more, ended_halt, ended_whole}
use Rattle.tally.proofs.recording.words_counted.Goals as goal

pub loop-k-init : goal.loop-k-init
loop-k-init c =
    record {
      all = c.held-count.ensures;
      few = omega (arith, c.held-count.ensures, length_unpack c.args.bytes.now, c.requires);
      so_far_lem = reached_start _ _ c.reset-r.ensures c.none-tally.ensures;
    }

pub returns-in-Err : goal.returns-in-Err
returns-in-Err c =
    let counting = c.loop-k.invariant in
    ended_halt _ _ counting.so_far_lem (rw counting.all at c.loop-k-test.true) c.in-Err.ensures.0 (λ e. omega (arith, number_positive c.in-Err.refusal, e)) refl

pub loop-k-preserved : goal.loop-k-preserved
loop-k-preserved c =
    let counting = c.loop-k.invariant in
    record {
      all = counting.all;
      few = counting.few;
      so_far_lem =
          reached_more _ _ counting.so_far_lem (rw counting.all at c.loop-k-test.true) c.in-Ok.ensures.0 refl
          (omega (arith, c.loop-k.auto.k-end, counting.few)) c.in-Ok.ensures.1 c.with-tally.ensures;
    }

pub returns : goal.returns
returns c =
    let counting = c.loop-k.invariant in
    ended_whole _ _ counting.so_far_lem (omega (arith, counting.all, c.loop-k-test.false)) refl
