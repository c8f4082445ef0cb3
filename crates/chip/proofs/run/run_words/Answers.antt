-- `run::run_words` meets its contract. Its loop keeps that the whole run is the run of the words that are left, from where k words came to, and that
-- the record breaks no bound. Assumes nothing.
use Rattle.std.proofs.Common.{◌≡◌, refl, sym, ◌∙◌, arith}
use Rattle.ground.proofs.Numbers.{number_positive}
use Rattle.chip.proofs.Streams.{reached_start, reached_more, reached_kept, reached_halt, reached_end}
use Rattle.chip.proofs.run.run_words.Goals as goal

pub loop-k-init : goal.loop-k-init
loop-k-init c = record { all = c.held-count.ensures; alike = c.requires.1; bounded = c.requires.0; so_far_lem = reached_start _ _ _ refl }

pub step_at-requires : goal.step_at-requires
step_at-requires c = let going = c.loop-k.invariant in (going.bounded, going.alike)

pub returns-in-Err : goal.returns-in-Err
returns-in-Err c =
    let going = c.loop-k.invariant in
    reached_halt _ _ _ going.so_far_lem (rw going.all at c.loop-k-test.true) c.in-Err.ensures (λ e. omega (arith, number_positive c.in-Err.refusal, e))

pub loop-k-preserved : goal.loop-k-preserved
loop-k-preserved c =
    let going = c.loop-k.invariant in
    let left = rw going.all at c.loop-k-test.true in
    let stepped = c.step_at in
    record {
      all = going.all;
      alike = stepped.auto.im ∙ going.alike ∙ sym stepped.auto.zm;
      bounded = reached_kept _ _ _ going.so_far_lem left c.in-Ok.ensures going.bounded;
      so_far_lem = reached_more _ _ _ going.so_far_lem left c.in-Ok.ensures refl;
    }

pub returns : goal.returns
returns c =
    let end : c.loop-k.k ≡ c.held-count.result = omega (arith, c.loop-k-test.false, c.loop-k.auto.k-end) in
    let going = c.loop-k.invariant in
    rw (← end) (reached_end _ _ _ going.so_far_lem (omega (arith, going.all, end)))
