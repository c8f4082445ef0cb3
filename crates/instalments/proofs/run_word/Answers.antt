-- `run_word` meets its contract: a word of 20 bits is its command and its data, and its outcome is added to the run. Assumes nothing.
use Rattle.std.proofs.Common.{refl, arith}
use Rattle.ground.proofs.Numbers.{number_positive}
use Rattle.registers.proofs.Words.{parts_decoded}
use Rattle.instalments.proofs.Words.{word_accepted, word_refused}
use Rattle.instalments.proofs.run_word.Goals as goal

pub returns-in-Ok : goal.returns-in-Ok
returns-in-Ok c = word_accepted _ _ c.requires.refusal_value (rw (parts_decoded c.requires.w_bound c.parts-command.ensures) at c.in-Ok.ensures) refl

pub returns-in-Err : goal.returns-in-Err
returns-in-Err c =
    rw c.into.ensures
    (word_refused _ _ c.requires.refusal_value (rw (parts_decoded c.requires.w_bound c.parts-command.ensures) at c.in-Err.ensures) (omega (arith, c.well_formed)) (λ z. omega (arith, number_positive c.in-Err.refusal, z)))
