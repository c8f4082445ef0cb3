-- `run::run_from` meets its contract: 11, 12, 2, and then the words. Assumes nothing.
use Rattle.std.proofs.Common.{not, ap, refl, arith}
use Rattle.ground.proofs.Numbers.{number_positive}
use Rattle.board.proofs.Turns.{from_flawed, from_unlike, from_like}
use Rattle.board.proofs.run.run_from.Goals as goal

pub returns-in-Err : goal.returns-in-Err
returns-in-Err c = from_flawed _ _ _ c.in-Err.ensures c.stopped.ensures (λ z. omega (arith, number_positive c.in-Err.refusal, z))

pub returns-then-not-is_even : goal.returns-then-not-is_even
returns-then-not-is_even c =
    from_unlike _ _ _ c.in_default.ensures refl c.is_even.ensures c.stopped-then-not-is_even.ensures (ap not c.if-not-is_even.true)

pub returns : goal.returns
returns c = from_like _ _ _ c.in_default.ensures refl c.is_even.ensures c.run_words.ensures (ap not c.if-not-is_even.false)
