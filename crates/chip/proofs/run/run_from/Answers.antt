-- `run::run_from` meets its contract: 11, 12, 2, and then the words. Assumes nothing.
use Rattle.std.proofs.Common.{refl}
use Rattle.chip.proofs.Streams.{run_flawed, run_unlike, run_good}
use Rattle.chip.proofs.run.run_from.Goals as goal

pub returns-in-Err : goal.returns-in-Err
returns-in-Err c = run_flawed _ _ _ c.in-Err.ensures c.refused.ensures refl

pub returns-then-im-zm : goal.returns-then-im-zm
returns-then-im-zm c = run_unlike _ _ _ c.in_default.ensures refl c.refused-then-im-zm.ensures c.if-im-zm.true

pub returns : goal.returns
returns c = run_good _ _ _ c.in_default.ensures refl c.run_words.ensures c.if-im-zm.false
