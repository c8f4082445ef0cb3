-- `recording::take` meets its contract: the word's pixels are counted first, which leaves the memories as they were. Assumes nothing.
use Rattle.std.proofs.Common.{refl}
use Rattle.std.proofs.lemmas.Result.{err_from_is_err_and}
use Rattle.tally.proofs.Words.{taken_told, taken_low, taken_tally, taken_refused}
use Rattle.tally.proofs.recording.take.Goals as goal

pub returns-in_err-answer : goal.returns-in_err-answer
returns-in_err-answer c =
    let p = err_from_is_err_and c.from_residual.result c.from_residual.ensures.1 in
    let is = c.decoded.ensures in
    let completes = c.completed-figure.ensures in
    let before = c.offered_by-offered.ensures in
    let told = c.in_err-answer.ensures in
    rw (p.1, p.2) (taken_told _ _ _ _ is completes before told, taken_refused _ _ _ _ is completes before told c.in_err-answer.field-0.0 refl)

pub word_tally-tally-requires : goal.word_tally-tally-requires
word_tally-tally-requires c = taken_low _ _ _ _ c.decoded.ensures c.completed-figure.ensures c.offered_by-offered.ensures c.in_ok-answer.ensures refl

pub returns : goal.returns
returns c =
    let is = c.decoded.ensures in
    let completes = c.completed-figure.ensures in
    let before = c.offered_by-offered.ensures in
    let told = c.in_ok-answer.ensures in
    (taken_told _ _ _ _ is completes before told, taken_tally _ _ _ _ is completes before told c.word_tally-tally.ensures)
