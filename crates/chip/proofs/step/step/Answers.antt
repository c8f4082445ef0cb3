-- `step::step` meets its contract: a refused word leaves all as it was. Assumes nothing.
use Rattle.std.proofs.lemmas.Result.{err_from_is_err_and}
use Rattle.chip.proofs.Words.{word_refused}
use Rattle.chip.proofs.step.step.Goals as goal

pub returns-in_err-checked : goal.returns-in_err-checked
returns-in_err-checked c =
    let p = err_from_is_err_and c.from_residual.result c.from_residual.ensures.1 in
    rw (p.1, p.2) (word_refused _ _ _ _ c.decoded-word.ensures _ c.in_err-checked.ensures)
