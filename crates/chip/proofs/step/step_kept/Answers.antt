-- `step::step_kept` meets its contract: within the bounds, over memories of one length, what is judged is what a word gets, whichever memory is named first. Assumes nothing.
use Rattle.std.proofs.Common.{refl, sym, ◌∙◌, arith}
use Rattle.std.proofs.lemmas.Result.{err_from_is_err_and}
use Rattle.refusals.proofs.Kept.{kept_judged}
use Rattle.chip.proofs.Words.{word_refused}
use Rattle.chip.proofs.step.step_kept.Goals as goal

pub returns-in_err-judged : goal.returns-in_err-judged
returns-in_err-judged c =
    let p = err_from_is_err_and c.from_residual.result c.from_residual.ensures.1 in
    rw (p.1, p.2) (word_refused _ _ _ _ refl _ (c.in_err-judged.ensures ∙ kept_judged _ _ _ _ c.requires.0 c.requires.1))

pub take-requires : goal.take-requires
take-requires c = sym (c.in_ok-judged.ensures ∙ kept_judged _ _ _ _ c.requires.0 (omega (arith, c.requires.1)))
