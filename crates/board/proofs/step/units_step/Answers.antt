-- `step::units_step` meets its contract: the first unit refuses, or all take the word. Assumes nothing.
use Rattle.std.proofs.Common.{refl, arith}
use Rattle.std.proofs.lemmas.Result.{err_from_is_err_and}
use Rattle.ground.proofs.Numbers.{number_positive}
use Rattle.board.proofs.Parts.{units_refused, units_accepted}
use Rattle.board.proofs.step.units_step.Goals as goal

pub returns-in_err-first : goal.returns-in_err-first
returns-in_err-first c =
    let p = err_from_is_err_and c.from_residual.result c.from_residual.ensures.1 in
    rw (p.1, p.2) (units_refused _ _ _ c.in_err-first.ensures (λ z. omega (arith, number_positive c.in_err-first.field-0.0, z)) refl)

pub returns : goal.returns
returns c =
    rw (c.passed-second.ensures, c.passed-third.ensures, c.passed-fourth.ensures)
    (units_accepted _ _ _ c.in_ok-first.ensures c.part_of-2.ensures c.part_of-3.ensures c.part_of-4.ensures refl c.in_layout.ensures)
