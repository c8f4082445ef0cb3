-- `dextolumen_board_run` meets its contract: reset first, and then the stream. Assumes nothing.
use Rattle.std.proofs.Common.{refl, arith, ap, ◌∙◌}
use Rattle.ground.proofs.Numbers.{number_positive}
use Rattle.board.specs.declared.Board.{Board}
use Rattle.board.proofs.Turns.{stopped_by, run_none, run_some}
use Rattle.ground.specs.Refusal.{number}
use Rattle.board.proofs.run.dextolumen_board_run.Goals as goal

pub returns-in-Ok : goal.returns-in-Ok
returns-in-Ok c = run_some _ _ _ c.in-Ok.ensures c.run_from.ensures refl

pub returns-in-Err : goal.returns-in-Err
returns-in-Err c =
    run_none _ _ _ c.in-Err.ensures (c.stopped.ensures ∙ ap (λ (b : Board). stopped_by (number c.in-Err.refusal) b) c.single.ensures)
    (λ z. omega (arith, number_positive c.in-Err.refusal, z))
