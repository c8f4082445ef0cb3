-- `dextolumen_board_read` meets its contract: the board's own numbers, and then the chip's read. Assumes nothing.
use Rattle.std.proofs.Common.{refl, arith}
use Rattle.ground.proofs.Numbers.{number_positive}
use Rattle.board.proofs.Taken.{read_refused, read_taken}
use Rattle.board.proofs.read.dextolumen_board_read.Goals as goal

pub returns-in-Err : goal.returns-in-Err
returns-in-Err c =
    rw c.refused.ensures (read_refused _ _ c.is_even-even.ensures c.in-Err.ensures (λ z. omega (arith, number_positive c.in-Err.refusal, z)))

pub returns-in-Ok : goal.returns-in-Ok
returns-in-Ok c = read_taken _ _ c.is_even-even.ensures c.in_default.ensures refl c.in-Ok.ensures

pub returns-in-Err-read : goal.returns-in-Err-read
returns-in-Err-read c = rw c.refused-in-Err-read.ensures (read_taken _ _ c.is_even-even.ensures c.in_default.ensures refl c.in-Err-read.ensures)
