-- `door::solo_data` meets its contract: a code of two bits, and the other fourteen, fit. Assumes nothing.
use Rattle.std.proofs.Common.{arith}
use Rattle.board.specs.Door.{solo_data}
use Rattle.board.proofs.Sent.{code_told}
use Rattle.board.proofs.door.solo_data.Goals as goal

pub overflow_mul-result-2 : goal.overflow_mul-result-2
overflow_mul-result-2 c = omega (arith, code_told _ _ c.solo_code-code.ensures)

pub overflow_add-result : goal.overflow_add-result
overflow_add-result c = omega (arith, code_told _ _ c.solo_code-code.ensures, c.ranges)

pub overflow_add-result-2 : goal.overflow_add-result-2
overflow_add-result-2 c = omega (arith, code_told _ _ c.solo_code-code.ensures, c.ranges)

pub returns : goal.returns
unfolding solo_data
returns c = rw c.solo_code-code.ensures
