-- `reset` meets its contract: a number that a board may have fits its record. Assumes nothing.
use Rattle.std.proofs.Common.{sym, ◌∙◌, arith}
use Rattle.board.specs.Calls.{resetting}
use Rattle.board.proofs.Sent.{board_ways, ways_low}
use Rattle.board.proofs.reset.Goals as goal

pub returns-then-not-is_board : goal.returns-then-not-is_board
unfolding resetting
returns-then-not-is_board c = rw (← c.is_board.ensures, c.if-not-is_board.true)

pub overflow_cast-result : goal.overflow_cast-result
overflow_cast-result c = omega (arith, ways_low _ (board_ways _ (sym c.is_board.ensures ∙ c.if-not-is_board.false)))

pub returns : goal.returns
unfolding resetting
returns c = rw (← c.is_board.ensures, c.if-not-is_board.false, c.reset.ensures)
