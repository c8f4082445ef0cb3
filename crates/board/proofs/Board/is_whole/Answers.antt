-- `Board::is_whole` meets its contract: the code is the definition. Assumes nothing.
use Rattle.board.specs.Board.{is_whole_by}
use Rattle.board.proofs.Board.is_whole.Goals as goal

pub returns : goal.returns
unfolding is_whole_by
returns c = rw c.is_board.ensures
