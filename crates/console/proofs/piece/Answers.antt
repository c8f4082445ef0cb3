-- `piece` meets its contract: the room that it calls for. Assumes nothing.
use Rattle.console.proofs.piece.Goals as goal

pub returns : goal.returns
returns c = c.room.ensures
