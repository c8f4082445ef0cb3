-- `recording` meets its contract: the room that it calls for. Assumes nothing.
use Rattle.console.proofs.recording.Goals as goal

pub returns : goal.returns
returns c = c.room.ensures
