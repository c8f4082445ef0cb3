-- `repair` meets its contract: with room enough the library's call is not refused. Assumes nothing.
use Rattle.mend.proofs.Room.{repaired}
use Rattle.mend.proofs.repair.Goals as goal

pub returns : goal.returns
returns c =
    repaired c.requires c.dextolumen_mend.ensures
