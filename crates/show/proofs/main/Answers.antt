-- `main` meets its contract: no more places are asked for than there may be. Assumes nothing.
use Rattle.show.proofs.Asking.{asked_few, few_room}
use Rattle.show.proofs.main.Goals as goal

pub read-requires : goal.read-requires
read-requires c =
    few_room c.in-Ok.wanted (rw c.in-Ok.is at (asked_few c.asked-wanted.result _ _ _ _ c.asked-wanted.ensures))
