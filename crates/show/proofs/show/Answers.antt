-- `show` meets its contract: the first places of blank ones are fresh memories. Assumes nothing.
use borrow.Author.Rules.{rules}
use Rattle.show.proofs.Pages.{first_fresh}
use Rattle.show.proofs.show.Goals as goal

pub write_drawn-written-requires : goal.write_drawn-written-requires
write_drawn-written-requires g c =
    first_fresh c.room-room.result (search rules) c.blank-im.ensures c.blank-zm.ensures
