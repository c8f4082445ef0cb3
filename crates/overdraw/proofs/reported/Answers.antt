-- `reported` meets its contract: the lines that were gathered, and the total unless a file is left out. Assumes nothing.
use Rattle.std.proofs.Common.{rules, refl}
use Rattle.overdraw.proofs.Coming.{come_room, come_whole, come_part}
use Rattle.overdraw.proofs.reported.Goals as goal

pub finish-requires : goal.finish-requires
finish-requires g c = let room = come_room c.in-Ok.ensures in record { each_within = room.0; end_in_bounds = room.1 }

pub returns-in-Ok : goal.returns-in-Ok
returns-in-Ok g c = come_whole c.in-Ok.ensures refl c.finish.ensures (search rules)

pub returns-in-Err : goal.returns-in-Err
returns-in-Err g c = come_part c.in-Err.ensures.1 refl (search rules)
