-- `room` meets its contract: as many places as the array has, each with the value. Assumes nothing.
use mathlib.Core.Path.{refl, sym}
use lib.ListN.{length-replicate}
use Rattle.console.specs.Room.{filled}
use Rattle.console.proofs.room.Goals as goal

pub returns : goal.returns
unfolding filled
returns g c = record { same = refl; long = sym (length-replicate g.row.N c.args.value) }
