-- `trace::Meaning::put` meets its contract: a row and a share, one behind the other. Assumes nothing.
use Rattle.std.proofs.Common.{arith}
use Rattle.report.proofs.Putting.{add_after, room_after}
use Rattle.listing.specs.Trace.{meaning_text}
use Rattle.listing.proofs.Traces.{length_row}
use Rattle.listing.proofs.trace.Meaning.put.Goals as goal

pub put_share-requires : goal.put_share-requires
put_share-requires c =
    room_after _ c.put_row.ensures (omega (arith, length_row c.args.self.row))

pub returns : goal.returns
unfolding meaning_text
returns c =
    add_after c.put_row.ensures c.put_share.ensures
