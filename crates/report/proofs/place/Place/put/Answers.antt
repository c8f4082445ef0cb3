-- `place::Place::put` meets its contract: two pairs, one behind the other, and nothing where I is 0. Assumes nothing.
use Rattle.std.proofs.Common.{arith}
use Rattle.report.proofs.Lengths.{shown_lem, length_shown, seen}
use Rattle.report.proofs.Putting.{add_after, room_after}
use Rattle.report.proofs.place.Place.put.Goals as goal

pub put_pair-requires : goal.put_pair-requires
put_pair-requires c =
    rw (c.column-x.ensures, c.row-y.ensures) (omega (arith, length_shown c.args.self (seen c.args.self.i c.shows.ensures c.if-shows.true)))

pub put_pair-requires-then-shows : goal.put_pair-requires-then-shows
put_pair-requires-then-shows c =
    room_after _ (rw (c.column-x.ensures, c.row-y.ensures) at c.put_pair.ensures) (omega (arith, length_shown c.args.self (seen c.args.self.i c.shows.ensures c.if-shows.true)))

pub returns-then-shows : goal.returns-then-shows
returns-then-shows c =
    rw (shown_lem c.args.self (seen c.args.self.i c.shows.ensures c.if-shows.true)) (add_after (rw (c.column-x.ensures, c.row-y.ensures) at c.put_pair.ensures) c.put_pair-then-shows.ensures)
