-- `place::is_mine` meets its contract. Assumes nothing.
use Rattle.std.proofs.Common.{sym}
use Rattle.ground.proofs.Truth.{neither}
use Rattle.picture.proofs.Places.{whole_mine, mine_shared}
use Rattle.picture.proofs.place.is_mine.Goals as goal

pub returns-then-lies_plain-lies_tiled : goal.returns-then-lies_plain-lies_tiled
returns-then-lies_plain-lies_tiled c =
    sym (whole_mine c.args.frame c.args.x (rw (c.lies_plain.ensures, c.lies_tiled.ensures) at c.if-lies_plain-lies_tiled.true))

pub returns : goal.returns
returns c =
    let other = neither _ _ (rw (c.lies_plain.ensures, c.lies_tiled.ensures) at c.if-lies_plain-lies_tiled.false) in
    mine_shared c.args.frame c.args.x _ other.0 other.1 c.ways_of-ways.ensures.0
