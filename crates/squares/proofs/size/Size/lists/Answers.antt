-- `Size::lists` meets its contract. Assumes nothing.
use Rattle.std.proofs.Common.{◌%◌, ◌&&◌}
use lib.Dec.{ltb, eqb}
use Rattle.squares.specs.Calls.{is_square}
use Rattle.squares.proofs.Any.{two_more}
use Rattle.squares.proofs.size.Size.lists.Goals as goal

pub returns : goal.returns
unfolding is_square
returns c =
    let s = c.args.square in
    let size = c.args.self in
    rw c.has.ensures (two_more (eqb (s.x % 8) 0 && eqb (s.y % 8) 0) (ltb s.x size.width) (ltb s.y size.rows))
