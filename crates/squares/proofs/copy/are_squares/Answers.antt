-- `copy::are_squares` meets its contract. Assumes nothing.
use Rattle.std.proofs.Common.{sym, ◌∙◌, arith}
use lib.ListN.{drop_of_length-le}
use Rattle.squares.proofs.Lists.{squares_next, squares_none}
use Rattle.squares.proofs.copy.are_squares.Goals as goal

pub returns-then-not-is_square : goal.returns-then-not-is_square
returns-then-not-is_square c =
    let a = c.args in
    let no = sym c.is_square.ensures ∙ c.if-not-is_square.true in
    sym (sym c.loop-k.invariant ∙ squares_next a.size.width a.size.rows a.list.now c.loop-k.k (omega arith) ∙ rw no)

pub loop-k-preserved : goal.loop-k-preserved
loop-k-preserved c =
    let a = c.args in
    let yes = sym c.is_square.ensures ∙ c.if-not-is_square.false in
    sym (squares_next a.size.width a.size.rows a.list.now c.loop-k.k (omega arith) ∙ rw yes) ∙ c.loop-k.invariant

pub returns : goal.returns
returns c =
    let a = c.args in
    sym (sym c.loop-k.invariant ∙ rw (drop_of_length-le a.list.now {i = c.loop-k.k} (omega arith)) (squares_none a.size.width a.size.rows))
