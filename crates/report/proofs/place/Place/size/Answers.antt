-- `place::Place::size` meets its contract: four numbers, and a byte after each. Assumes nothing.
use Rattle.std.proofs.Common.{ap, ℕ, length, arith}
use Rattle.report.specs.Text.{decimal, column_of, row_of}
use Rattle.report.proofs.Lengths.{length_shown, shown_none, length_pair, unseen, seen}
use Rattle.report.proofs.place.Place.size.Goals as goal

pub returns-then-not-shows : goal.returns-then-not-shows
returns-then-not-shows c =
    let none = ap (length {A = ℕ}) (shown_none c.args.self (unseen c.args.self.i c.shows.ensures c.if-not-shows.true)) in
    record { size = omega (arith, none); small = omega arith }

pub returns : goal.returns
returns c =
    let p = c.args.self in
    let all = length_shown p (seen p.i c.shows.ensures c.if-not-shows.false) in
    let first = length_pair (column_of p.line p.index) (row_of p.line p.index) 32 in
    let x = ap (λ (n : ℕ). length (decimal n)) c.column.ensures in
    let y = ap (λ (n : ℕ). length (decimal n)) c.row.ensures in
    record { size = omega (arith, all, first, x, y, length_pair p.i p.z 10); small = omega arith }
