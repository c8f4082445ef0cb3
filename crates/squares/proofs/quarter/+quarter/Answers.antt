-- Of a square outside the pictures, and of one of side 8 without a difference, nothing remains; one of side 8 with a difference remains itself; of a
-- larger one each quarter has room behind those before it, and together they are what remains of the square. Assumes nothing.
use Rattle.std.proofs.Common.{ℕ, ◌<◌, Bool, List, sym, ◌∙◌, arith}
use Rattle.squares.specs.Squares.{corner}
use Rattle.squares.specs.Change.{differs}
use Rattle.squares.specs.Room.{Side, Room}
use Rattle.squares.proofs.Clip.{outside_alike}
use Rattle.squares.proofs.Split.{half_side, Splitting, adds_none, adds_unlisted, adds_itself, room_itself, room_lower_left, room_lower_right, room_upper_left, room_upper_right, adds_quarters}
use Rattle.squares.proofs.quarter.+quarter.Goals as goal

-- a square of a side above 8 is split
splitting : {marked : ℕ → ℕ → Bool} {side x y : ℕ} {found : List ℕ} → 8 < side → Side side → Room marked side (corner x y) found → Splitting marked side x y found
splitting large splits room = record { large = large; splits = splits; room = room }

pub returns-then-not-has : goal.returns-then-not-has
returns-then-not-has t c =
    let p = c.args.pictures.now in
    let s = c.args.square in
    let size = p.size in
    let marked = differs p.old.now p.new.now size.width size.rows in
    adds_none marked c.args.side s.x s.y c.args.found.now
    (outside_alike p.old.now p.new.now size.width size.rows s.x s.y c.args.side (sym c.has.ensures ∙ c.if-not-has.true))

pub push-requires : goal.push-requires
push-requires t c =
    let p = c.args.pictures.now in
    let s = c.args.square in
    let marked = differs p.old.now p.new.now p.size.width p.size.rows in
    room_itself marked c.args.side s.x s.y c.args.found.now c.if-side-le8.true (sym c.square_differs.ensures ∙ c.if-square_differs.true) c.requires.side c.requires.room

pub returns-then-square_differs : goal.returns-then-square_differs
returns-then-square_differs t c =
    let p = c.args.pictures.now in
    let s = c.args.square in
    let marked = differs p.old.now p.new.now p.size.width p.size.rows in
    rw (c.push.ensures, c.number.ensures)
    (adds_itself marked c.args.side s.x s.y c.args.found.now c.if-side-le8.true (sym c.square_differs.ensures ∙ c.if-square_differs.true))

pub returns-else-square_differs : goal.returns-else-square_differs
returns-else-square_differs t c =
    let p = c.args.pictures.now in
    let s = c.args.square in
    let marked = differs p.old.now p.new.now p.size.width p.size.rows in
    adds_unlisted marked c.args.side s.x s.y c.args.found.now c.if-side-le8.true (sym c.square_differs.ensures ∙ c.if-square_differs.false)

pub quarter-requires : goal.quarter-requires
quarter-requires t c =
    let split = splitting c.if-side-le8.false c.requires.side c.requires.room in
    (omega (arith, c.decreases), (omega (arith, c.requires.side_bound), (half_side _ c.if-side-le8.false c.requires.side, room_lower_left split)))

pub quarter-requires-2 : goal.quarter-requires-2
quarter-requires-2 t c =
    let split = splitting c.if-side-le8.false c.requires.side c.requires.room in
    (omega (arith, c.decreases), (omega (arith, c.requires.side_bound), (half_side _ c.if-side-le8.false c.requires.side, room_lower_right split c.quarter.ensures)))

pub quarter-requires-3 : goal.quarter-requires-3
quarter-requires-3 t c =
    let split = splitting c.if-side-le8.false c.requires.side c.requires.room in
    (omega (arith, c.decreases), (omega (arith, c.requires.side_bound), (half_side _ c.if-side-le8.false c.requires.side, room_upper_left split c.quarter.ensures c.quarter-2.ensures)))

pub quarter-requires-4 : goal.quarter-requires-4
quarter-requires-4 t c =
    let split = splitting c.if-side-le8.false c.requires.side c.requires.room in
    (omega (arith, c.decreases), (omega (arith, c.requires.side_bound), (half_side _ c.if-side-le8.false c.requires.side, room_upper_right split c.quarter.ensures c.quarter-2.ensures c.quarter-3.ensures)))

pub returns : goal.returns
returns t c =
    let split = splitting c.if-side-le8.false c.requires.side c.requires.room in
    adds_quarters split c.quarter.ensures c.quarter-2.ensures c.quarter-3.ensures c.quarter-4.ensures
