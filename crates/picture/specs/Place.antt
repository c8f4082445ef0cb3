-- Where pixels lie in the lent memories (document 01, "What the card models"; requests [8], [9] and [12]).
use Rattle.std.specs.Prelude.{ℕ, ◌+◌, ◌-◌, ◌*◌, ◌/◌, ◌%◌, min, Bool, true, cond, not, ◌&&◌, ◌||◌, ◌==◌, nat_lt}
use Rattle.picture.specs.declared.Frame.{Frame}
use Rattle.picture.specs.Limits.{most_rows}

-- a line length, and the number of a layout
abbrev pub frame_of : ℕ → ℕ → Frame
frame_of line layout = record { line = line; layout = layout }

-- a frame of a line length whose rows lie one after the other
abbrev pub plain_frame : ℕ → Frame
plain_frame line = frame_of line 0

-- how pixels lie: rows one after the other; tiles of four by four; or what one unit of a board has of each row, its columns alone
pub data Layout : Type 0 where
  plain tiled : Layout
  share : ℕ → ℕ → Layout

-- rows by the number 0 and by those from 8 on, tiles by 1; by 2 to 7 the units of boards of two and of four, each by the sum of both numbers. A record
-- may hold those up to 7 (docs/REGISTERS.md)
abbrev pub lies_plain : Frame → Bool
lies_plain frame = frame.layout == 0 || nat_lt 7 frame.layout

-- pixels lie in tiles by the number 1 alone
abbrev pub lies_tiled : Frame → Bool
lies_tiled frame = frame.layout == 1

-- how many units the board has that a number from 2 to 7 tells: two up to 3, and four from there on
abbrev pub ways_of : Frame → ℕ
ways_of frame = cond (nat_lt frame.layout 4) 2 4

-- the layout that the number of a frame tells; of a unit, it is what the number is above the number of units
unfoldable pub layout_of : Frame → Layout
layout_of frame = cond (lies_plain frame) plain (cond (lies_tiled frame) tiled (share (ways_of frame) (frame.layout - ways_of frame)))

-- the place of pixel (x, y): y times the line length, and x; in tiles those along a row come first, and inside a tile x does; a unit has each
-- of so many columns
unfoldable pub spot_of : Layout → ℕ → ℕ → ℕ → ℕ
spot_of plain line x y = y * line + x
spot_of tiled line x y = (y / 4 * (line / 4) + x / 4) * 16 + (4 * (y % 4) + x % 4)
spot_of (share ways unit) line x y = y * (line / ways) + x / ways

-- the place of pixel (x, y), by the layout and the line length of a frame
unfoldable pub place_of : Frame → ℕ → ℕ → ℕ
place_of frame x y = spot_of (layout_of frame) frame.line x y

-- the line length is some, and whole tiles, or as much for each unit
unfoldable pub is_whole : Layout → ℕ → Bool
is_whole plain line = not (line == 0)
is_whole tiled line = not (line == 0) && line % 4 == 0
is_whole (share ways unit) line = not (line == 0) && not (ways == 0) && line % ways == 0

-- the places of a row
unfoldable pub width_of : Layout → ℕ → ℕ
width_of plain line = line
width_of tiled line = line
width_of (share ways unit) line = line / ways

-- the whole rows, or bands of four rows, that so many places hold
unfoldable pub rows_in : Layout → ℕ → ℕ → ℕ
rows_in plain line n = n / line
rows_in tiled line n = n / (4 * line) * 4
rows_in (share ways unit) line n = n / (line / ways)

-- the rows in use of memories of two lengths: those that fit both, at most `most_rows`, and none where the line length does not suit the layout
unfoldable pub rows_of : Frame → ℕ → ℕ → ℕ
rows_of frame ni nz = cond (is_whole (layout_of frame) frame.line) (min (rows_in (layout_of frame) frame.line (min ni nz)) most_rows) 0

-- the columns that a memory has: of a unit, those whose remainder is its own
unfoldable pub mine : Layout → ℕ → Bool
mine plain x = true
mine tiled x = true
mine (share ways unit) x = x % ways == unit

-- pixel (x, y) is inside the memory, of which so many rows are in use
unfoldable pub in_memory : Frame → ℕ → ℕ → ℕ → Bool
in_memory frame rows x y = nat_lt x frame.line && nat_lt y rows && mine (layout_of frame) x
