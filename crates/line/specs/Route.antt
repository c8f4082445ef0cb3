-- The route of a segment: in which way a loop finds the places of its steps, what stays from step to step, and how a walk goes on.
use Rattle.std.specs.Prelude.{◌≡◌, ℕ, ◌+◌, ◌*◌, ◌/◌, ◌%◌, ◌^◌, Bool, true, false, cond, ◌==◌}
use Rattle.picture.specs.declared.Frame.{Frame}
use Rattle.picture.specs.declared.Pen.{Pen}
use Rattle.picture.specs.declared.Vertex.{Vertex}
use Rattle.picture.specs.Place.{lies_plain, lies_tiled, tiled, spot_of}
use Rattle.picture.specs.Picture.{is_deep}
use Rattle.line.specs.declared.Mode.{Mode}
use Rattle.line.specs.declared.Style.{Style}
use Rattle.line.specs.declared.part.Part.{Part}
use Rattle.line.specs.declared.slope.Slope.{Slope}
use Rattle.line.specs.declared.walk.Walk.{Walk}
use Rattle.line.specs.declared.walk.Step.{Step}
use Rattle.line.specs.declared.route.Route.{Route}
use Rattle.line.specs.declared.route.Way.{Way}
use Rattle.line.specs.declared.route.Way.TheVariants.{Rows, Tiles, Shares, Asked}
use Rattle.line.specs.Segment.{kind_of, first_of}
use Rattle.line.specs.Step.{slope_of}
use Rattle.line.specs.Course.{OnCourse}
use Rattle.line.specs.Part.{part_of, has_place}
use Rattle.line.specs.Walk.{Carries, Stands, twice_of, next_of}
use Rattle.line.specs.Ink.{joined_in}
use Rattle.line.specs.Field.{in_field, ends_within, is_open, is_bare}

-- how pixels lie: in rows, in tiles, or what a unit has of each row
unfoldable pub lies_of : Frame → Way
lies_of frame = cond (lies_plain frame) Rows (cond (lies_tiled frame) Tiles Shares)

-- the way of a loop: how pixels lie, where both ends of the segment are inside; else in rows, asking at each step
unfoldable pub way_of : Frame → Bool → Way
way_of frame inside = cond inside (lies_of frame) Asked

-- the width of spots: the line length, so that a spot is the place in a picture of rows; in tiles, and where each step asks, it is 65,536, so that column and
-- row are read from it
abbrev pub spot_width : Way → Frame → ℕ
spot_width Rows frame = frame.line
spot_width Tiles frame = 65536
spot_width Shares frame = frame.line
spot_width Asked frame = 65536

-- the column of a spot whose width is 65,536
abbrev pub column_of : ℕ → ℕ
column_of at = at % 65536

-- the row of a spot whose width is 65,536
abbrev pub row_of : ℕ → ℕ
row_of at = at / 65536 % 65536

-- the memory has the pixel of a spot: a unit asks for its part, and the last way for the window and the memory
abbrev pub is_here : Pen → ℕ → Way → Part → ℕ → Bool
is_here pen rows Rows part at = true
is_here pen rows Tiles part at = true
is_here pen rows Shares part at = has_place part at
is_here pen rows Asked part at = in_field pen rows (column_of at) (row_of at)

-- the place of a spot
abbrev pub placed_at : Frame → Way → Part → ℕ → ℕ
placed_at frame Rows part at = at
placed_at frame Tiles part at = spot_of tiled frame.line (column_of at) (row_of at)
placed_at frame Shares part at = at / 2 ^ part.shift
placed_at frame Asked part at = row_of at * frame.line + column_of at

-- where x leads, a walk of as many steps at once as a board has units
unfoldable pub far_of : Part → Slope → Walk → Walk
far_of part s w = cond s.level (cond (part.shift == 1) (twice_of w) (twice_of (twice_of w))) w

-- r is the route of the segment of its slope, in a way, with so many rows in use, for lines that have depths or not
pub record OnRoute (frame : Frame) (rows : ℕ) (way : Way) (deep : Bool) (r : Route) : Type 0 where
  pub sloped : r.slope ≡ slope_of r.slope.a r.slope.b
  pub wide : r.course.width ≡ spot_width way frame
  pub placed : OnCourse r.course.width r.slope.a r.slope.b r.slope r.course
  pub limited : r.rows ≡ rows
  pub shared : r.part ≡ part_of frame
  pub carries : Carries deep r.slope.a r.slope.b r.slope r.near
  pub further : r.far ≡ far_of r.part r.slope r.near

-- a unit goes far from a place that it has; everything else goes step by step
abbrev pub onward_of : Way → Route → ℕ → Step → Step
onward_of Rows r at p = next_of r.near p
onward_of Tiles r at p = next_of r.near p
onward_of Shares r at p = cond (has_place r.part at) (next_of r.far p) (next_of r.near p)
onward_of Asked r at p = next_of r.near p

-- p is the first step that is drawn
abbrev pub Begins : Style → Route → Step → Type 0
Begins style r p = Stands r.near p × (p.k ≡ first_of (joined_in style style.mode))

-- the pen asks nothing but depths of the segment's pixels, and a loop draws it in this way: where its ends are not inside, pixels lie in rows
pub record Goes (pen : Pen) (rows : ℕ) (style : Style) (way : Way) (a b : Vertex) : Type 0 where
  pub so : way ≡ way_of pen.frame (ends_within pen rows a b)
  pub plain : ends_within pen rows a b ≡ false → lies_plain pen.frame ≡ true
  pub clear : is_open pen (kind_of style.mode) ≡ true
  pub bare : is_bare pen (kind_of style.mode) ≡ true

-- what the loops of a way are given: the route, and the first step
pub record Sets (pen : Pen) (rows : ℕ) (style : Style) (way : Way) (r : Route) (p : Step) : Type 0 where
  pub goes : Goes pen rows style way r.slope.a r.slope.b
  pub route : OnRoute pen.frame rows way (is_deep (kind_of style.mode)) r
  pub begins : Begins style r p

-- what the loop knows besides: the mode that it is compiled for
pub record Traces (pen : Pen) (rows : ℕ) (style : Style) (mode : Mode) (way : Way) (r : Route) : Type 0 where
  pub moded : mode ≡ style.mode
  pub goes : Goes pen rows style way r.slope.a r.slope.b
  pub route : OnRoute pen.frame rows way (is_deep (kind_of style.mode)) r
