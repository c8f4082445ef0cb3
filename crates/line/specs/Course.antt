-- How the spot of a step moves: the number that tells its pixel by the row times a width and the column.
use Rattle.std.specs.Prelude.{◌≡◌, ℕ, ◌+◌, ◌*◌, Bool, cond, nat_le}
use Rattle.picture.specs.declared.Vertex.{Vertex}
use Rattle.line.specs.declared.slope.Slope.{Slope}
use Rattle.line.specs.declared.course.Move.{Move}
use Rattle.line.specs.declared.course.Course.{Course}
use Rattle.line.specs.Segment.{x_at, y_at}

-- a move that adds one number to the spot, and takes another from it
abbrev pub move : ℕ → ℕ → Move
move up down = record { up = up; down = down }

-- a course of spots of a width from a first spot on, with the move of each step along the leading axis and the one to the side
abbrev pub course : ℕ → ℕ → Move → Move → Course
course width first ahead aside = record { width = width; first = first; ahead = ahead; aside = aside }

-- a pixel towards a larger number adds the width to the spot, and towards a smaller one it takes it
unfoldable pub move_of : ℕ → ℕ → ℕ → Move
move_of from to width = cond (nat_le from to) (move width 0) (move 0 width)

-- a pixel along x is one, a pixel along y is a width
unfoldable pub course_of : ℕ → Vertex → Vertex → Bool → Course
course_of width a b level =
    cond level (course width (a.y * width + a.x) (move_of a.x b.x 1) (move_of a.y b.y width))
    (course width (a.y * width + a.x) (move_of a.y b.y width) (move_of a.x b.x 1))

-- c is the course of the segment from a to b
abbrev pub OnCourse : ℕ → Vertex → Vertex → Slope → Course → Type 0
OnCourse width a b s c = c ≡ course_of width a b s.level

-- the spot of step k
abbrev pub spot_at : ℕ → Vertex → Vertex → ℕ → ℕ
spot_at width a b k = y_at a b k * width + x_at a b k
