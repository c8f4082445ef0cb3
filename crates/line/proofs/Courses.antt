-- Why a course tells the spot of each step: along either axis the spot moves by so many widths as pixels, and the two axes add up. What
-- is taken stands on the other side of the equation, so that nothing falls below 0. Assumes nothing.
use Rattle.std.proofs.Common.{◌≡◌, ℕ, ◌+◌, ◌-◌, ◌*◌, ◌≤◌, Bool, true, false, cond, leb, refl, ap, add-mul, mul-zero, sub-add_cancel, arith, leb-false}
use Rattle.picture.specs.declared.Vertex.{Vertex}
use Rattle.line.specs.declared.slope.Slope.{Slope}
use Rattle.line.specs.declared.course.Move.{Move}
use Rattle.line.specs.declared.course.Course.{Course}
use Rattle.line.specs.Segment.{distance, towards, side_at, x_at, y_at}
use Rattle.line.specs.Step.{OnStep}
use Rattle.line.specs.Course.{move, course, move_of, course_of, OnCourse, spot_at}
use Rattle.line.proofs.Steps.{lands_level, lands_steep}

-- along one axis
along : (from to far width : ℕ) → far ≤ distance from to
    → from * width + far * (move_of from to width).up ≡ towards from to far * width + far * (move_of from to width).down
unfolding move_of
along from to far width h = go (leb from to) refl
  where
    go : (t : Bool) → leb from to ≡ t
        → from * width + far * (cond t (move width 0) (move 0 width)).up
        ≡ cond t (from + far) (from - far) * width + far * (cond t (move width 0) (move 0 width)).down
    go true e = omega (arith, add-mul from far width, mul-zero far)
    go false e =
        let u = leb-false from to e in
        let l : far ≤ from = omega arith in
        omega (arith, mul-zero far, add-mul (from - far) far width, ap (λ (x : ℕ). x * width) (sub-add_cancel l))

-- the spot of step k, and what the course takes
pub course_spot : (width : ℕ) (a b : Vertex) (s : Slope) (k side : ℕ) (c : Course) → OnCourse width a b s c → OnStep a b s k
    → side ≡ side_at s.n s.m k
    → c.first + (k * c.ahead.up + side * c.aside.up) ≡ spot_at width a b k + (k * c.ahead.down + side * c.aside.down)
unfolding course_of
course_spot width a b s k side c e h f = rw e (go s.level refl)
  where
    x : Move
    x = move_of a.x b.x 1

    y : Move
    y = move_of a.y b.y (width)

    go : (t : Bool) → s.level ≡ t
        → let c = cond t (course width (a.y * width + a.x) x y) (course width (a.y * width + a.x) y x) in
        c.first + (k * c.ahead.up + side * c.aside.up) ≡ y_at a b k * width + x_at a b k + (k * c.ahead.down + side * c.aside.down)
    go true t =
        let l = lands_level a b s k side h f t in
        omega (arith, along a.x b.x k 1 l.across_fits, along a.y b.y side (width) l.up_fits, l.x, ap (λ (v : ℕ). v * width) l.y)
    go false t =
        let l = lands_steep a b s k side h f t in
        omega (arith, along a.x b.x side 1 l.across_fits, along a.y b.y k (width) l.up_fits, l.x, ap (λ (v : ℕ). v * width) l.y)
