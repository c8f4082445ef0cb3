-- What the code of a triangle leans on. No promise of a public call cites anything here.
use Rattle.std.specs.Prelude.{◌≡◌, ℕ, ◌+◌, ◌-◌, ◌*◌, ◌/◌, ◌%◌, ◌^◌, ◌<◌, ◌≤◌, min, max, Bool, true, false, cond, nat_lt, Option, Some, None}
use Rattle.picture.specs.declared.Vertex.{Vertex}
use Rattle.picture.specs.declared.Pen.{Pen}
use Rattle.picture.specs.declared.Kind.TheVariants.{Constant}
use Rattle.picture.specs.declared.Stretch.{Stretch}
use Rattle.picture.specs.Draw.{carried_one, carried_to, is_plain}
use Rattle.picture.specs.Place.{lies_tiled, rows_of}
use Rattle.triangle.specs.declared.Corners.{Corners}
use Rattle.triangle.specs.declared.Numbers.{Numbers}
use Rattle.triangle.specs.declared.Edges.{Edges}
use Rattle.triangle.specs.declared.Limits.{Limits}
use Rattle.triangle.specs.declared.Height.{Height}
use Rattle.triangle.specs.declared.Side.{Side}
use Rattle.triangle.specs.declared.Sum.{Sum}
use Rattle.triangle.specs.declared.Flanks.{Flanks}
use Rattle.triangle.specs.declared.Rising.{Rising}
use Rattle.triangle.specs.declared.Slopes.{Slopes}
use Rattle.triangle.specs.declared.Shades.{Shades}
use Rattle.triangle.specs.declared.Shades.TheVariants.{Flat, Carried, Divided}
use Rattle.triangle.specs.Edge.{plus_of, minus_of, edge_at, closed, covers, amount, area_of}
use Rattle.triangle.specs.Number.{mass_of, shade}
use Rattle.triangle.specs.Offers.{pixel_at}

-- the three edges at a pixel
abbrev pub edges_at : Corners → ℕ → ℕ → Edges
edges_at t x y = record { ab = edge_at t.a t.b x y; bc = edge_at t.b t.c x y; ca = edge_at t.c t.a x y }

-- the corners turn anticlockwise
pub record Turned (t : Corners) : Type 0 where
  pub turns : (edge_at t.a t.b t.c.x t.c.y).minus < (edge_at t.a t.b t.c.x t.c.y).plus

-- no corner lies lower than the first
pub record Lowest (t : Corners) : Type 0 where
  pub of_b : t.a.y ≤ t.b.y
  pub of_c : t.a.y ≤ t.c.y

-- the corners in the same turn, with the second one first
abbrev pub second_first : Corners → Corners
second_first t = record { a = t.b; b = t.c; c = t.a; last = t.last }

-- the corners in the same turn, with the lowest first
unfoldable pub lowest_first : Corners → Corners
lowest_first t =
    cond (nat_lt t.b.y (min t.a.y t.c.y)) (second_first t)
    (cond (nat_lt t.c.y t.a.y) (second_first (second_first t)) t)

-- the corners turn anticlockwise, and d is their doubled area
pub record Sized (t : Corners) (d : ℕ) : Type 0 where
  pub turned : Turned t
  pub area : d ≡ area_of t
  pub small : d ≤ 12884508675

-- what the numbers of a covered pixel lean on
pub record Ready (t : Corners) (d : ℕ) (e : Edges) : Type 0 where
  pub area : d ≡ area_of t
  pub some : 0 < d
  pub small : d ≤ 12884508675
  pub ab : e.ab.minus ≤ e.ab.plus
  pub bc : e.bc.minus ≤ e.bc.plus
  pub ca : e.ca.minus ≤ e.ca.plus
  pub whole : amount e.bc + amount e.ca + amount e.ab ≡ d

-- ---- the columns of a row

-- what an edge must exceed the other side by
abbrev pub short : Bool → ℕ
short true = 0
short false = 1

-- h is the height of the edge from a to b, with its reciprocal
pub record Measures (a b : Vertex) (h : Height) : Type 0 where
  pub is : h.tall ≡ a.y - b.y + (b.y - a.y)
  pub least : 0 < h.tall → carried_one ≤ h.inverse * h.tall
  pub most : 0 < h.tall → h.inverse * h.tall ≤ carried_one + h.tall

-- the edge from a to b leaves the pixel inside
pub record Keeps (a b : Vertex) (x y : ℕ) : Type 0 where
  pub so : minus_of a.x a.y b.x b.y x y + short (closed a b) ≤ plus_of a.x a.y b.x b.y x y

-- s is the edge from a to b in row y: one that falls bounds the columns from the left, any other from the right, by its number over its height; what a row adds
-- to the number is `step`, both modulo 2 ^ 64
pub record Stands (a b : Vertex) (y : ℕ) (s : Side) : Type 0 where
  pub fits : s.at < 18446744073709551616
  pub falls : b.y < a.y
      → ((s.at + (plus_of a.x a.y b.x b.y 0 y + 1)) % 2 ^ 64 ≡ minus_of a.x a.y b.x b.y 0 y + short (closed a b) + s.height.tall)
      × ((s.step + b.x) % 2 ^ 64 ≡ a.x)
  pub rises : a.y ≤ b.y
      → ((s.at + (minus_of a.x a.y b.x b.y 0 y + short (closed a b))) % 2 ^ 64 ≡ plus_of a.x a.y b.x b.y 0 y + s.height.tall)
      × ((s.step + a.x) % 2 ^ 64 ≡ b.x)
  pub height : Measures a b s.height

-- the same edge a row on
abbrev pub raised_of : Side → Side
raised_of s = record { at = (s.at + s.step) % 2 ^ 64; step = s.step; height = s.height }

-- s is an edge with a height of 16 bits and its reciprocal, and its number is that of a column, as it is in a row between its ends
pub record Crosses (s : Side) : Type 0 where
  pub some : 0 < s.height.tall
  pub low : s.height.tall ≤ 65535
  pub near : s.at < 65536 * s.height.tall
  pub least : carried_one ≤ s.height.inverse * s.height.tall
  pub most : s.height.inverse * s.height.tall ≤ carried_one + s.height.tall

-- r bounds the columns that the edge keeps of row y: those from r on where it falls, and those below r where it does not
pub record Bounds (a b : Vertex) (y r : ℕ) : Type 0 where
  pub falls : b.y < a.y → (x : ℕ) → x < 65536 → (r ≤ x → Keeps a b x y) × (Keeps a b x y → r ≤ x)
  pub rises : a.y ≤ b.y → (x : ℕ) → x < 65536 → (x < r → Keeps a b x y) × (Keeps a b x y → x < r)

-- r is what the edge keeps of s
pub record Cuts (a b : Vertex) (y : ℕ) (s r : Limits) : Type 0 where
  pub shrinks : r.hi ≤ s.hi
  pub inner : (x : ℕ) → r.lo ≤ x → x < r.hi → (s.lo ≤ x) × (x < s.hi) × (Keeps a b x y)
  pub outer : (x : ℕ) → s.lo ≤ x → x < s.hi → Keeps a b x y → (r.lo ≤ x) × (x < r.hi)

-- r is what the three edges keep of s
pub record CutsAll (t : Corners) (y : ℕ) (s r : Limits) : Type 0 where
  pub shrinks : r.hi ≤ s.hi
  pub inner : (x : ℕ) → r.lo ≤ x → x < r.hi → (s.lo ≤ x) × (x < s.hi) × (covers t x y ≡ true)
  pub outer : (x : ℕ) → s.lo ≤ x → x < s.hi → covers t x y ≡ true → (r.lo ≤ x) × (x < r.hi)

-- the columns from lo up to and without hi are the row's covered pixels within the columns of the window and the memory
pub record Spanned (pen : Pen) (t : Corners) (y lo hi : ℕ) : Type 0 where
  pub wide : hi ≤ pen.frame.line
  pub columns : (x : ℕ) → lo ≤ x → x < hi → (pen.left ≤ x) × (x ≤ pen.right) × (covers t x y ≡ true)
  pub rest : (x : ℕ) → x < pen.frame.line → pen.left ≤ x → x ≤ pen.right → covers t x y ≡ true → (lo ≤ x) × (x < hi)

-- ---- the rows of a triangle

-- row y is one of the rows of corners that turn anticlockwise, the lowest first
pub record Crossed (t : Corners) (y : ℕ) : Type 0 where
  pub turned : Turned t
  pub lowest : Lowest t
  pub above : t.a.y ≤ y
  pub below : y ≤ max t.b.y t.c.y

-- the row in which the edge from b to c begins, and takes the place of the edge that ends there
abbrev pub turn_of : Corners → ℕ
turn_of t = min t.b.y t.c.y

-- the third edge in the place of the one that ends: where it falls it bounds from the left
abbrev pub taken_of : Corners → Flanks → Flanks
taken_of t f =
    record {
      left = cond (nat_lt t.c.y t.b.y) f.third f.left;
      right = cond (nat_lt t.c.y t.b.y) f.right f.third;
      third = f.third;
      turn = f.turn;
    }

-- f bounds row y from the left and from the right: up to row `turn_of` by the edges at corner a, with the edge from b to c at hand as it stands in that row, and above
-- by that edge in the place of the one that has ended
pub record Flanked (t : Corners) (y : ℕ) (f : Flanks) : Type 0 where
  pub turn : f.turn ≡ turn_of t
  pub third : y ≤ turn_of t → Stands t.b t.c (turn_of t) f.third
  pub left : y ≤ turn_of t → Stands t.c t.a y f.left
  pub right : y ≤ turn_of t → Stands t.a t.b y f.right
  pub rises : turn_of t < y → t.b.y < t.c.y → (Stands t.c t.a y f.left) × (Stands t.b t.c y f.right)
  pub falls : turn_of t < y → t.c.y < t.b.y → (Stands t.b t.c y f.left) × (Stands t.a t.b y f.right)

-- one past the last row of the corners, the window and the memory
abbrev pub end_of : ℕ → ℕ → ℕ → ℕ → ℕ → ℕ
end_of size limit a b c = min size (min limit (max a (max b c)) + 1)

-- the first row: the lowest of the corners, or the window's lowest where that is higher
abbrev pub start_of : ℕ → ℕ → ℕ → ℕ → ℕ
start_of limit a b c = max limit (min a (min b c))

-- the rows of corners that turn anticlockwise, the lowest first, in the window and in memories of so many places: the first, one past the last, and the edges in
-- the first
pub record Ranges (pen : Pen) (t : Corners) (f : Flanks) (first top i z : ℕ) : Type 0 where
  pub turned : Turned t
  pub lowest : Lowest t
  pub start : first ≡ min (start_of pen.bottom t.a.y t.c.y t.b.y) top
  pub end : top ≡ end_of (rows_of pen.frame i z) pen.top t.a.y t.c.y t.b.y
  pub flanked : Flanked t first f

-- ---- numbers carried along a row

-- 2 N + D at pixel (x, y), from the corner numbers p, q, r
abbrev pub mass_by : Corners → ℕ → ℕ → ℕ → ℕ → ℕ → ℕ
mass_by t p q r x y = mass_of (amount (edge_at t.b t.c x y)) (amount (edge_at t.c t.a x y)) (amount (edge_at t.a t.b x y)) (area_of t) p q r

-- the columns of the corners
abbrev pub columns_of : Corners → Numbers
columns_of t = record { a = t.a.x; b = t.b.x; c = t.c.x }

-- their rows
abbrev pub levels_of : Corners → Numbers
levels_of t = record { a = t.a.y; b = t.b.y; c = t.c.y }

-- their intensities
abbrev pub intensities_of : Corners → Numbers
intensities_of t = record { a = t.a.i; b = t.b.i; c = t.c.i }

-- their depths
abbrev pub depths_of : Corners → Numbers
depths_of t = record { a = t.a.z; b = t.b.z; c = t.c.z }

-- the corner numbers p, q, r times the coordinate of the next corner, and times that of the one before
abbrev pub ahead : ℕ → ℕ → ℕ → ℕ → ℕ → ℕ → ℕ
ahead u v w p q r = p * v + q * w + r * u

-- the corner numbers p, q, r, each times the coordinate of the corner before, added up
abbrev pub behind : ℕ → ℕ → ℕ → ℕ → ℕ → ℕ → ℕ
behind u v w p q r = p * w + q * u + r * v

-- s is what a step along an axis adds to 2 N, modulo 2 ^ 64; u, v, w are the corners' coordinates along the other axis
pub record Slants (u v w p q r s : ℕ) : Type 0 where
  pub so : (s + 2 * behind u v w p q r) % 2 ^ 64 ≡ 2 * ahead u v w p q r
  pub fits : s < 18446744073709551616
  pub ahead_low : ahead u v w p q r ≤ 12884508675
  pub behind_low : behind u v w p q r ≤ 12884508675

-- s is what a pixel to the right adds to 2 N
abbrev pub Leans : Corners → ℕ → ℕ → ℕ → ℕ → Type 0
Leans t p q r s = Slants t.a.y t.b.y t.c.y p q r s

-- i and z are what a pixel to the right adds to the sums of I and Z
pub record LeansBoth (t : Corners) (i z : ℕ) : Type 0 where
  pub of_i : Leans t t.a.i t.b.i t.c.i i
  pub of_z : Leans t t.a.z t.b.z t.c.z z

-- N at column 0 of row y: what is added, and what is taken away
abbrev pub plus_at : Corners → ℕ → ℕ → ℕ → ℕ → ℕ
plus_at t p q r y = p * (edge_at t.b t.c 0 y).plus + q * (edge_at t.c t.a 0 y).plus + r * (edge_at t.a t.b 0 y).plus

-- the part of N at column 0 of row y that is taken away
abbrev pub minus_at : Corners → ℕ → ℕ → ℕ → ℕ → ℕ
minus_at t p q r y = p * (edge_at t.b t.c 0 y).minus + q * (edge_at t.c t.a 0 y).minus + r * (edge_at t.a t.b 0 y).minus

-- s is 2 N + D at column 0 of row y, and what a pixel to the right and a row up add to it, all modulo 2 ^ 64
pub record Sums (t : Corners) (p q r y : ℕ) (s : Sum) : Type 0 where
  pub at : (s.at + 2 * minus_at t p q r y) % 2 ^ 64 ≡ (2 * plus_at t p q r y + area_of t) % 2 ^ 64
  pub right : Leans t p q r s.right
  pub up : (s.up + 2 * ahead t.a.x t.b.x t.c.x p q r) % 2 ^ 64 ≡ 2 * behind t.a.x t.b.x t.c.x p q r

-- the same sum a row on
abbrev pub summed_up : Sum → Sum
summed_up s = record { at = (s.at + s.up) % 2 ^ 64; right = s.right; up = s.up }

-- what is carried from row to row, in row y
pub record Rises (t : Corners) (y : ℕ) (w : Rising) : Type 0 where
  pub flanks : Flanked t y w.flanks
  pub i : Sums t t.a.i t.b.i t.c.i y w.i
  pub z : Sums t t.a.z t.b.z t.c.z y w.z

-- a sum that can be carried: not too large, and with a factor that fits
pub record Begins (d : ℕ) (g : Slopes) (n : ℕ) : Type 0 where
  pub some : 0 < d
  pub fits : d ≤ 2147483648
  pub low : n ≤ 131071 * d
  pub factor : (f : ℕ) → g.factor ≡ Some f → (2 * d ≤ 65536) × (f * (2 * d) ≤ carried_one + 2 * d)

-- k is the sum n as it is carried: times the factor, or 2 ^ 48 times its quotient, rounded up
pub record Begun (d : ℕ) (g : Slopes) (n k : ℕ) : Type 0 where
  pub short : (f : ℕ) → g.factor ≡ Some f → k ≡ n * f
  pub long : g.factor ≡ None → (n * carried_one ≤ k * (2 * d)) × (k * (2 * d) ≤ n * carried_one + 1 * (2 * d))

-- a corner number's sum times f: 2 ^ 48 times the number, and less than 2 ^ 48 more
unfoldable pub scaled : Corners → ℕ → ℕ → ℕ → ℕ → ℕ → ℕ → ℕ
scaled t f p q r x y = mass_by t p q r x y * f

-- g is what one pixel to the right adds, modulo 2 ^ 64
pub record Paces (t : Corners) (f p q r g : ℕ) : Type 0 where
  pub go : (x y : ℕ) → covers t x y ≡ true → covers t (x + 1) y ≡ true → (scaled t f p q r x y + g) % 2 ^ 64 ≡ scaled t f p q r (x + 1) y

-- k is 2 ^ 48 times the number, and at most b more
pub record Near (t : Corners) (p q r x y b k : ℕ) : Type 0 where
  pub low : mass_by t p q r x y * carried_one ≤ k * (2 * area_of t)
  pub high : k * (2 * area_of t) ≤ mass_by t p q r x y * carried_one + b * (2 * area_of t)

-- one pixel to the right adds g, modulo 2 ^ 64, and at most 1 to what is too much
pub record Drifts (t : Corners) (p q r g : ℕ) : Type 0 where
  pub go : (x y b k : ℕ) → covers t x y ≡ true → covers t (x + 1) y ≡ true → b ≤ 65535
      → Near t p q r x y b k → Near t p q r (x + 1) y (b + 1) ((k + g) % 2 ^ 64)

-- the sums of a small triangle are carried exactly, by the factor f
pub record Glides (t : Corners) (f i z : ℕ) : Type 0 where
  pub few : 2 * area_of t ≤ 65536
  pub least : carried_one ≤ f * (2 * area_of t)
  pub most : f * (2 * area_of t) ≤ carried_one + 2 * area_of t
  pub of_i : Paces t f t.a.i t.b.i t.c.i i
  pub of_z : Paces t f t.a.z t.b.z t.c.z z

-- how the numbers of a triangle are carried along its rows
pub record Carries (t : Corners) (g : Slopes) : Type 0 where
  pub fits : area_of t ≤ 2147483648
  pub short : (f : ℕ) → g.factor ≡ Some f → Glides t f g.i g.z
  pub long : g.factor ≡ None → (Drifts t t.a.i t.b.i t.c.i g.i) × (Drifts t t.a.z t.b.z t.c.z g.z)

-- k at lo, and g added a pixel modulo 2 ^ 64, carry the number along the columns from lo to hi of row y
pub record Runs (t : Corners) (p q r lo hi y k g : ℕ) : Type 0 where
  pub tells : (j : ℕ) → lo + j < hi → (k + j * g) % 2 ^ 64 / carried_one ≡ shade t p q r (lo + j) y

-- the corners have a doubled area above 2 ^ 31, too large for carried numbers
pub record Large (t : Corners) : Type 0 where
  pub over : 2147483648 < area_of t

-- numbers that come to a triangle's pixels in a way that serves it: by divisions only where they cannot be carried
abbrev pub Shaded : Bool → Corners → Shades → Type 0
Shaded constant t Flat = constant ≡ true
Shaded constant t (Carried g) = (constant ≡ false) × Carries t g
Shaded constant t Divided = (constant ≡ false) × Large t

-- s is the row's covered pixels within the columns of the window and the memory, and its numbers are theirs
pub record Told (pen : Pen) (constant : Bool) (t : Corners) (y : ℕ) (s : Stretch) : Type 0 where
  pub row : s.y ≡ y
  pub some : s.lo < s.hi
  pub spanned : Spanned pen t y s.lo s.hi
  pub so : (j : ℕ) → s.lo + j < s.hi → (carried_to s.i j ≡ (pixel_at constant t (s.lo + j) y).i) × (carried_to s.z j ≡ (pixel_at constant t (s.lo + j) y).z)

-- a way of drawing a row that serves it: as one stretch, or each pixel by itself
abbrev pub Serves : Pen → Bool → Corners → ℕ → Option Stretch → Type 0
Serves pen constant t y (Some s) = Told pen constant t y s
Serves pen constant t y None = (constant ≡ false) × Large t

-- a row of the window
pub record InRows (pen : Pen) (y : ℕ) : Type 0 where
  pub above : pen.bottom ≤ y
  pub below : y ≤ pen.top

-- a pen with which constant triangles are drawn by rows of one number: nothing but a nearer depth decides, and pixels lie in no tiles
pub record Steady (pen : Pen) : Type 0 where
  pub plain : is_plain pen Constant ≡ true
  pub rows : lies_tiled pen.frame ≡ false

-- what row y of a triangle is drawn with: how numbers come to its pixels, and what is carried to the row
pub record Drawable (pen : Pen) (constant : Bool) (t : Corners) (shades : Shades) (w : Rising) (y : ℕ) : Type 0 where
  pub shaded : Shaded constant t shades
  pub carried : Rises t y w
  pub crossed : Crossed t y
  pub row : InRows pen y
