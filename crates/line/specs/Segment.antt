-- The pixels of a line segment from its earlier point a to its new endpoint b, and what is offered of them (document 01, "Line",
-- and document 02, [2]).
use Rattle.std.specs.Prelude.{ℕ, ◌+◌, ◌-◌, ◌*◌, ◌/◌, ◌%◌, min, max, Bool, true, false, cond, List, [], ◌∷◌, ◌==◌, nat_le, nat_lt, slice_index_or}
use Rattle.picture.specs.declared.Pen.{Pen}
use Rattle.picture.specs.declared.Vertex.{Vertex}
use Rattle.picture.specs.declared.Kind.{Kind}
use Rattle.picture.specs.declared.Kind.TheVariants.{Line0, Line1, Line2}
use Rattle.picture.specs.Offer.{Offer, offer, has_bit, keep}
use Rattle.picture.specs.Draw.{spans}
use Rattle.line.specs.declared.Mode.{Mode}
use Rattle.line.specs.declared.Mode.TheVariants.{Zero, One, Two}
use Rattle.line.specs.declared.Style.{Style}

-- ---- where a step is

-- the distance of two numbers
abbrev pub distance : ℕ → ℕ → ℕ
distance from to = (from - to) + (to - from)

-- so far from one number towards another
abbrev pub towards : ℕ → ℕ → ℕ → ℕ
towards from to far = cond (nat_le from to) (from + far) (from - far)

-- n, the larger of the two distances
unfoldable pub larger : Vertex → Vertex → ℕ
larger a b = max (distance a.x b.x) (distance a.y b.y)

-- m, the smaller of the two distances
unfoldable pub smaller : Vertex → Vertex → ℕ
smaller a b = min (distance a.x b.x) (distance a.y b.y)

-- x leads: its distance is the larger, or the two are equal
unfoldable pub x_leads : Vertex → Vertex → Bool
x_leads a b = nat_le (distance a.y b.y) (distance a.x b.x)

-- how far step k of n moves along the axis that does not lead: (2km + n) div 2n, and nowhere if n = 0
unfoldable pub side_at : ℕ → ℕ → ℕ → ℕ
side_at n m k = cond (n == 0) 0 ((2 * (k * m) + n) / (2 * n))

-- step k moves k along the leading axis, and to the side along the other
unfoldable pub x_at : Vertex → Vertex → ℕ → ℕ
x_at a b k = towards a.x b.x (cond (x_leads a b) k (side_at (larger a b) (smaller a b) k))

-- so along y it moves to the side where x leads, and k where y does
unfoldable pub y_at : Vertex → Vertex → ℕ → ℕ
y_at a b k = towards a.y b.y (cond (x_leads a b) (side_at (larger a b) (smaller a b) k) k)

-- ---- what a step offers

-- the line mode that a number names: 0, 1, and 2 for every other
unfoldable pub mode_of : ℕ → Mode
mode_of n = slice_index_or (Zero ∷ One ∷ []) n Two

-- the kind of a line's pixels
abbrev pub kind_of : Mode → Kind
kind_of Zero = Line0
kind_of One = Line1
kind_of Two = Line2

-- a number at step k of n in mode 2: (2((n−k)·first + k·second) + n) div 2n, and the new endpoint's if n = 0
unfoldable pub number_at : ℕ → ℕ → ℕ → ℕ → ℕ
number_at n k first second = cond (n == 0) second ((2 * ((n - k) * first + k * second) + n) / (2 * n))

-- the bit of the line pattern that the j-th step of a line uses
abbrev pub pattern_at : ℕ → ℕ
pattern_at j = 31 - j % 32

-- the pattern bit of step k is set: the steps that the line has made before count
unfoldable pub is_set : Style → ℕ → Bool
is_set style k = has_bit style.pattern (pattern_at (style.steps + k))

-- the first step that is drawn of a line with a pattern: a segment that is joined to the one before it leaves out step 0
unfoldable pub first_of : Bool → ℕ
first_of joined = cond joined 1 0

-- the steps from the first on; those before it offer nothing
unfoldable pub from : ℕ → (ℕ → List Offer) → ℕ → List Offer
from first f k = cond (nat_lt k first) [] (f k)

-- step k of a line with a pattern: foreground where the bit is set; elsewhere background if there is a ground, and nothing if not
unfoldable pub dash_offers : Pen → ℕ → Kind → Bool → Style → Vertex → Vertex → ℕ → List Offer
dash_offers pen rows kind backing style a b k =
    cond (is_set style k) (keep pen rows (offer kind (x_at a b k) (y_at a b k) style.foreground 0))
    (cond backing (keep pen rows (offer kind (x_at a b k) (y_at a b k) style.background 0)) [])

-- step k of a line with numbers
unfoldable pub shade_offers : Pen → ℕ → Vertex → Vertex → ℕ → List Offer
shade_offers pen rows a b k =
    keep pen rows (offer Line2 (x_at a b k) (y_at a b k) (number_at (larger a b) k a.i b.i) (number_at (larger a b) k a.z b.z))

-- a step by the line mode: mode 0 writes background where the bit is clear, in mode 1 a clear bit offers nothing, mode 2 has numbers
abbrev pub step_offers : Pen → ℕ → Style → Mode → Vertex → Vertex → ℕ → List Offer
step_offers pen rows style Zero a b = from (first_of style.joined) (dash_offers pen rows Line0 true style a b)
step_offers pen rows style One a b = from (first_of style.joined) (dash_offers pen rows Line1 false style a b)
step_offers pen rows style Two a b = shade_offers pen rows a b

-- a segment: step k from 0 to n, so that both ends belong to it, but for the first of one that is joined
unfoldable pub segment_offers : Pen → ℕ → Style → Vertex → Vertex → List Offer
segment_offers pen rows style a b = spans (step_offers pen rows style style.mode a b) (larger a b + 1)
