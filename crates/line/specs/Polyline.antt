-- A line of several visible segments of mode 0 or 1: from a first point to others, one after the other, each drawn in its own way
-- (document 02, [2]).
use Rattle.std.specs.Prelude.{ℕ, ◌+◌, ◌-◌, ◌%◌, Bool, true, cond, List, [], ◌∷◌, ◌++◌, nat_le}
use Rattle.picture.specs.declared.Pen.{Pen}
use Rattle.picture.specs.declared.Vertex.{Vertex}
use Rattle.picture.specs.declared.Kind.{Kind}
use Rattle.picture.specs.declared.Kind.TheVariants.{Line0, Line1}
use Rattle.picture.specs.Offer.{Offer, offer, has_bit, keep}
use Rattle.picture.specs.Draw.{spans}
use Rattle.line.specs.declared.Mode.{Mode}
use Rattle.line.specs.declared.Mode.TheVariants.{Zero, One}
use Rattle.line.specs.declared.Style.{Style}
use Rattle.line.specs.Segment.{larger, x_at, y_at, pattern_at, segment_offers}

-- a segment of such a line: how it is drawn, where so many rows are in use, and the point that it comes to; mode 0 has a ground, and mode 1 none
pub record Leg : Type 0 where
  pub pen : Pen
  pub rows : ℕ
  pub backing : Bool
  pub pattern : ℕ
  pub foreground : ℕ
  pub background : ℕ
  pub to : Vertex

-- its line mode, and the kind of its pixels
abbrev pub leg_mode : Leg → Mode
leg_mode leg = cond leg.backing Zero One

-- the kind of its pixels is that of lines of mode 0 where there is a ground, and of mode 1 where there is none
abbrev pub leg_kind : Leg → Kind
leg_kind leg = cond leg.backing Line0 Line1

-- ---- a line as it is drawn, segment by segment

-- how a leg is drawn before which the line has made so many steps, joined to the segment before it or not
abbrev pub styled : Leg → ℕ → Bool → Style
styled leg steps joined =
    record { mode = leg_mode leg; pattern = leg.pattern; foreground = leg.foreground; background = leg.background; steps = steps; joined = joined }

-- the legs of a line that has made so many steps; the first is joined to the segment before it or not, and each other one is
unfoldable pub segments_offers : ℕ → Bool → Vertex → List Leg → List Offer
segments_offers steps joined a [] = []
segments_offers steps joined a (leg ∷ legs) =
    segment_offers leg.pen leg.rows (styled leg steps joined) a leg.to
    ++ segments_offers ((steps + larger a leg.to) % 32) true leg.to legs

-- ---- the same line, step by step

-- the steps of the whole line
unfoldable pub steps_of : Vertex → List Leg → ℕ
steps_of a [] = 0
steps_of a (leg ∷ legs) = larger a leg.to + steps_of leg.to legs

-- a pixel of a leg, by a bit of its pattern: foreground where the bit is set; elsewhere background if there is a ground, and nothing if not
unfoldable pub dot_offers : Leg → ℕ → ℕ → ℕ → List Offer
dot_offers leg bit x y =
    cond (has_bit leg.pattern bit) (keep leg.pen leg.rows (offer (leg_kind leg) x y leg.foreground 0))
    (cond leg.backing (keep leg.pen leg.rows (offer (leg_kind leg) x y leg.background 0)) [])

-- step j of the whole line, by a bit: a bend is the last step of one leg, and not counted again as the first of the next
unfoldable pub bend_offers : ℕ → Vertex → List Leg → ℕ → List Offer
bend_offers bit a [] j = []
bend_offers bit a (leg ∷ legs) j =
    cond (nat_le j (larger a leg.to)) (dot_offers leg bit (x_at a leg.to j) (y_at a leg.to j))
    (bend_offers bit leg.to legs (j - larger a leg.to))

-- the whole line: each step from 0 to the last, with bit 31 − (j mod 32) at step j
unfoldable pub line_offers : Vertex → List Leg → List Offer
line_offers a legs = spans (λ j. bend_offers (pattern_at j) a legs j) (steps_of a legs + 1)
