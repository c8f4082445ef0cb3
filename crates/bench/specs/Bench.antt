-- What the entries of the benchmark draw with, and how they tell what a codec's call came to.
use Rattle.std.specs.Prelude.{ℕ, ◌≡◌, Bool, true, false, List}
use Rattle.picture.specs.declared.Pen.{Pen}
use Rattle.picture.specs.declared.Vertex.{Vertex}
use Rattle.picture.specs.Limits.{largest_border}
use Rattle.picture.specs.Place.{frame_of}
use Rattle.picture.specs.Lent.{Lent, DrawsApart}
use Rattle.line.specs.declared.Style.{Style}
use Rattle.line.specs.Segment.{mode_of, segment_offers}
use Rattle.triangle.specs.Offers.{triangle_offers}
use Rattle.stream.specs.Calls.{Outcome}

-- depth test on, both enables, all planes, the widest window, a transparency pattern that keeps everything
abbrev pub pen_of : ℕ → ℕ → Pen
pen_of line layout =
    record {
      frame = frame_of line layout;
      left = 0;
      right = largest_border;
      bottom = 0;
      top = largest_border;
      transparency = 65535;
      planes = 65535;
      depth = true;
      ienable = true;
      zenable = true;
    }

-- a vertex, by its column, its row, its intensity and its depth
abbrev pub vertex_of : ℕ → ℕ → ℕ → ℕ → Vertex
vertex_of x y i z = record { x = x; y = y; i = i; z = z }

-- a segment's style, by its mode, its pattern and its two grounds: the line has made no step, and the segment leaves out no pixel
abbrev pub style_of : ℕ → ℕ → ℕ → ℕ → Style
style_of mode pattern foreground background = record { mode = mode_of mode; pattern = pattern; foreground = foreground; background = background; steps = 0; joined = false }

-- a triangle was drawn over memories of so long lines in a layout, and so many of its pixels passed
abbrev pub DrawsTriangle : ℕ → ℕ → Bool → Vertex → Vertex → Vertex → Lent → Lent → ℕ → Type 0
DrawsTriangle line layout constant a b c im zm passed =
    DrawsApart (pen_of line layout) (λ rows. triangle_offers (pen_of line layout) rows constant a b c) im zm 0 passed

-- and so a segment, in a style
abbrev pub DrawsSegment : ℕ → ℕ → Style → Vertex → Vertex → Lent → Lent → ℕ → Type 0
DrawsSegment line layout style a b im zm passed =
    DrawsApart (pen_of line layout) (λ rows. segment_offers (pen_of line layout) rows style a b) im zm 0 passed

-- the length that a call on packed streams tells, and what it leaves
pub record Wrote (outcome : Outcome) (told : ℕ) (left : List ℕ) : Type 0 where
  pub size : told ≡ outcome.size
  pub all : left ≡ outcome.left
