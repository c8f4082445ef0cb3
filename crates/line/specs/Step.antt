-- A segment's steps, by the slope that was computed.
use Rattle.std.specs.Prelude.{◌≡◌, ℕ, ◌≤◌, refl}
use Rattle.picture.specs.declared.Vertex.{Vertex}
use Rattle.line.specs.declared.slope.Slope.{Slope}
use Rattle.line.specs.declared.slope.Pixel.{Pixel}
use Rattle.line.specs.Segment.{larger, smaller, x_leads, x_at, y_at}

-- the slope of the segment from a to b
abbrev pub slope_of : Vertex → Vertex → Slope
slope_of a b = record { a = a; b = b; level = x_leads a b; n = larger a b; m = smaller a b; leads = refl; longer = refl; shorter = refl }

-- the pixel of step k
abbrev pub step_pixel : Vertex → Vertex → ℕ → Pixel
step_pixel a b k = record { x = x_at a b k; y = y_at a b k }

-- k is a step of the segment from a to b
pub record OnStep (a b : Vertex) (s : Slope) (k : ℕ) : Type 0 where
  pub slope : s ≡ slope_of a b
  pub step : k ≤ s.n
