-- The covered columns that are found in a row of a triangle. No promise of a public call cites anything here.
use Rattle.std.specs.Prelude.{ℕ, Option, Some, None}
use Rattle.picture.specs.declared.Pen.{Pen}
use Rattle.triangle.specs.declared.Corners.{Corners}
use Rattle.triangle.specs.declared.Span.{Span}
use Rattle.triangle.specs.Loops.{Spanned}

-- the row's covered pixels within the columns of the window and the memory, or that it has none
abbrev pub Finds : Pen → Corners → ℕ → Option Span → Type 0
Finds pen t y (Some s) = Spanned pen t y s.lo s.hi
Finds pen t y None = Spanned pen t y 0 0
