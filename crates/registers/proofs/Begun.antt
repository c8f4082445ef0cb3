-- What INIT and LX begin: after INIT no region is open; LX starts a line visible and not at its end, and END 1 closes it. Assumes nothing.
use mathlib.Core.Path.{◌≡◌, refl, ap₂}
use mathlib.Core.Bool.{true, false}
use Prim.Native.Nat.{ℕ}
use Rattle.registers.specs.declared.word.Word.TheVariants.{Init, At}
use Rattle.registers.specs.declared.word.Coordinate.TheVariants.{Lx}
use Rattle.registers.specs.declared.shape.Shape.TheVariants.{Line}
use Rattle.registers.specs.declared.shape.Completed.TheVariants.{Segment}
use Rattle.registers.specs.declared.Figure.{Figure}
use Rattle.registers.specs.declared.Registers.{Registers}
use Rattle.registers.specs.Record.{no_figure, inv_bit, end_bit, is_on, no_region, settings}
use Rattle.registers.specs.Figure.{shape_of, vertex_of, grown_of, completes, figure_after, vertex_completes}
use Rattle.registers.specs.Next.{coordinate_of, record_after}

-- ---- INIT

-- after INIT no region is open
pub init_drops : (r : Registers) (d : ℕ) → (record_after r (Init d)).region ≡ no_region
unfolding record_after settings
init_drops r d = refl

-- ---- lines

module _ (r : Registers) (n : ℕ) where
  -- LX starts a line visible, whatever LSTATUS came before
  pub line_visible : is_on inv_bit (record_after r (At Lx n)).modes.lstatus ≡ false
  unfolding record_after coordinate_of
  line_visible = refl

  -- and not at its end
  pub line_unended : is_on end_bit (record_after r (At Lx n)).modes.lstatus ≡ false
  unfolding record_after coordinate_of
  line_unended = refl

  -- a point that finds the line and its status as LX left them completes a segment from LX's vertex
  pub line_shown : (s : Registers) (m : ℕ) → s.figure ≡ (record_after r (At Lx n)).figure → s.modes.lstatus ≡ (record_after r (At Lx n)).modes.lstatus
      → vertex_completes s m ≡ Segment (vertex_of r n) (vertex_of s m)
  unfolding record_after coordinate_of completes shape_of
  line_shown s m f l = ap₂ (λ (g : Figure) (k : ℕ). completes (shape_of g.shape) (is_on inv_bit k) g (vertex_of s m)) f l

  -- with END 1 no figure is open after a segment
  pub end_closes : shape_of r.figure.shape ≡ Line → is_on end_bit r.modes.lstatus ≡ true → figure_after r n ≡ no_figure
  unfolding grown_of
  end_closes s e = rw (s, e)
