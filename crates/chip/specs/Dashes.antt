-- How the line pattern runs on: what a line's words leave of its position, and what the words of a whole line of visible segments of mode 0 or 1
-- offer (document 02, [2]).
use Rattle.std.specs.Prelude.{◌≡◌, ℕ, ◌+◌, ◌%◌, Bool, true, false, cond, List, [], ◌∷◌, ◌++◌, ◌==◌}
use Rattle.picture.specs.declared.Vertex.{Vertex}
use Rattle.picture.specs.Place.{rows_of}
use Rattle.picture.specs.Offer.{Offer}
use Rattle.line.specs.Segment.{larger}
use Rattle.line.specs.Polyline.{Leg, line_offers}
use Rattle.registers.specs.declared.Registers.{Registers}
use Rattle.registers.specs.declared.word.Word.{Word}
use Rattle.registers.specs.declared.word.Word.TheVariants.{Init, Aux, Parm, At, Img, Ptrn, Reserved, Unmodelled, Unknown}
use Rattle.registers.specs.declared.word.Coordinate.{Coordinate}
use Rattle.registers.specs.declared.word.Coordinate.TheVariants.{I, Z, Y, X, T1x, T2x, Lx, Px}
use Rattle.registers.specs.declared.shape.Shape.TheVariants.{Line}
use Rattle.registers.specs.declared.shape.Completed.{Completed}
use Rattle.registers.specs.declared.shape.Completed.TheVariants.{Nothing, Triangle, Segment}
use Rattle.registers.specs.Record.{is_on, inv_bit, end_bit, pattern_length, no_figure}
use Rattle.registers.specs.Figure.{shape_of, vertex_of, is_dashed}
use Rattle.registers.specs.Next.{record_after, completed_by, pen_of}
use Rattle.refusals.specs.Refusal.{refusal_of}
use Rattle.machine.specs.Offers.{next_in, offers_in, each_in}
use Rattle.chip.specs.Chip.{style_of, chip}

-- ---- words one after the other, over memories of two lengths

-- what they offer, in drawing order: a refused one nothing
unfoldable pub offers_along : ℕ → ℕ → Registers → List Word → List Offer
offers_along ni nz r [] = []
offers_along ni nz r (w ∷ ws) = offers_in chip ni nz r w ++ offers_along ni nz (next_in chip ni nz r w) ws

-- the segment to a vertex, as the registers have it drawn where so many rows are in use
abbrev pub leg_of : ℕ → Registers → Vertex → Leg
leg_of rows r to =
    record {
      pen = pen_of r;
      rows = rows;
      backing = (r.modes.lmode == 0);
      pattern = (style_of r).pattern;
      foreground = r.dash.foreground;
      background = r.dash.background;
      to = to;
    }

-- the segments of a completed figure
abbrev pub legs_in : ℕ → Registers → Completed → List Leg
legs_in rows r Nothing = []
legs_in rows r (Triangle a b c) = []
legs_in rows r (Segment a b) = leg_of rows r b ∷ []

-- the segments that words complete, in order: a refused one none
unfoldable pub legs_along : ℕ → ℕ → Registers → List Word → List Leg
legs_along ni nz r [] = []
legs_along ni nz r (w ∷ ws) =
    cond (refusal_of ni nz r w == 0) (legs_in (rows_of r.frame ni nz) r (completed_by r w)) [] ++ legs_along ni nz (next_in chip ni nz r w) ws

-- ---- words of a line whose segments are all dashed

-- the segment that X or PX ends must be dashed: visible, and of mode 0 or 1; T1X, T2X and LX would open another figure
abbrev pub coordinate_dashes : Registers → Coordinate → Bool
coordinate_dashes r I = true
coordinate_dashes r Z = true
coordinate_dashes r Y = true
coordinate_dashes r X = is_dashed r
coordinate_dashes r T1x = false
coordinate_dashes r T2x = false
coordinate_dashes r Lx = false
coordinate_dashes r Px = is_dashed r

-- INIT would drop the line; all others may come between its segments and set what they like, and the last three are never accepted
abbrev pub is_dashing : Registers → Word → Bool
is_dashing r (Init d) = false
is_dashing r (Aux n) = true
is_dashing r (Parm v) = true
is_dashing r (At c n) = coordinate_dashes r c
is_dashing r (Img d) = true
is_dashing r (Ptrn v) = true
is_dashing r Reserved = true
is_dashing r Unmodelled = true
is_dashing r Unknown = true

-- ---- what is claimed

-- a line is open
abbrev pub InLine : Registers → Type 0
InLine r = shape_of r.figure.shape ≡ Line

-- the line has made no step, and no segment is before its first
pub record Begun (r : Registers) : Type 0 where
  pub steps : r.figure.steps ≡ 0
  pub dashed : r.figure.dashed ≡ 0

-- a line has gone on by the steps of the segment to a vertex
abbrev pub Advanced : Registers → ℕ → Registers → Type 0
Advanced r n s = s.figure.steps ≡ (r.figure.steps + larger r.figure.first (vertex_of r n)) % pattern_length

-- a word completes the segment to a vertex, and no figure is open after it
abbrev pub Closes : Registers → ℕ → Word → Type 0
Closes r n w = (completed_by r w ≡ Segment r.figure.first (vertex_of r n)) × ((record_after r w).figure ≡ no_figure)

-- words offer one line from a vertex through the segments that they complete: step j uses bit 31 − (j mod 32), and a bend is one step
abbrev pub RunsOn : ℕ → ℕ → Vertex → Registers → List Word → Type 0
RunsOn ni nz first r ws = offers_along ni nz r ws ≡ line_offers first (legs_along ni nz r ws)

-- how the pattern runs on through a line
pub record Dashes : Type 0 where
  -- LX begins anew
  pub begins : (r : Registers) (n : ℕ) → Begun (record_after r (At Lx n))
  -- every segment that does not end the line advances the position, in each mode, visible or not
  pub advances : (r : Registers) (n : ℕ) → InLine r → is_on end_bit r.modes.lstatus ≡ false
      → Advanced r n (record_after r (At Px n)) × Advanced r n (record_after r (At X n))
  -- a visible one that ends the line is completed as any other is, and the line is closed
  pub closes : (r : Registers) (n : ℕ) → InLine r → is_on inv_bit r.modes.lstatus ≡ false → is_on end_bit r.modes.lstatus ≡ true
      → Closes r n (At Px n) × Closes r n (At X n)
  -- words after LX, whatever is set between the segments, are one line as long as all its segments are dashed; the last one may end it
  pub whole : (ni nz : ℕ) (r : Registers) (n : ℕ) (ws : List Word) → each_in chip is_dashing ni nz (record_after r (At Lx n)) ws ≡ true
      → RunsOn ni nz (vertex_of r n) (record_after r (At Lx n)) ws
