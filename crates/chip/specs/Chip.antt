-- The chip: a machine whose words, registers and refusals are those of `registers`, and which offers what triangles and segments offer
-- and stores the pixels of pictures.
use Rattle.std.specs.Prelude.{ℕ, ◌+◌, ◌*◌, Bool, false, cond, ◌&&◌, List, [], ◌==◌, nat_lt}
use Rattle.picture.specs.Offer.{Offer}
use Rattle.picture.specs.Store.{Store, pixel_for, storable}
use Rattle.triangle.specs.Offers.{triangle_offers}
use Rattle.line.specs.declared.Style.{Style}
use Rattle.line.specs.Segment.{mode_of, segment_offers}
use Rattle.registers.specs.declared.Registers.{Registers}
use Rattle.registers.specs.declared.word.Word.{Word}
use Rattle.registers.specs.declared.word.Word.TheVariants.{Init, Aux, Parm, At, Img, Ptrn, Reserved, Unmodelled, Unknown}
use Rattle.registers.specs.declared.shape.Completed.{Completed}
use Rattle.registers.specs.declared.shape.Completed.TheVariants.{Nothing, Triangle, Segment}
use Rattle.registers.specs.Record.{is_on, section_bit}
use Rattle.registers.specs.Next.{record_after, completed_by, pen_of, is_deep_picture}
use Rattle.refusals.specs.Refusal.{refusal_of}
use Rattle.machine.specs.Machine.{Machine}

-- PMODE 1: constant triangles
abbrev pub is_constant : Registers → Bool
is_constant r = r.modes.pmode == 1

-- how lines are drawn, by the registers as they are when the completing word comes
abbrev pub style_of : Registers → Style
style_of r =
    record {
      mode = mode_of r.modes.lmode;
      pattern = r.dash.high * 65536 + r.dash.low;
      foreground = r.dash.foreground;
      background = r.dash.background;
      steps = r.figure.steps;
      joined = (r.figure.dashed == 1);
    }

-- what a completed figure holds to be offered, where so many rows are in use
unfoldable pub whole_offers : ℕ → Registers → Completed → List Offer
whole_offers rows r Nothing = []
whole_offers rows r (Triangle a b c) = triangle_offers (pen_of r) rows (is_constant r) a b c
whole_offers rows r (Segment a b) = segment_offers (pen_of r) rows (style_of r) a b

-- a completed figure is cut (document 02, [7]): with sectioning on, a constant triangle whose depth, the completing vertex's, is greater than
-- the section depth
unfoldable pub is_cut : Registers → Completed → Bool
is_cut r Nothing = false
is_cut r (Triangle a b c) = is_constant r && is_on section_bit r.modes.zcontrol && nat_lt r.modes.section c.z
is_cut r (Segment a b) = false

-- what a completed figure offers: nothing, if it is cut
unfoldable pub figure_offers : ℕ → Registers → Completed → List Offer
figure_offers rows r f = cond (is_cut r f) [] (whole_offers rows r f)

-- a number for the region's pixel, in Z or in I, where so many rows are in use
abbrev pub picture_stores : ℕ → Registers → ℕ → List Store
picture_stores rows r v = storable (pen_of r) rows (pixel_for (is_deep_picture r) r.region.x r.region.y v)

-- what a word stores besides: PTRN its number
unfoldable pub word_stores : ℕ → Registers → Word → List Store
word_stores rows r (Init d) = []
word_stores rows r (Aux n) = []
word_stores rows r (Parm v) = []
word_stores rows r (At c n) = []
word_stores rows r (Img d) = []
word_stores rows r (Ptrn v) = picture_stores rows r v
word_stores rows r Reserved = []
word_stores rows r Unmodelled = []
word_stores rows r Unknown = []

-- the chip as a machine: what it refuses, what a word leaves of the registers, and what it offers and stores, by which pen
abbrev pub chip : Machine
chip =
    record {
      Registers = Registers;
      Word = Word;
      refusal = refusal_of;
      next = record_after;
      pen = pen_of;
      offers = λ rows r w. figure_offers rows r (completed_by r w);
      stores = word_stores;
    }
