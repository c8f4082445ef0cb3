-- What an operator believes of the picture (the order, demand 3, for runs without PTRN): after a run of words from reset over the same two
-- memories each place has the least of its starting depth and all depths that the words offered there, with the intensity of the last line
-- that offered it or, where none did, of the offer that brought it; unchanged, where nothing nearer than the start was offered.
use Rattle.std.specs.Prelude.{◌≡◌, Bool, true, cond, not, ◌&&◌, List, [], ◌∷◌, map, ℕ, ◌/◌, ◌%◌, min, ltb, eqb, length}
use Rattle.picture.specs.declared.Pen.{Pen}
use Rattle.picture.specs.Offer.{Offer}
use Rattle.picture.specs.Picture.{is_edge}
use Rattle.picture.specs.Cell.{Cell}
use Rattle.registers.specs.declared.Registers.{Registers}
use Rattle.registers.specs.declared.word.Word.{Word}
use Rattle.registers.specs.declared.shape.Completed.{Completed}
use Rattle.registers.specs.declared.shape.Completed.TheVariants.{Nothing, Triangle, Segment}
use Rattle.registers.specs.Record.{reset_as}
use Rattle.registers.specs.Word.{word_of}
use Rattle.registers.specs.Next.{completed_by, pen_of}
use Rattle.refusals.specs.Refusal.{is_ptrn}
use Rattle.machine.specs.Machine.{Memories, memories, step_of}
use Rattle.machine.specs.Touched.{cell_in}
use Rattle.machine.specs.Offers.{all_of, offers_at, taken_of, each_in}
use Rattle.chip.specs.Chip.{chip}
use Rattle.chip.specs.Stream.{words_of, flaw_in}
use Rattle.chip.specs.Demands.{Stepped, Ended}

-- ---- the words of a run, over memories of two lengths

-- those of a packed stream that are taken: none if 11, 12 or 2 refuses it, else those before the first that is refused
unfoldable pub words_taken : Registers → ℕ → ℕ → List ℕ → List Word
words_taken r ni nz bytes = cond (eqb (flaw_in bytes ni nz) 0) (taken_of chip ni nz r (words_of bytes)) []

-- what words from a record offer at a place, in drawing order: a refused one nothing, an accepted one the pixels of the figure that it completes,
-- each at its place by the line length of that moment
abbrev pub offers_of : Registers → ℕ → ℕ → List Word → ℕ → List Offer
offers_of r ni nz ws at = offers_at chip ni nz at r ws

-- ---- what is supposed

-- the depth test, both write enables and all sixteen bit planes are on
unfoldable pub is_all_on : Pen → Bool
is_all_on pen = pen.depth && pen.ienable && pen.zenable && eqb pen.planes 65535

-- of what a word completes: a visible line segment is of line mode 2, and whenever a figure is drawn all that is on
unfoldable pub is_supposed : Registers → Completed → Bool
is_supposed r Nothing = true
is_supposed r (Triangle a b c) = is_all_on (pen_of r)
is_supposed r (Segment a b) = eqb r.modes.lmode 2 && is_all_on (pen_of r)

-- of a word: it is not PTRN, and so it is of what it completes
abbrev pub is_believable : Registers → Word → Bool
is_believable r w = not (is_ptrn w) && is_supposed r (completed_by r w)

-- of each accepted word from a record
abbrev pub supposed : Registers → ℕ → ℕ → List Word → Bool
supposed start ni nz ws = each_in chip is_believable ni nz start ws

-- ---- what is believed

-- the least of a depth and all depths offered
unfoldable pub least : ℕ → List Offer → ℕ
least z [] = z
least z (o ∷ os) = least (min z o.z) os

-- the intensity of the earliest offer with a depth
unfoldable pub earliest : ℕ → List Offer → ℕ
earliest depth [] = 0
earliest depth (o ∷ os) = cond (eqb o.z depth) o.i (earliest depth os)

-- the intensity of the last line that offered a depth; another one, where none did
unfoldable pub last_line : ℕ → List Offer → ℕ → ℕ
last_line depth [] other = other
last_line depth (o ∷ os) other = last_line depth os (cond (is_edge o.kind && eqb o.z depth) o.i other)

-- the intensity that goes with a depth if no line offered it: below the starting depth, that of the earliest offer with it; otherwise unchanged
unfoldable pub unlined : ℕ → Cell → List Offer → ℕ
unlined depth start os = cond (ltb depth start.z) (earliest depth os) start.i

-- the intensity that goes with the least depth, be it the starting depth: if a line offered it, the last such line's (document 02, [10])
unfoldable pub intensity : ℕ → Cell → List Offer → ℕ
intensity depth start os = last_line depth os (unlined depth start os)

-- how a place ends that started with two numbers and was offered others
pub record Believed (start : Cell) (os : List Offer) (end : Cell) : Type 0 where
  pub depth : end.z ≡ least start.z os
  pub shown : end.i ≡ intensity (least start.z os) start os

-- ---- the demand

-- so it is at every place, if the words from a record were such as is supposed
abbrev pub Believable : Registers → List Word → Memories → Memories → Type 0
Believable r ws m left =
    supposed r (length m.i) (length m.z) ws ≡ true → (at : ℕ)
    → Believed (cell_in m at) (offers_of r (length m.i) (length m.z) ws at) (cell_in left at)

-- it is so of the memories that calls of `step` leave, one after the other, whatever outcomes its promise allows; a number tells a word, its
-- command and its data of 16 bits
abbrev pub AfterCalls : (Memories → Type 0) → Registers → List ℕ → Memories → Type 0
AfterCalls So r [] m = So m
AfterCalls So r (n ∷ numbers) m =
    (o : Stepped r (n / 65536) (n % 65536) m.i m.z) → AfterCalls So o.registers numbers (memories o.i_left o.z_left)

-- each place by the layout that reset chose
pub record Demand3 (layout : ℕ) : Type 0 where
  -- of any words from reset, a refused one among them changing nothing
  pub words : (numbers : List ℕ) (m : Memories)
      → Believable (reset_as layout) (map word_of numbers) m (all_of (step_of chip) (reset_as layout) (map word_of numbers) m).memories
  -- of the calls of `step` that they are
  pub calls : (numbers : List ℕ) (m : Memories) → AfterCalls (Believable (reset_as layout) (map word_of numbers) m) (reset_as layout) numbers m
  -- of any packed stream, and each outcome that the promise of `run`, or of `run_tiled`, allows
  pub streams : (bytes i z : List ℕ) (o : Ended (reset_as layout) bytes i z)
      → Believable (reset_as layout) (words_taken (reset_as layout) (length i) (length z) bytes) (memories i z) (memories o.i_left o.z_left)
