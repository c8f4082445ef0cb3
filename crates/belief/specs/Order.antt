-- The picture does not depend on the drawing order, and what words leave at a place depends on no other place (document 02, [4]). Since a
-- line shows at the starting depth and a face does not, the intensity asks for a little more than it did (document 02, [10]).
use Rattle.std.specs.Prelude.{◌≡◌, ◌≢◌, Bool, true, ℕ, length}
use mathlib.Core.List.{List, ◌∷◌, map, Perm, Pairwise}
use Rattle.picture.specs.Offer.{Offer}
use Rattle.picture.specs.Picture.{is_edge}
use Rattle.picture.specs.Cell.{Cell, cell}
use Rattle.registers.specs.declared.Registers.{Registers}
use Rattle.registers.specs.declared.word.Word.{Word}
use Rattle.registers.specs.Record.{reset_as}
use Rattle.registers.specs.Word.{word_of}
use Rattle.machine.specs.Machine.{Memories, memories, step_of}
use Rattle.machine.specs.Touched.{cell_in}
use Rattle.machine.specs.Offers.{all_of}
use Rattle.chip.specs.Chip.{chip}
use Rattle.chip.specs.Demands.{Ended}
use Rattle.belief.specs.Belief.{words_taken, offers_of, supposed, AfterCalls}

-- ---- two runs, each with its words and its two memories

-- the same two numbers stand at a place
abbrev pub SameThere : ℕ → Memories → Memories → Type 0
SameThere at m n = cell_in m at ≡ cell_in n at

-- the memories after all of some words
abbrev pub left_by : Registers → List Word → Memories → Memories
left_by r ws m = (all_of (step_of chip) r ws m).memories

-- it is so of what calls of `step` leave of one pair of memories and of another, whatever outcomes its promise allows
abbrev pub AfterBoth : (Memories → Memories → Type 0) → Registers → Registers → List ℕ → List ℕ → Memories → Memories → Type 0
AfterBoth So r s numbers others m n = AfterCalls (λ left. AfterCalls (So left) s others n) r numbers m

-- ---- in any order

-- the two numbers of an offer
abbrev pub numbers_of : Offer → Cell
numbers_of o = cell o.i o.z

-- those that words from a record offer at a place. Which pixel is there goes by the line length and the layout, and is not told
abbrev pub offered_at : Registers → List Word → Memories → ℕ → List Cell
offered_at r ws m at = map numbers_of (offers_of r (length m.i) (length m.z) ws at)

-- the two numbers of an offer, and whether a line brings them
pub record Drawn : Type 0 where
  pub line : Bool
  pub numbers : Cell

-- an offer's two numbers, and whether a line of mode 2 brings them
abbrev pub drawn_of : Offer → Drawn
drawn_of o = record { line = is_edge o.kind; numbers = numbers_of o }

-- those that words from a record offer at a place
abbrev pub drawn_at : Registers → List Word → Memories → ℕ → List Drawn
drawn_at r ws m at = map drawn_of (offers_of r (length m.i) (length m.z) ws at)

-- no two of some pairs of numbers share a depth
abbrev pub Apart : List Cell → Type 0
Apart os = Pairwise (λ (o : Cell) (p : Cell). o.z ≢ p.z) os

-- demand 3's premises hold of both runs, each from its record, memory is equal at a place, and what is offered there is the same up to order
pub record Reordered (r s : Registers) (ws vs : List Word) (m n : Memories) (at : ℕ) : Type 0 where
  pub one : supposed r (length m.i) (length m.z) ws ≡ true
  pub other : supposed s (length n.i) (length n.z) vs ≡ true
  pub start : SameThere at m n
  pub same : Perm (offered_at r ws m at) (offered_at s vs n at)

-- the place ends with equal depth
pub record Agrees (r s : Registers) (ws vs : List Word) (m n : Memories) (at : ℕ) (left other : Memories) : Type 0 where
  pub depth : (cell_in left at).z ≡ (cell_in other at).z
  -- and with equal intensity, if no two of the offers there share a depth and none has the starting depth
  pub shown : Apart (cell_in m at ∷ offered_at r ws m at) → (cell_in left at).i ≡ (cell_in other at).i
  -- or if no two share a depth and lines bring the same of them, whatever the starting depth
  pub drawn : Apart (offered_at r ws m at) → Perm (drawn_at r ws m at) (drawn_at s vs n at) → (cell_in left at).i ≡ (cell_in other at).i

-- so it is, if the two runs were such, each in the layout that its reset chose
pub record AnyOrder (layout other : ℕ) : Type 0 where
  -- of any words from reset, a refused one among them changing nothing
  pub words : (numbers others : List ℕ) (m n : Memories) (at : ℕ) → Reordered (reset_as layout) (reset_as other) (map word_of numbers) (map word_of others) m n at
      → Agrees (reset_as layout) (reset_as other) (map word_of numbers) (map word_of others) m n at
      (left_by (reset_as layout) (map word_of numbers) m) (left_by (reset_as other) (map word_of others) n)
  -- of the calls of `step` that they are
  pub calls : (numbers others : List ℕ) (m n : Memories) (at : ℕ) → Reordered (reset_as layout) (reset_as other) (map word_of numbers) (map word_of others) m n at
      → AfterBoth (Agrees (reset_as layout) (reset_as other) (map word_of numbers) (map word_of others) m n at) (reset_as layout) (reset_as other) numbers others m n
  -- of any packed streams, and each outcome that the promises of `run` and `run_tiled` allow
  pub streams : (bytes others i z j y : List ℕ) (o : Ended (reset_as layout) bytes i z) (p : Ended (reset_as other) others j y) (at : ℕ)
      → Reordered (reset_as layout) (reset_as other) (words_taken (reset_as layout) (length i) (length z) bytes) (words_taken (reset_as other) (length j) (length y) others)
      (memories i z) (memories j y) at
      → Agrees (reset_as layout) (reset_as other) (words_taken (reset_as layout) (length i) (length z) bytes) (words_taken (reset_as other) (length j) (length y) others)
      (memories i z) (memories j y) at (memories o.i_left o.z_left) (memories p.i_left p.z_left)

-- ---- without any premise

-- two pairs of memories have the same lengths, and the same two numbers at a place
pub record AlikeAt (at : ℕ) (m n : Memories) : Type 0 where
  pub i_length : length m.i ≡ length n.i
  pub z_length : length m.z ≡ length n.z
  pub numbers : SameThere at m n

-- what a run of words leaves at a place depends on the words, the lengths and that place's two starting numbers, and on no other place
pub record NoOtherPlace : Type 0 where
  -- of any words from any registers
  pub words : (ws : List Word) (r : Registers) (m n : Memories) (at : ℕ) → AlikeAt at m n → SameThere at (left_by r ws m) (left_by r ws n)
  -- of the calls of `step` that they are
  pub calls : (numbers : List ℕ) (r : Registers) (m n : Memories) (at : ℕ) → AlikeAt at m n → AfterBoth (SameThere at) r r numbers numbers m n
  -- of any packed stream, and each outcome that the promises of `run` and `run_tiled` allow
  pub streams : (start : Registers) (bytes i z j y : List ℕ) (o : Ended start bytes i z) (p : Ended start bytes j y) (at : ℕ) → AlikeAt at (memories i z) (memories j y)
      → SameThere at (memories o.i_left o.z_left) (memories p.i_left p.z_left)
