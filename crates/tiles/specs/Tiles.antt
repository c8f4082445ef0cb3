-- A chip whose memories lie in tiles of four by four beside a plain one (document 02, [9]): over any run that keeps one line length and starts,
-- I and Z of one length on each side, from equal pictures with the same rows in use, they answer alike and show the same picture.
use Rattle.std.specs.Prelude.{◌≡◌, true, ℕ, ◌<◌}
use mathlib.Core.List.{List, [], ◌∷◌, foldl}
use Rattle.picture.specs.declared.Frame.{Frame}
use Rattle.picture.specs.Place.{frame_of, plain_frame, place_of, rows_of, in_memory}
use Rattle.registers.specs.declared.Registers.{Registers}
use Rattle.registers.specs.declared.word.Word.{Word}
use Rattle.registers.specs.Record.{laid, reset_as, reset_of}
use Rattle.registers.specs.Next.{record_after}
use Rattle.machine.specs.Run.{ran}
use Rattle.machine.specs.Along.{Along}
use Rattle.machine.specs.Machine.{Memories, memories, Even, number_of, step_of}
use Rattle.machine.specs.Touched.{cell_in}
use Rattle.machine.specs.Offers.{State, state}
use Rattle.chip.specs.Chip.{chip}
use Rattle.chip.specs.Read.{reading, Call, word, strobe, called}
use Rattle.chip.specs.Stream.{words_of}
use Rattle.chip.specs.Demands.{Ended}

-- ---- answers

-- what a call answers: its number, and how many pixels passed, or the pixel that was read
pub record Answer : Type 0 where
  pub number : ℕ
  pub told : ℕ

-- an answer by its two parts
abbrev pub answer : ℕ → ℕ → Answer
answer number told = record { number = number; told = told }

-- what a word or a read answers, from where registers and memories stand
abbrev pub answer_of : State Registers Memories → Call → Answer
answer_of a (word w) = answer (step_of chip a.registers w a.memories).refusal (step_of chip a.registers w a.memories).passed
answer_of a strobe = answer (reading a.registers a.memories).refusal (reading a.registers a.memories).pixel

-- those of words and reads, one after the other
unfoldable pub answers_of : State Registers Memories → List Call → List Answer
answers_of a [] = []
answers_of a (c ∷ cs) = answer_of a c ∷ answers_of (called a c) cs

-- ---- two chips

-- the rows in use of tiled memories of one length
abbrev pub tiled_rows : ℕ → ℕ → ℕ
tiled_rows line n = rows_of (frame_of line 1) n n

-- the rows in use of plain memories of one length
abbrev pub plain_rows : ℕ → ℕ → ℕ
plain_rows line n = rows_of (plain_frame line) n n

-- the same picture, of a line length and so many rows: each pixel has in the tiled memories the two numbers that it has in the plain ones
abbrev pub SamePicture : ℕ → ℕ → Memories → Memories → Type 0
SamePicture line rows a b = (x y : ℕ) → x < line → y < rows → cell_in a (place_of (frame_of line 1) x y) ≡ cell_in b (place_of (plain_frame line) x y)

-- a tiled chip and a plain one that belong together: registers that differ in the layout alone, memories of one length each, one picture
pub record Beside (line n n' : ℕ) (r : Registers) (a : Memories) (r' : Registers) (b : Memories) : Type 0 where
  pub tiled : r ≡ laid 1 r'
  pub plain : r' ≡ laid 0 r'
  pub even : Even n a
  pub even' : Even n' b
  pub picture : SamePicture line (plain_rows line n') a b

-- memories from which they start
pub record Starts (line n n' : ℕ) (a b : Memories) : Type 0 where
  pub even : Even n a
  pub even' : Even n' b
  pub rows : tiled_rows line n ≡ plain_rows line n'
  pub picture : SamePicture line (plain_rows line n') a b

-- ---- one line length is kept

-- a word, if it is accepted, leaves that line length; from reset on the first that is accepted is an INIT
abbrev pub Keeps : ℕ → Registers → Word → Memories → Type 0
Keeps line r w m = number_of chip r w m ≡ 0 → (record_after r w).frame.line ≡ line

-- so it is with each word of some calls; reads change no line length
abbrev pub Keeping : ℕ → State Registers Memories → List Call → Type 0
Keeping line a [] = Unit {0}
Keeping line a (word w ∷ cs) = Keeps line a.registers w a.memories × Keeping line (called a (word w)) cs
Keeping line a (strobe ∷ cs) = Keeping line (called a strobe) cs

-- ---- the request

-- words and reads from reset over tiled and over plain memories: each gets the same answer on either side, and what they leave belongs together
pub record CallsAlike (line n n' : ℕ) (a b : Memories) (cs : List Call) : Type 0 where
  pub answers : answers_of (state (reset_as 1) a) cs ≡ answers_of (state reset_of b) cs
  pub left : Beside line n n' (foldl called (state (reset_as 1) a) cs).registers (foldl called (state (reset_as 1) a) cs).memories
      (foldl called (state reset_of b) cs).registers (foldl called (state reset_of b) cs).memories

-- a packed stream, whatever outcomes the promises of `run_tiled` and `run` allow: they tell the same, and what they leave belongs together
pub record StreamsAlike (line n n' : ℕ) {bytes i z i' z' : List ℕ} (o : Ended (reset_as 1) bytes i z) (p : Ended reset_of bytes i' z') : Type 0 where
  pub refusal : o.refusal ≡ p.refusal
  pub index : o.index ≡ p.index
  pub sum : o.sum ≡ p.sum
  pub left : Beside line n n' o.registers (memories o.i_left o.z_left) p.registers (memories p.i_left p.z_left)

-- a tiled chip and a plain one answer alike and show the same picture, over calls and over packed streams that keep one line length; and no
-- two pixels share a place
pub record Request9 : Type 0 where
  pub calls : (line n n' : ℕ) (a b : Memories) → Starts line n n' a b → (cs : List Call) → Keeping line (state reset_of b) cs → CallsAlike line n n' a b cs
  pub streams : (line n n' : ℕ) (i z i' z' : List ℕ) → Starts line n n' (memories i z) (memories i' z')
      → (bytes : List ℕ) → Along (step_of chip) (Keeps line) (ran 0 0 0 reset_of (memories i' z')) (words_of bytes)
      → (o : Ended (reset_as 1) bytes i z) (p : Ended reset_of bytes i' z') → StreamsAlike line n n' o p
  -- in every layout no two pixels inside the memory share a place
  pub apart : (frame : Frame) (ni nz x y x' y' : ℕ) → in_memory frame (rows_of frame ni nz) x y ≡ true → in_memory frame (rows_of frame ni nz) x' y' ≡ true
      → place_of frame x y ≡ place_of frame x' y' → (x ≡ x') × (y ≡ y')
