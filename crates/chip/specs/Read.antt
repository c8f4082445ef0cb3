-- The read call (request [1]): the host's read strobe takes the region's pixel and moves the region on.
use Rattle.std.specs.Prelude.{ℕ, cond, length, ◌==◌, Result, Ok, Err}
use Rattle.ground.specs.declared.Refusal.{Refusal}
use Rattle.ground.specs.Refusal.{number}
use Rattle.picture.specs.Store.{read_of}
use Rattle.registers.specs.declared.Registers.{Registers}
use Rattle.registers.specs.Next.{is_deep_picture, transferred_of}
use Rattle.refusals.specs.Refusal.{read_refusal_of}
use Rattle.machine.specs.Machine.{Memories, step_of}
use Rattle.machine.specs.Offers.{State, state, onward}
use Rattle.registers.specs.declared.word.Word.{Word}
use Rattle.chip.specs.Chip.{chip}
use Rattle.chip.specs.declared.transfer.Reading.{Reading}

-- what comes of the read call: the number that refuses it (0 accepts it), the pixel, and the registers after it
pub record ReadOutcome : Type 0 where
  pub refusal : ℕ
  pub pixel : ℕ
  pub registers : Registers

-- the same, by its parts
abbrev pub read_as : ℕ → ℕ → Registers → ReadOutcome
read_as number pixel r = record { refusal = number; pixel = pixel; registers = r }

-- what `read` answers, as such an outcome: a refused read tells pixel 0, and leaves the registers that came in
abbrev pub read_told : Registers → Result Reading Refusal → ReadOutcome
read_told r (Ok a) = read_as 0 a.pixel a.registers
read_told r (Err refusal) = read_as (number refusal) 0 r

-- the number at the region's pixel, in Z or in I: 0 outside the memory
abbrev pub pixel_of : Registers → Memories → ℕ
pixel_of r m = read_of r.frame (is_deep_picture r) r.region.x r.region.y m.i m.z

-- the number that the read call gets
abbrev pub read_number : Registers → Memories → ℕ
read_number r m = read_refusal_of (length m.i) (length m.z) r

-- accepted: the pixel, and the region moved on; refused: the number and pixel 0, and the registers as they were
unfoldable pub reading : Registers → Memories → ReadOutcome
reading r m = cond (read_number r m == 0) (read_as 0 (pixel_of r m) (transferred_of r)) (read_as (read_number r m) 0 r)

-- ---- words and reads, one after the other

-- a call of the host: a word, or a read
pub data Call : Type 0 where
  word : Word → Call
  strobe : Call

-- what stands after one of them; a read leaves the memories
abbrev pub called : State Registers Memories → Call → State Registers Memories
called a (word w) = onward (step_of chip) a w
called a strobe = state (reading a.registers a.memories).registers a.memories
