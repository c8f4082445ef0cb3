-- What the order demands of every word and of every recording (the order, demands 1 and 2), said of each outcome that the promises of `step`
-- and `run` allow.
use Rattle.std.specs.Prelude.{◌≡◌, ℕ, ◌%◌, ◌^◌, ◌≤◌, true, ◌≢◌, List, length, take, slice_index, Result, Ok}
use mathlib.Core.List.{Memᴰ}
use Rattle.picture.specs.Place.{rows_of}
use Rattle.picture.specs.Picture.{picture, drawn}
use Rattle.picture.specs.Store.{filled}
use Rattle.stream.specs.Format.{fit, unpack_of, pack_of}
use Rattle.stream.specs.Calls.{checked, over, coded_told, size_of, packing, unpacking}
use Rattle.ground.specs.declared.Refusal.{Refusal}
use Rattle.registers.specs.declared.Registers.{Registers}
use Rattle.registers.specs.Word.{decode, word_of}
use Rattle.registers.specs.Next.{record_after, completed_by, pen_of}
use Rattle.refusals.specs.Refusal.{refusal_of}
use Rattle.machine.specs.Run.{ran, run_of}
use Rattle.machine.specs.Along.{Stopped}
use Rattle.machine.specs.Machine.{memories, step_of}
use Rattle.machine.specs.Touched.{passed_by, touched_by, passed_of, touched_of}
use Rattle.chip.specs.Chip.{figure_offers, word_stores, chip}
use Rattle.chip.specs.Stream.{words_of, flaw_of}
use Rattle.chip.specs.Promises.{Takes, RunsFrom}

-- ---- outcomes

-- an outcome of a word that the promise of `step` allows: what it told, and what it left
pub record Stepped (r : Registers) (command d : ℕ) (i z : List ℕ) : Type 0 where
  pub refusal : ℕ
  pub passed : ℕ
  pub registers : Registers
  pub i_left : List ℕ
  pub z_left : List ℕ
  pub promise : Takes r (decode command d) (memories i z) refusal passed registers (memories i_left z_left)

-- an outcome of a recording from a record, which is reset's, that the promise of `run` allows
pub record Ended (start : Registers) (bytes i z : List ℕ) : Type 0 where
  pub refusal : ℕ
  pub index : ℕ
  pub sum : ℕ
  pub registers : Registers
  pub i_left : List ℕ
  pub z_left : List ℕ
  pub promise : RunsFrom start bytes (memories i z) refusal index sum registers (memories i_left z_left)

-- both memories are as they were
abbrev pub Same : List ℕ → List ℕ → List ℕ → List ℕ → Type 0
Same i z i_left z_left = (i_left ≡ i) × (z_left ≡ z)

-- both numbers at a place are as they were
abbrev pub SameAt : ℕ → List ℕ → List ℕ → List ℕ → List ℕ → Type 0
SameAt at i z i_left z_left = (slice_index i_left at ≡ slice_index i at) × (slice_index z_left at ≡ slice_index z at)

-- ---- demand 1

-- a word is refused exactly where document 01 says; a refusal gives its number and zero pixels, and the registers and both memories stay
-- as they were
pub record Refuses (r : Registers) (command d : ℕ) (i z : List ℕ) (o : Stepped r command d i z) : Type 0 where
  pub number : o.refusal ≡ refusal_of (length i) (length z) r (decode command d)
  pub no_pixels : o.refusal ≢ 0 → o.passed ≡ 0
  pub registers_stay : o.refusal ≢ 0 → o.registers ≡ r
  pub memories_stay : o.refusal ≢ 0 → Same i z o.i_left o.z_left

-- a recording is refused by 11, 12 or 2 before its first word, and then nothing is touched; or by the first of its words that is refused,
-- and then the words before it keep their effect
pub record Halts (start : Registers) (bytes i z : List ℕ) (o : Ended start bytes i z) : Type 0 where
  pub before : flaw_of bytes (memories i z) ≢ 0
      → (o.refusal ≡ flaw_of bytes (memories i z)) × (o.index ≡ 0) × (o.sum ≡ 0) × (o.registers ≡ start) × Same i z o.i_left o.z_left
  pub at_word : flaw_of bytes (memories i z) ≡ 0 → o.refusal ≢ 0
      → Stopped (step_of chip) (word_of 0) (ran 0 0 0 start (memories i z)) (words_of bytes)
      (ran o.refusal o.index o.sum o.registers (memories o.i_left o.z_left))
  pub whole : o.refusal ≡ 0 → o.index ≡ length (words_of bytes)

-- every word and every recording, with every pair of memories, gets an answer
pub record Demand1 : Type 0 where
  pub answers : (r : Registers) (command d : ℕ) (i z : List ℕ) → Stepped r command d i z
  pub refuses : (r : Registers) (command d : ℕ) (i z : List ℕ) (o : Stepped r command d i z) → Refuses r command d i z o
  pub ends : (start : Registers) (bytes i z : List ℕ) → Ended start bytes i z
  pub halts : (start : Registers) (bytes i z : List ℕ) (o : Ended start bytes i z) → Halts start bytes i z o

-- ---- demand 2

-- after an accepted word the registers, both memories and the count of pixels passed are those of document 01, and no other place is
-- touched
pub record Accepts (r : Registers) (command d : ℕ) (i z : List ℕ) (o : Stepped r command d i z) : Type 0 where
  pub registers : o.registers ≡ record_after r (decode command d)
  pub drawing : picture o.i_left o.z_left o.passed
      ≡ filled (pen_of r) (word_stores (rows_of r.frame (length i) (length z)) r (decode command d))
      (drawn (pen_of r) (figure_offers (rows_of r.frame (length i) (length z)) r (completed_by r (decode command d))) (picture i z 0))
  pub count : o.passed ≡ length (passed_by chip r (decode command d) (memories i z))
  pub untouched : (at : ℕ) → (Memᴰ at (touched_by chip r (decode command d) (memories i z)) → ⊥) → SameAt at i z o.i_left o.z_left

-- a recording that is good, over memories of one length, is its words one after the other from its start
pub record Runs (start : Registers) (bytes i z : List ℕ) (o : Ended start bytes i z) : Type 0 where
  pub words : ran o.refusal o.index o.sum o.registers (memories o.i_left o.z_left)
      ≡ run_of (step_of chip) start (words_of bytes) (memories i z)
  pub sum : o.sum ≡ length (passed_of chip start (words_of bytes) (memories i z)) % 2 ^ 64
  pub untouched : (at : ℕ) → (Memᴰ at (touched_of chip start (words_of bytes) (memories i z)) → ⊥) → SameAt at i z o.i_left o.z_left

-- every accepted word and every good recording does what document 01 says, and packing and unpacking give back what went in
pub record Demand2 : Type 0 where
  pub accepts : (r : Registers) (command d : ℕ) (i z : List ℕ) (o : Stepped r command d i z) → o.refusal ≡ 0 → Accepts r command d i z o
  pub runs : (start : Registers) (bytes i z : List ℕ) (o : Ended start bytes i z) → flaw_of bytes (memories i z) ≡ 0 → Runs start bytes i z o
  -- with room enough, packing words of 20 bits and unpacking them gives the same words
  pub words_back : (words out packed room unpacked : List ℕ) (first second : Result ℕ Refusal) → fit 20 words ≡ true → length (pack_of words) ≤ length out
      → coded_told first packed ≡ packing words out → length words ≤ length room → coded_told second unpacked ≡ unpacking (take (size_of first) packed) room
      → (second ≡ Ok (length words)) × (unpacked ≡ over words room)
  -- unpacking a good stream of bytes and packing it gives the same bytes
  pub bytes_back : (bytes out unpacked room packed : List ℕ) (first second : Result ℕ Refusal) → fit 8 bytes ≡ true → checked bytes 0 ≡ 0
      → length (unpack_of bytes) ≤ length out → coded_told first unpacked ≡ unpacking bytes out → length bytes ≤ length room
      → coded_told second packed ≡ packing (take (size_of first) unpacked) room
      → (second ≡ Ok (length bytes)) × (packed ≡ over bytes room)
