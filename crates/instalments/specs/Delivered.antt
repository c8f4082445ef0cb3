-- What document 02's request 3 asks of a recording in instalments, said of each outcome that the promises of `dextolumen_begin`,
-- `dextolumen_feed` and `dextolumen_finish`, and of the chip's `run`, allow.
use Rattle.std.specs.Prelude.{◌≡◌, ℕ, ◌^◌, ◌<◌, true, false, cond, List, [], ◌∷◌, length, ◌==◌}
use mathlib.Core.List.{flatten}
use Rattle.stream.specs.Calls.{checked}
use Rattle.registers.specs.declared.Registers.{Registers}
use Rattle.registers.specs.Record.{reset_of}
use Rattle.machine.specs.Run.{Ran, ran, run_of}
use Rattle.machine.specs.Machine.{Memories, memories, step_of}
use Rattle.chip.specs.Chip.{chip}
use Rattle.chip.specs.Stream.{words_of, flaw_of}
use Rattle.chip.specs.Demands.{Ended}
use Rattle.instalments.specs.declared.Intake.{Intake}
use Rattle.instalments.specs.Instalments.{so_far, taking, fresh, is_closed, is_sound, numbered, unsound, counted, feeding, ending}

-- ---- outcomes

-- calls of `dextolumen_feed`, one for each part, each with the record and the memories that the one before it left
pub data Fed : Intake → Memories → List (List ℕ) → Intake → Memories → Type 0 where
  no_part : {s : Intake} {m : Memories} → Fed s m [] s m
  a_part : {s s₁ s₂ : Intake} {m m₁ m₂ : Memories} {part : List ℕ} {parts : List (List ℕ)}
      → taking s₁ m₁ ≡ feeding (taking s m) part → Fed s₁ m₁ parts s₂ m₂ → Fed s m (part ∷ parts) s₂ m₂

-- an outcome of a recording that came in parts: what the last call of `dextolumen_feed` answered, what the end did, and what they left
pub record Delivered (parts : List (List ℕ)) (i z : List ℕ) : Type 0 where
  pub first : Intake
  pub last : Intake
  pub end : Intake
  pub i_left : List ℕ
  pub z_left : List ℕ
  pub begins : first ≡ fresh
  pub feeds : Fed first (memories i z) parts last (memories i_left z_left)
  pub ends : taking end (memories i_left z_left) ≡ ending (taking last (memories i_left z_left))

-- a record that some calls leave, whatever memories each was lent
pub data Left : Intake → Type 0 where
  by_begin : {s : Intake} → s ≡ fresh → Left s
  by_feed : {s s' : Intake} (m m' : Memories) (bytes : List ℕ) → Left s → taking s' m' ≡ feeding (taking s m) bytes → Left s'
  by_finish : {s s' : Intake} (m : Memories) → Left s → taking s' m ≡ ending (taking s m) → Left s'

-- ---- what is asked

-- the whole words of all bytes, run from reset, and counted modulo 2 ^ 64
abbrev pub words_run : List ℕ → Memories → Ran Registers Memories
words_run bytes m = counted (run_of (step_of chip) reset_of (words_of bytes) m)

-- the end tells its number beside the words run and their sum; after a refused word it repeats that answer
abbrev pub ended_by : ℕ → Ran Registers Memories → Ran Registers Memories
ended_by n a = cond (a.refusal == 0) (numbered n a) a

-- the end of a recording that was cut anywhere
pub record Cut (parts : List (List ℕ)) (i z : List ℕ) (d : Delivered parts i z) : Type 0 where
  -- it checks 11, 12, then 2
  pub at_end : so_far d.end (memories d.i_left d.z_left) ≡ ended_by (flaw_of (flatten parts) (memories i z)) (words_run (flatten parts) (memories i z))
  -- a stream that 11 and 12 don't touch ends as if it were run at once: the same answer, registers and memories
  pub at_once : length (flatten parts) < 2 ^ 64 → checked (flatten parts) 0 ≡ 0 → (o : Ended reset_of (flatten parts) i z)
      → so_far d.end (memories d.i_left d.z_left) ≡ ran o.refusal o.index o.sum o.registers (memories o.i_left o.z_left)

-- what request 3 asks, of every recording however it is cut, and of every record that calls leave
pub record Request3 : Type 0 where
  -- every recording, cut anywhere, over every pair of memories, gets an answer
  pub answers : (parts : List (List ℕ)) (i z : List ℕ) → Delivered parts i z
  -- before the end each call tells 0, and the words run and their sum so far; or the refused word's number, its index and the sum before it
  pub before : (parts : List (List ℕ)) (first last : Intake) (m m' : Memories) → first ≡ fresh → Fed first m parts last m'
      → so_far last m' ≡ words_run (flatten parts) m
  pub cut : (parts : List (List ℕ)) (i z : List ℕ) (d : Delivered parts i z) → Cut parts i z d
  -- the end closes a record
  pub closes : (s s' : Intake) (m : Memories) → Left s → taking s' m ≡ ending (taking s m) → is_closed s'.refusal s'.over ≡ true
  -- once a word was refused or the end was told, later calls change nothing and give that answer again
  pub feed_again : (s s' : Intake) (m m' : Memories) (bytes : List ℕ) → Left s → is_closed s.refusal s.over ≡ true
      → taking s' m' ≡ feeding (taking s m) bytes → (s' ≡ s) × (m' ≡ m)
  pub end_again : (s s' : Intake) (m : Memories) → Left s → is_closed s.refusal s.over ≡ true → taking s' m ≡ ending (taking s m) → s' ≡ s
  -- no record that calls leave breaks a bound
  pub sound : (s : Intake) → Left s → is_sound s ≡ true
  -- one that does is refused with 2, and nothing else changes
  pub feed_refuses : (s s' : Intake) (m m' : Memories) (bytes : List ℕ) → is_sound s ≡ false
      → taking s' m' ≡ feeding (taking s m) bytes → taking s' m' ≡ unsound (taking s m)
  pub end_refuses : (s s' : Intake) (m : Memories) → is_sound s ≡ false → taking s' m ≡ ending (taking s m) → taking s' m ≡ unsound (taking s m)
