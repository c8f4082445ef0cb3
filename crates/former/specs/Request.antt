-- What request [12] asks: a stream that was accepted whole before draws the same after; and so do words and reads by themselves.
use Rattle.std.specs.Prelude.{ℕ, ◌≡◌, cond, List, eqb}
use Rattle.registers.specs.declared.Window.{Window}
use Rattle.registers.specs.declared.Registers.{Registers}
use Rattle.registers.specs.declared.word.Word.{Word}
use Rattle.registers.specs.Record.{first_window, with_window, reset_of}
use Rattle.machine.specs.Run.{Outcome, Ran, ran, run_of}
use Rattle.machine.specs.Machine.{Memories, step_of}
use Rattle.chip.specs.Chip.{chip}
use Rattle.chip.specs.Read.{ReadOutcome, reading}
use Rattle.chip.specs.Stream.{words_of, flaw_of, running}
use Rattle.former.specs.Former.{former_window, former_reset, former, was_reading}

-- what a packed stream came to on the former card: it ran from reset, word by word until one was refused, as `running` says of today's
unfoldable pub formerly : List ℕ → Memories → Ran Registers Memories
formerly bytes m = cond (eqb (flaw_of bytes m) 0) (run_of (step_of former) former_reset (words_of bytes) m) (ran (flaw_of bytes m) 0 0 former_reset m)

-- a window as it was and as it is: the same, or both are those from INIT or reset on
pub data Widened (before now : Window) : Type 0 where
  kept : now ≡ before → Widened before now
  first : before ≡ former_window → now ≡ first_window → Widened before now

-- a record as it was and as it is: the same but for such a window
pub record Alike (before now : Registers) : Type 0 where
  pub window : Widened before.window now.window
  pub rest : now ≡ with_window before now.window

-- a run as it was and as it is: the same answer and sum, and the same two memories
pub record Same (before now : Ran Registers Memories) : Type 0 where
  pub refusal : now.refusal ≡ before.refusal
  pub index : now.index ≡ before.index
  pub sum : now.sum ≡ before.sum
  pub memories : now.memories ≡ before.memories
  pub registers : Alike before.registers now.registers

-- a word, as it was and as it is: accepted, with the same count and the same two memories
pub record SameWord (before now : Outcome Registers Memories) : Type 0 where
  pub refusal : now.refusal ≡ before.refusal
  pub passed : now.passed ≡ before.passed
  pub memories : now.memories ≡ before.memories
  pub registers : Alike before.registers now.registers

-- a read, likewise
pub record SameRead (before now : ReadOutcome) : Type 0 where
  pub refusal : now.refusal ≡ before.refusal
  pub pixel : now.pixel ≡ before.pixel
  pub registers : Alike before.registers now.registers

-- what was accepted before request [12] does the same after it: streams, words and reads
pub record Request12 : Type 0 where
  -- a stream that was accepted whole draws the same. The request asks it of memories of at most 8,192 rows; it is so of all memories, since
  -- no coordinate that was allowed reaches a row above them
  pub stream : (bytes : List ℕ) (m : Memories) → (formerly bytes m).refusal ≡ 0 → Same (formerly bytes m) (running reset_of bytes m)
  -- and so does each word, and each read tells the same, that was accepted where the records are alike: of calls one after the other too
  pub word : (before now : Registers) (w : Word) (m : Memories) → Alike before now → (step_of former before w m).refusal ≡ 0
      → SameWord (step_of former before w m) (step_of chip now w m)
  pub read : (before now : Registers) (m : Memories) → Alike before now → (was_reading before m).refusal ≡ 0 → SameRead (was_reading before m) (reading now m)
