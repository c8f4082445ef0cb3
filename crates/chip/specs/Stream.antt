-- Running a packed stream (document 01, "Numbers that come back").
use Rattle.std.specs.Prelude.{ℕ, cond, List, map, length, ◌==◌}
use Rattle.stream.specs.Format.{unpack_of}
use Rattle.stream.specs.Calls.{checked}
use Rattle.registers.specs.declared.Registers.{Registers}
use Rattle.registers.specs.declared.word.Word.{Word}
use Rattle.registers.specs.Word.{word_of}
use Rattle.machine.specs.Run.{Ran, ran, run_of}
use Rattle.machine.specs.Machine.{Memories, step_of}
use Rattle.chip.specs.Chip.{chip}

-- the words of a packed stream
abbrev pub words_of : List ℕ → List Word
words_of bytes = map word_of (unpack_of bytes)

-- what is checked before the first word, for an empty stream too: 11, 12, and then 2, the memories differ in length
abbrev pub flaw_in : List ℕ → ℕ → ℕ → ℕ
flaw_in bytes ni nz = checked bytes (cond (ni == nz) 0 2)

-- the same, by the lengths of the memories that are lent
unfoldable pub flaw_of : List ℕ → Memories → ℕ
flaw_of bytes m = flaw_in bytes (length m.i) (length m.z)

-- the words of a stream run from a record, one after the other until one is refused
abbrev pub words_from : Registers → List ℕ → Memories → Ran Registers Memories
words_from r bytes m = run_of (step_of chip) r (words_of bytes) m

-- a stream runs from a record, word by word until one is refused; refused before the first word, index and sum are 0, the registers
-- that record, and the memories untouched
unfoldable pub running : Registers → List ℕ → Memories → Ran Registers Memories
running r bytes m = cond (flaw_of bytes m == 0) (words_from r bytes m) (ran (flaw_of bytes m) 0 0 r m)
