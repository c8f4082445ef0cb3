-- Memories that nothing was drawn on, and a recording drawn on them, as the programs do it.
use Rattle.std.specs.Prelude.{ℕ, List, replicate}
use Rattle.registers.specs.declared.Registers.{Registers}
use Rattle.registers.specs.Record.{reset_of}
use Rattle.machine.specs.Machine.{Memories, memories}
use Rattle.machine.specs.Run.{Ran}
use Rattle.chip.specs.Stream.{running}

-- memories of so many places: I all 0 and Z all 65535
abbrev pub fresh : ℕ → Memories
fresh places = memories (replicate places 0) (replicate places 65535)

-- a packed stream, run from reset on them
unfoldable pub fresh_run : ℕ → List ℕ → Ran Registers Memories
fresh_run places bytes = running reset_of bytes (fresh places)
