-- The text of a run, as the drawing programs print it (document 01, "Examples").
use Rattle.std.specs.Prelude.{List, ℕ}
use Rattle.registers.specs.declared.Registers.{Registers}
use Rattle.machine.specs.Machine.{Memories}
use Rattle.machine.specs.Run.{Ran}
use Rattle.chip.specs.Fresh.{fresh_run}
use Rattle.report.specs.Text.{report}

-- the text of what a run came to, by the line length that it ends with
unfoldable pub text_of : Ran Registers Memories → List ℕ
text_of a = report a.index a.refusal a.sum a.registers.frame.line a.memories.i a.memories.z

-- the text of a stream drawn on a fresh picture of 8,192 places
unfoldable pub stream_text : List ℕ → List ℕ
stream_text bytes = text_of (fresh_run 8192 bytes)
