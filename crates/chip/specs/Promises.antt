-- What the card's calls promise of a word and of a recording, each said once: the contracts of the calls cite it, those by value and those for
-- C, and so do the demands and the theorems about outcomes.
use Rattle.std.specs.Prelude.{◌≡◌, ℕ, List, Result, Ok, Err}
use Rattle.std.specs.Borrow.{MutBor}
use denote.Triple.Both.{Both}
use Rattle.ground.specs.declared.Refusal.{Refusal}
use Rattle.picture.specs.Lent.{Lent}
use Rattle.registers.specs.declared.Registers.{Registers}
use Rattle.registers.specs.declared.word.Word.{Word}
use Rattle.machine.specs.Run.{outcome, ran}
use Rattle.machine.specs.Machine.{Memories, step_of}
use Rattle.machine.specs.Lent.{found, left}
use Rattle.chip.specs.declared.step.Answer.{Answer}
use Rattle.chip.specs.Chip.{chip}
use Rattle.chip.specs.Stream.{running}

-- the pixels that passed by what `step` answers: a refused word passes none
abbrev pub passed_in : Result Answer Refusal → ℕ
passed_in (Ok a) = a.passed
passed_in (Err refusal) = 0

-- the registers after what `step` answers: a refused word leaves those that came in
abbrev pub registers_in : Registers → Result Answer Refusal → Registers
registers_in r (Ok a) = a.registers
registers_in r (Err refusal) = r

-- a word was taken: the number and the count that were told, and the registers and memories that were left, are those of the chip's step
abbrev pub Takes : Registers → Word → Memories → ℕ → ℕ → Registers → Memories → Type 0
Takes r w m refusal passed next left = outcome refusal passed next left ≡ step_of chip r w m

-- the same on a record where it stands: the registers are found and left in it
abbrev pub TakesInPlace : Both (MutBor Registers) (MutBor Registers) → Word → Lent → Lent → ℕ → ℕ → Type 0
TakesInPlace r w im zm refusal passed = Takes r.entry.now w (found im zm) refusal passed r.exit.now (left im zm)

-- a packed stream was run from a record: the number, index and sum that were told, and the registers and memories that were left, are those
-- of its run
abbrev pub RunsFrom : Registers → List ℕ → Memories → ℕ → ℕ → ℕ → Registers → Memories → Type 0
RunsFrom start bytes m refusal index sum last left = ran refusal index sum last left ≡ running start bytes m
