-- A recording's words, one after the other, and the line of each. A run is as `running` has it (chip's specs/Stream.antt): its index says which
-- word is next, and after a refused word it stands still.
use Rattle.std.specs.Prelude.{◌≡◌, ℕ, zero, suc, ◌+◌, ◌%◌, ◌^◌, Bool, cond, Result, Ok, Err, not, ◌||◌, List, [], ◌++◌, length, ◌==◌, nat_le}
use Rattle.stream.specs.Format.{unpack_of, word_at}
use Rattle.registers.specs.declared.Registers.{Registers}
use Rattle.registers.specs.Record.{reset_of}
use Rattle.registers.specs.Word.{word_of}
use Rattle.machine.specs.Run.{Outcome, Ran, ran, taken}
use Rattle.machine.specs.Machine.{Memories, memories, step_of}
use Rattle.chip.specs.declared.run.Ran.{Ran as Running}
use Rattle.chip.specs.declared.step.Answer.{Answer}
use Rattle.chip.specs.Chip.{chip}
use Rattle.ground.specs.declared.Refusal.{Refusal}
use Rattle.ground.specs.Refusal.{told}
use Rattle.listing.specs.declared.trace.Traced.{Traced}
use Rattle.report.specs.Calls.{Lays}
use Rattle.report.specs.declared.page.Page.{Page}
use Rattle.listing.specs.Trace.{trace_line}
use Rattle.tracing.specs.declared.next.Taken.{Taken}
use Rattle.tracing.specs.Meaning.{meaning_of}

-- a run of the chip: the refusal, the index, the sum, the registers and the memories
abbrev pub Run : Type 0
Run = Ran Registers Memories

-- what the code has of a run, with the memories
abbrev pub standing : Running → List ℕ → List ℕ → Run
standing a i z = ran (told a.outcome) a.index a.sum a.registers (memories i z)

-- ---- one word

-- nothing is left: a word was refused, or all were taken
unfoldable pub is_over : List ℕ → ℕ → ℕ → Bool
is_over bytes refusal index = not (refusal == 0) || nat_le (length (unpack_of bytes)) index

-- what comes of the word that is next
abbrev pub answer_to : List ℕ → Run → Outcome Registers Memories
answer_to bytes a = step_of chip a.registers (word_of (word_at bytes a.index)) a.memories

-- the word that is next, what it means, and its answer
abbrev pub traced_of : List ℕ → Run → Traced
traced_of bytes a =
    record {
      index = a.index;
      word = word_at bytes a.index;
      meaning = meaning_of a.registers (word_of (word_at bytes a.index));
      refusal = (answer_to bytes a).refusal;
      passed = (answer_to bytes a).passed;
    }

-- the run after an answer, without the memories: those are the answer's own
unfoldable pub moved : Running → Result Answer Refusal → Running
moved a (Ok o) = record { outcome = Ok tt; index = a.index + 1; sum = (a.sum + o.passed) % 2 ^ 64; registers = o.registers }
moved a (Err refusal) = record { outcome = Err refusal; index = a.index; sum = a.sum; registers = a.registers }

-- the next word, taken
pub record TakesTraced (bytes : List ℕ) (a : Run) (t : Taken) (i z : List ℕ) : Type 0 where
  pub traced : t.traced ≡ traced_of bytes a
  pub run : standing t.run i z ≡ taken a (answer_to bytes a)
  pub left : memories i z ≡ (answer_to bytes a).memories

-- the run after the next word; where nothing is left it stays
unfoldable pub onward : List ℕ → Run → Run
onward bytes a = cond (is_over bytes a.refusal a.index) a (taken a (answer_to bytes a))

-- the line of the next word; none where nothing is left
unfoldable pub line_at : List ℕ → Run → List ℕ
line_at bytes a = cond (is_over bytes a.refusal a.index) [] (trace_line (traced_of bytes a))

-- what a call for one word leaves: the run after it, and its line laid on a page
pub record Turns (bytes line : List ℕ) (a : Run) (old : Page) (t : Running) (i z : List ℕ) (new : Page) : Type 0 where
  pub run : standing t i z ≡ onward bytes a
  pub text : Lays line old new

-- ---- a recording

-- the lines of n words more
unfoldable pub trace_from : List ℕ → (Run → List ℕ) → ℕ → Run → List ℕ
trace_from bytes line zero a = []
trace_from bytes line (suc n) a = line a ++ trace_from bytes line n (onward bytes a)

-- the run after n words more
unfoldable pub reached : List ℕ → ℕ → Run → Run
reached bytes zero a = a
reached bytes (suc n) a = reached bytes n (onward bytes a)

-- before the first word
abbrev pub start : Memories → Run
start m = ran 0 0 0 reset_of m

-- a recording's trace over some memories
unfoldable pub trace_of : List ℕ → Memories → List ℕ
trace_of bytes m = trace_from bytes (line_at bytes) (length (unpack_of bytes)) (start m)
