-- `recording::words_counted` meets its contract. Its loop keeps that the whole count is the count of the words that are left, from where k words
-- came to. Assumes nothing.
use Rattle.std.proofs.Common.{◌≡◌, ℕ, ◌≤◌, List, length}
use Rattle.stream.specs.Format.{unpack_of}
use Rattle.registers.specs.declared.Registers.{Registers}
use Rattle.machine.specs.Machine.{memories}
use Rattle.tally.specs.declared.Tally.{Tally}
use Rattle.tally.proofs.Words.{Reached}
use Rattle.tally.proofs.recording.words_counted.Given as goal

-- k of the words, which are few, were run and counted
pub record Counting (bytes im₀ zm₀ : List ℕ) (count : ℕ) (im zm : List ℕ) (r : Registers) (t : Tally) (k : ℕ) : Type 0 where
  pub all : count ≡ length (unpack_of bytes)
  pub few : count ≤ 3276
  pub so_far_lem : Reached bytes (memories im₀ zm₀) (memories im zm) r t k

abbrev pub invariant-loop-k : goal.invariant-loop-k
invariant-loop-k l = Counting l.bytes l.initial.im l.initial.zm l.count l.im l.zm l.r l.tally l.k
