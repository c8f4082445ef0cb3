-- `run::run_words` meets its contract. Its loop keeps that the whole run is the run of the words that are left, from where k words came to, and that
-- the record breaks no bound. Assumes nothing.
use Rattle.std.proofs.Common.{◌≡◌, ℕ, true, List, length}
use Rattle.stream.specs.Format.{unpack_of}
use Rattle.registers.specs.declared.Registers.{Registers}
use Rattle.refusals.specs.Bounds.{in_bounds}
use Rattle.machine.specs.Machine.{memories}
use Rattle.chip.proofs.Streams.{Reached}
use Rattle.chip.proofs.run.run_words.Given as goal

-- k of the words were run, the record breaks no bound, and the memories are of one length
pub record Going (start : Registers) (bytes im₀ zm₀ : List ℕ) (count : ℕ) (im zm : List ℕ) (r : Registers) (sum k : ℕ) : Type 0 where
  pub all : count ≡ length (unpack_of bytes)
  pub alike : length im ≡ length zm
  pub bounded : in_bounds r ≡ true
  pub so_far_lem : Reached start bytes (memories im₀ zm₀) (memories im zm) r sum k

abbrev pub invariant-loop-k : goal.invariant-loop-k
invariant-loop-k l = Going l.initial.r l.bytes l.initial.im l.initial.zm l.count l.im l.zm l.r l.sum l.k
