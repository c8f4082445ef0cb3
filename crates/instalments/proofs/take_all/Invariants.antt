-- `take_all` meets its contract. The invariant of its loop: as many bits are held as wait for the rest of their word, and the bytes that are
-- left, taken from here, come to what all of them come to. Assumes nothing.
use Rattle.std.proofs.Common.{◌≡◌, ℕ, List, length}
use Rattle.machine.specs.Machine.{memories}
use Rattle.instalments.specs.declared.Intake.{Intake}
use Rattle.instalments.specs.Instalments.{so_far, taking}
use Rattle.instalments.proofs.Turns.{Turned}
use Rattle.instalments.proofs.take_all.Given as goal

-- k of the bytes were taken, and the memories are as long as they were
pub record Going (start : Intake) (bytes im₀ zm₀ im zm : List ℕ) (next : Intake) (held count k : ℕ) : Type 0 where
  pub i_long : length im ≡ length im₀
  pub z_long : length zm ≡ length zm₀
  pub so_far_lem : Turned bytes (taking start (memories im₀ zm₀)) (so_far next (memories im zm)) held count k

abbrev pub invariant-loop-k : goal.invariant-loop-k
invariant-loop-k l = Going l.initial.next l.bytes l.initial.im l.initial.zm l.im l.zm l.next l.held l.count l.k
