-- `sort::kept` meets its contract. Its loop keeps that the words that are kept past j of them are those that are kept of the words past k.
-- Assumes nothing.
use mathlib.Core.List.{List}
use Prim.Native.Nat.{ℕ, ◌≤◌}
use Rattle.registers.specs.declared.Registers.{Registers}
use Rattle.mending.proofs.Sorting.{KeptTo}
use Rattle.mending.proofs.sort.kept.Given as goal

-- of k of the recording's words j are kept
pub record Keeping (bytes : List ℕ) (r : Registers) (j k : ℕ) : Type 0 where
  pub few : j ≤ k
  pub so_far_lem : KeptTo bytes r j k

abbrev pub invariant-loop-k : goal.invariant-loop-k
invariant-loop-k l = Keeping l.bytes l.r l.j l.k
