-- `sort::sort` meets its contract. Its loop keeps that of k words j are kept and d are dropped, and what stands of them (`SortedTo`).
-- Assumes nothing.
use mathlib.Core.Path.{◌≡◌}
use mathlib.Core.List.{List}
use Prim.Native.Nat.{ℕ, ◌+◌}
use lib.ListN.{length}
use Rattle.std.specs.Prelude.{Option}
use Rattle.registers.specs.declared.Registers.{Registers}
use Rattle.mending.specs.Sort.{Waits, word_in}
use Rattle.mending.proofs.Sorting.{SortedTo}
use Rattle.mending.proofs.sort.sort.Given as goal

-- k of the recording's words are sorted, and the output and the lists are as long as they were
pub record Sorting (bytes out₀ indices₀ numbers₀ out indices numbers : List ℕ) (r : Registers) (waiting : Option ℕ) (j d k : ℕ) : Type 0 where
  pub all : k ≡ j + d
  pub waits : Waits waiting j
  pub stream_long : length out ≡ length out₀
  pub places_long : length indices ≡ length indices₀
  pub reasons_long : length numbers ≡ length numbers₀
  pub so_far_lem : SortedTo bytes out₀ indices₀ numbers₀ out indices numbers r (word_in waiting) j d

abbrev pub invariant-loop-k : goal.invariant-loop-k
invariant-loop-k l =
    Sorting l.bytes l.initial.out l.initial.indices l.initial.numbers l.out l.indices l.numbers l.r l.waiting l.j l.d l.k
