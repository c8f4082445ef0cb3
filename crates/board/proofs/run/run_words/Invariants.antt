-- `run::run_words` meets its contract. Its loop keeps that the whole run is the run of the words that are left, from where k words came to. Assumes nothing.
use Rattle.std.proofs.Common.{ℕ, List}
use Rattle.board.specs.declared.Board.{Board}
use Rattle.board.specs.Bank.{Bank, lent}
use Rattle.board.proofs.Lengths.{AsLong}
use Rattle.board.proofs.Turns.{Reached}
use Rattle.board.proofs.run.run_words.Given as goal

-- k of the words were run, and the memories are as long as they were
pub record Going (start : Board) (bytes : List ℕ) (m₀ : Bank) (m : Bank) (b : Board) (sum k : ℕ) : Type 0 where
  pub long : AsLong m₀ m
  pub so_far_lem : Reached start bytes m₀ m b sum k

abbrev pub invariant-loop-k : goal.invariant-loop-k
invariant-loop-k l =
    Going l.initial.board l.bytes (lent l.initial.i0 l.initial.z0 l.initial.i1 l.initial.z1 l.initial.i2 l.initial.z2 l.initial.i3 l.initial.z3) (lent l.i0 l.z0 l.i1 l.z1 l.i2 l.z2 l.i3 l.z3) l.board l.sum l.k
