-- `nearer::draw_tiled` meets its contract. The invariant of its loop: the pixels before column x are drawn, and the carried numbers are those
-- of column x. The measure is the number of columns left. Assumes nothing.
use Rattle.std.proofs.Common.{ℕ, ◌+◌, ◌-◌, ◌≤◌, List}
use Rattle.picture.specs.declared.Carried.{Carried}
use Rattle.picture.specs.Loops.{along_tiles}
use Rattle.picture.proofs.Loops.{Running}
use Rattle.picture.proofs.nearer.draw_tiled.Given as goal

-- of the pixels from column lo up to and without hi those before column x are drawn, each at its place in the tiles
pub record RunningTiles (base lo hi : ℕ) (i z : Carried) (im₀ zm₀ im zm : List ℕ) (ki kz : Carried) (x passed : ℕ) : Type 0 where
  pub from : lo ≤ x
  pub running : Running (λ j. base + along_tiles (lo + j)) i z (hi - lo) im₀ zm₀ 0 im zm ki kz (x - lo) passed

abbrev pub invariant-loop-x : goal.invariant-loop-x
invariant-loop-x l = RunningTiles l.base l.s.lo l.s.hi l.s.i l.s.z l.initial.im l.initial.zm l.im l.zm l.i l.z l.x l.passed

abbrev pub decreases-loop-x : goal.decreases-loop-x
decreases-loop-x l = l.s.hi - l.x
