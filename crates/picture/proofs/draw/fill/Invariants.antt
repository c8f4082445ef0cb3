-- `draw::fill` meets its contract. The invariant of its loop: the pixels before column x are drawn, and the carried numbers are those of column x.
-- Assumes nothing.
use Rattle.std.proofs.Common.{◌≡◌, ℕ, ◌-◌, ◌≤◌, Bool, List, length}
use Rattle.picture.specs.declared.Pen.{Pen}
use Rattle.picture.specs.declared.Kind.{Kind}
use Rattle.picture.specs.declared.Carried.{Carried}
use Rattle.picture.specs.declared.Stretch.{Stretch}
use Rattle.picture.specs.Place.{lies_tiled, place_of, rows_of}
use Rattle.picture.specs.Draw.{seen, span_pixel}
use Rattle.picture.proofs.Loops.{Filling}
use Rattle.picture.proofs.draw.fill.Given as goal

-- of the pixels of a stretch those before column x are drawn, and the frame tells the first place of their row and whether it lies in tiles
pub record FillingRun (pen : Pen) (kind : Kind) (s : Stretch) (im₀ zm₀ : List ℕ) (tiled : Bool) (base : ℕ) (im zm : List ℕ) (i z : Carried) (x n : ℕ) : Type 0 where
  pub from : s.lo ≤ x
  pub row : base ≡ place_of pen.frame 0 s.y
  pub in_tiles : tiled ≡ lies_tiled pen.frame
  pub filling : Filling pen (λ k. seen pen (rows_of pen.frame (length im₀) (length zm₀)) (span_pixel kind s.lo s.y s.i s.z k)) s.i s.z (s.hi - s.lo) im₀ zm₀ im zm i z (x - s.lo) n

abbrev pub invariant-loop-x : goal.invariant-loop-x
invariant-loop-x l = FillingRun l.pen l.kind l.s l.initial.im l.initial.zm l.tiled l.base l.im l.zm l.i l.z l.x l.n
