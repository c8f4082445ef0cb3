-- What words complete: X and PX what their vertex completes, all others nothing; and the vertices of it. Assumes nothing.
use mathlib.Core.Bool.{Bool, cond}
use Prim.Native.Nat.{ℕ}
use Rattle.picture.specs.declared.Vertex.{Vertex}
use Rattle.registers.specs.declared.word.Word.{Word}
use Rattle.registers.specs.declared.word.Word.TheVariants.{Init, Aux, Parm, At, Img, Ptrn, Reserved, Unmodelled, Unknown}
use Rattle.registers.specs.declared.word.Coordinate.{Coordinate}
use Rattle.registers.specs.declared.word.Coordinate.TheVariants.{I, Z, Y, X, T1x, T2x, Lx, Px}
use Rattle.registers.specs.declared.shape.Shape.{Shape}
use Rattle.registers.specs.declared.shape.Shape.TheVariants.{Closed, Strip, Fan, Line}
use Rattle.registers.specs.declared.shape.Completed.{Completed}
use Rattle.registers.specs.declared.shape.Completed.TheVariants.{Nothing as NoFigure, Triangle, Segment}
use Rattle.registers.specs.declared.Registers.{Registers}
use Rattle.registers.specs.Figure.{shape_of, vertex_of, is_pair, completes, vertex_completes}
use Rattle.registers.specs.Next.{coordinate_completes, completed_by}
use Rattle.ground.proofs.Truth.{either}

-- ---- only X and PX complete

-- P is so of every word with nothing completed, and of X and PX with what their vertex completes
module _ (P : Word → (Registers → Completed) → Type 0) (none : (w : Word) → P w (λ r. NoFigure)) (x : (n : ℕ) → P (At X n) (λ r. vertex_completes r n)) (px : (n : ℕ) → P (At Px n) (λ r. vertex_completes r n)) where
  coordinate_completes_lem : (c : Coordinate) (n : ℕ) → P (At c n) (λ r. coordinate_completes r c n)
  unfolding coordinate_completes
  coordinate_completes_lem I n = none (At I n)
  coordinate_completes_lem Z n = none (At Z n)
  coordinate_completes_lem Y n = none (At Y n)
  coordinate_completes_lem X n = x n
  coordinate_completes_lem T1x n = none (At T1x n)
  coordinate_completes_lem T2x n = none (At T2x n)
  coordinate_completes_lem Lx n = none (At Lx n)
  coordinate_completes_lem Px n = px n

  -- so it is of every word with what it completes
  pub only_x_and_px : (w : Word) → P w (λ r. completed_by r w)
  unfolding completed_by
  only_x_and_px (Init d) = none (Init d)
  only_x_and_px (Aux n) = none (Aux n)
  only_x_and_px (Parm v) = none (Parm v)
  only_x_and_px (At c n) = coordinate_completes_lem c n
  only_x_and_px (Img d) = none (Img d)
  only_x_and_px (Ptrn v) = none (Ptrn v)
  only_x_and_px Reserved = none Reserved
  only_x_and_px Unmodelled = none Unmodelled
  only_x_and_px Unknown = none Unknown

-- ---- the vertices of what is completed

-- all vertices of a completed figure are such
abbrev pub AllVertices : (Vertex → Type 0) → Completed → Type 0
AllVertices P NoFigure = Unit {0}
AllVertices P (Triangle a b c) = P a × P b × P c
AllVertices P (Segment a b) = P a × P b

module _ (P : Vertex → Type 0) (r : Registers) (first : P r.figure.first) (second : P r.figure.second) where
  triangle_has : (v : Vertex) → P v → AllVertices P (cond (is_pair r.figure) (Triangle r.figure.first r.figure.second v) NoFigure)
  triangle_has v h = either (AllVertices P) (is_pair r.figure) (λ t. (first, second, h)) (λ t. tt)

  completes_has : (shape : Shape) (inv : Bool) (v : Vertex) → P v → AllVertices P (completes shape inv r.figure v)
  unfolding completes
  completes_has Closed inv v h = tt
  completes_has Strip inv v h = triangle_has v h
  completes_has Fan inv v h = triangle_has v h
  completes_has Line inv v h = either (AllVertices P) inv (λ t. tt) (λ t. (first, h))

  -- what the open figure's vertices have, and the one that an x makes, the vertices have of what it completes
  pub vertex_has : (n : ℕ) → P (vertex_of r n) → AllVertices P (vertex_completes r n)
  vertex_has n h = completes_has (shape_of r.figure.shape) _ (vertex_of r n) h
