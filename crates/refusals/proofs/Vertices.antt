-- The vertices of what an accepted word completes have coordinates up to the largest. Assumes nothing.
use mathlib.Core.Path.{◌≡◌}
use mathlib.Core.Bool.{true}
use Prim.Native.Nat.{ℕ, ◌≤◌}
use borrow.Author.Tests.{leb-true}
use Rattle.picture.specs.declared.Vertex.{Vertex}
use Rattle.picture.specs.Limits.{largest_coordinate}
use Rattle.registers.specs.declared.word.Word.{Word}
use Rattle.registers.specs.declared.Registers.{Registers}
use Rattle.registers.specs.Figure.{vertex_of}
use Rattle.registers.specs.Next.{completed_by}
use Rattle.refusals.specs.Allowed.{is_coordinate, allowed}
use Rattle.refusals.specs.Bounds.{vertex_fits}
use Rattle.refusals.specs.Refusal.{refusal_of}
use Rattle.ground.proofs.Truth.{both}
use Rattle.registers.proofs.Completing.{only_x_and_px, AllVertices, vertex_has}
use Rattle.refusals.proofs.Refusals.{accepted_when}
use Rattle.refusals.proofs.Kept.{parts, vertices, vertex_fits_lem}

-- what the open figure's vertices have, and each vertex that an allowed x makes, the vertices have of what an accepted word completes
pub completed_has : (P : Vertex → Type 0) (r : Registers) → P r.figure.first → P r.figure.second → ((n : ℕ) → is_coordinate n ≡ true → P (vertex_of r n))
    → (ni nz : ℕ) (w : Word) → refusal_of ni nz r w ≡ 0 → AllVertices P (completed_by r w)
completed_has P r first second new ni nz w e =
    only_x_and_px (λ w f. allowed r w ≡ true → AllVertices P (f r)) (λ w h. tt) (λ n h. vertex_has P r first second n (new n h))
    (λ n h. vertex_has P r first second n (new n h)) w ((accepted_when ni nz r w).0 e).valued

-- a vertex whose coordinates are at most the largest
pub record Near (v : Vertex) : Type 0 where
  pub across : v.x ≤ largest_coordinate
  pub up : v.y ≤ largest_coordinate

near : (v : Vertex) → vertex_fits v ≡ true → Near v
unfolding vertex_fits
near v h = let q = both (is_coordinate v.x) (is_coordinate v.y) h in record { across = leb-true _ _ q.0; up = leb-true _ _ q.1 }

-- the vertices of what an accepted word completes have coordinates of at most the largest
pub completed_near : (ni nz : ℕ) (r : Registers) (w : Word) → refusal_of ni nz r w ≡ 0 → AllVertices Near (completed_by r w)
completed_near ni nz r w e =
    let s = parts r ((accepted_when ni nz r w).0 e).sound in
    let q = vertices r.figure s.figure in
    completed_has Near r (near r.figure.first q.0) (near r.figure.second q.1) (λ n h. near (vertex_of r n) (vertex_fits_lem r s n h)) ni nz w e
