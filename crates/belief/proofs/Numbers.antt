-- The I and Z numbers that figures have: of 16 bits, as the words that brought them. The registers and the vertices that a figure keeps take
-- them from words alone. Assumes nothing.
use mathlib.Core.Path.{◌≡◌, sym, subst}
use mathlib.Core.Logic.{⊎_elim}
use mathlib.Core.Bool.{Bool}
use mathlib.Core.List.Memᴰ
use mathlib.Core.List.{List, [], ◌∷◌, map, Memᴰ}
use Prim.Native.Nat.{ℕ, ◌/◌, ◌%◌, ◌≤◌, zero-le}
use native.Mathlib.Omega.{arith}
use Rattle.picture.specs.declared.Frame.{Frame}
use Rattle.picture.specs.declared.Vertex.{Vertex}
use Rattle.picture.specs.Place.{frame_of}
use Rattle.picture.proofs.Members.{Numbers}
use Rattle.registers.specs.declared.Registers.{Registers}
use Rattle.registers.specs.declared.Latch.{Latch}
use Rattle.registers.specs.declared.Figure.{Figure}
use Rattle.registers.specs.declared.word.Word.{Word}
use Rattle.registers.specs.declared.word.Word.TheVariants.{Init, Aux, Parm, At, Img, Ptrn, Reserved, Unmodelled, Unknown}
use Rattle.registers.specs.declared.word.Coordinate.{Coordinate}
use Rattle.registers.specs.declared.word.Coordinate.TheVariants.{I, Z, Y, X, T1x, T2x, Lx, Px}
use Rattle.registers.specs.declared.shape.Shape.{Shape}
use Rattle.registers.specs.declared.shape.Shape.TheVariants.{Closed, Strip, Fan, Line}
use Rattle.registers.specs.Lines.{code_in, line_of}
use Rattle.registers.specs.Record.{no_vertex, settings, reset_as}
use Rattle.registers.specs.Word.{commands, decode, word_of}
use Rattle.registers.specs.Figure.{shape_of, vertex_of, is_pair, grown_of, figure_after}
use Rattle.registers.specs.Next.{parm_of, coordinate_of, record_after, completed_by}
use Rattle.refusals.specs.Refusal.{refusal_of}
use Rattle.ground.proofs.Truth.{either}
use Rattle.registers.proofs.Table.{everywhere}
use Rattle.registers.proofs.Effects.{parm_leaves}
use Rattle.registers.proofs.Completing.{AllVertices}
use Rattle.refusals.proofs.Vertices.{completed_has}

-- ---- words

-- a coordinate's number is of 16 bits
abbrev pub Narrow : Word → Type 0
Narrow (Init d) = Unit {0}
Narrow (Aux n) = Unit {0}
Narrow (Parm v) = Unit {0}
Narrow (At c n) = n ≤ 65535
Narrow (Img d) = Unit {0}
Narrow (Ptrn v) = Unit {0}
Narrow Reserved = Unit {0}
Narrow Unmodelled = Unit {0}
Narrow Unknown = Unit {0}

decode_narrow : (command d : ℕ) → d ≤ 65535 → Narrow (decode command d)
unfolding decode
decode_narrow command d h =
    everywhere (λ k w. Narrow w) Unknown (commands d) (tt, (h, (h, (h, (h, (h, (h, (tt, (h, (tt, (tt, (h, (tt, (tt, (tt, (tt, tt)))))))))))))))) (λ k l. tt) command

-- so it is of every word that a number tells
pub words_narrow : (numbers : List ℕ) (w : Word) → Memᴰ w (map word_of numbers) → Narrow w
unfolding word_of
words_narrow [] w u = absurd (Memᴰ.not-nil u)
words_narrow (n ∷ numbers) w u =
    ⊎_elim (λ e. subst Narrow (sym e) (decode_narrow (n / 65536) (n % 65536) (omega arith))) (λ v. words_narrow numbers w v) (Memᴰ.cases_cons u)

-- ---- registers

-- the vertices that a figure keeps have such numbers
pub record Kept (f : Figure) : Type 0 where
  pub first : Numbers 65535 f.first
  pub second : Numbers 65535 f.second

-- and so have the I and Z registers
pub record Small (r : Registers) : Type 0 where
  pub i : r.latch.i ≤ 65535
  pub z : r.latch.z ≤ 65535
  pub figure : Kept r.figure

no_numbers : Numbers 65535 no_vertex
no_numbers = record { i = zero-le; z = zero-le }

-- after reset and after INIT all are 0
settings_small : (started : ℕ) (frame : Frame) → Small (settings started frame)
unfolding settings
settings_small started frame = record { i = zero-le; z = zero-le; figure = record { first = no_numbers; second = no_numbers } }

-- so they are small after reset
pub reset_small : (layout : ℕ) → Small (reset_as layout)
reset_small layout = settings_small 0 (frame_of 256 layout)

grown_kept : (shape : Shape) (end dashed : Bool) (f : Figure) (v : Vertex) → Kept f → Numbers 65535 v → Kept (grown_of shape end dashed f v)
unfolding grown_of
grown_kept Closed end dashed f v k n = k
grown_kept Strip end dashed f v k n = either Kept (is_pair f) (λ t. record { first = k.second; second = n }) (λ t. record { first = k.first; second = n })
grown_kept Fan end dashed f v k n = record { first = k.first; second = n }
grown_kept Line end dashed f v k n = either Kept end (λ t. record { first = no_numbers; second = no_numbers }) (λ t. record { first = n; second = no_numbers })

module _ (r : Registers) (s : Small r) where
  -- a vertex takes the registers' numbers
  vertex_numbers : (x : ℕ) → Numbers 65535 (vertex_of r x)
  vertex_numbers x = record { i = s.i; z = s.z }

  grown_small : (x : ℕ) → Kept (figure_after r x)
  grown_small x = grown_kept (shape_of r.figure.shape) _ _ r.figure (vertex_of r x) s.figure (vertex_numbers x)

  coordinate_small : (c : Coordinate) (n : ℕ) → n ≤ 65535 → Small (coordinate_of r c n)
  unfolding coordinate_of
  coordinate_small I n h = record { i = h; z = s.z; figure = s.figure }
  coordinate_small Z n h = record { i = s.i; z = h; figure = s.figure }
  coordinate_small Y n h = record { i = s.i; z = s.z; figure = s.figure }
  coordinate_small X n h = record { i = s.i; z = s.z; figure = grown_small n }
  coordinate_small T1x n h = record { i = s.i; z = s.z; figure = record { first = vertex_numbers n; second = no_numbers } }
  coordinate_small T2x n h = record { i = s.i; z = s.z; figure = record { first = vertex_numbers n; second = no_numbers } }
  coordinate_small Lx n h = record { i = s.i; z = s.z; figure = record { first = vertex_numbers n; second = no_numbers } }
  coordinate_small Px n h = record { i = s.i; z = s.z; figure = grown_small n }

  parm_small : (v : ℕ) → Small (parm_of r v)
  parm_small v =
      let k = parm_leaves r v in
      record {
        i = subst (λ (l : Latch). l.i ≤ 65535) (sym k.latch) s.i;
        z = subst (λ (l : Latch). l.z ≤ 65535) (sym k.latch) s.z;
        figure = subst Kept (sym k.figure) s.figure;
      }

  -- words keep it so
  pub after_small : (w : Word) → Narrow w → Small (record_after r w)
  unfolding record_after
  after_small (Init d) h = settings_small 1 (frame_of (line_of (code_in d)) r.frame.layout)
  after_small (Aux n) h = record { i = s.i; z = s.z; figure = s.figure }
  after_small (Parm v) h = parm_small v
  after_small (At c n) h = coordinate_small c n h
  after_small (Img d) h = record { i = s.i; z = s.z; figure = s.figure }
  after_small (Ptrn v) h = record { i = s.i; z = s.z; figure = s.figure }
  after_small Reserved h = s
  after_small Unmodelled h = s
  after_small Unknown h = s

-- what an accepted word completes has vertices with such numbers
pub completed_small : (ni nz : ℕ) (r : Registers) (w : Word) → Small r → refusal_of ni nz r w ≡ 0 → AllVertices (Numbers 65535) (completed_by r w)
completed_small ni nz r w s = completed_has (Numbers 65535) r s.figure.first s.figure.second (λ n h. vertex_numbers r s n) ni nz w
