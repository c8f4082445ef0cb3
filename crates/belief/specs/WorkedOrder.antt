-- The worked run of demand 3 with its faces in another order, in lines of another length too; and runs that share a depth, with each other or
-- with the start, so that the premises about depths are seen to be needed.
use Rattle.std.specs.Prelude.{◌≡◌, List, [], ◌∷◌, ◌++◌, map, ℕ, replicate}
use Rattle.picture.specs.Cell.{Cell, cell}
use Rattle.registers.specs.Record.{reset_of}
use Rattle.registers.specs.Word.{word_of}
use Rattle.machine.specs.Machine.{Memories, memories}
use Rattle.machine.specs.Touched.{cell_in}
use Rattle.belief.specs.Order.{left_by, offered_at, Apart, Reordered}
use Rattle.belief.specs.Worked.{init, init_wide, near_face, far_face, near_line, point, scene, tied_face, farthest_line, blank}

-- ---- the runs

-- the scene with its far face first
unfoldable pub far_first : List ℕ
far_first = init ++ far_face ++ near_face ++ near_line ++ init_wide ++ point

-- its two faces in lines of 320
unfoldable pub wide_faces : List ℕ
wide_faces = init_wide ++ far_face ++ near_face

-- 640 places, of which all but the first three have other numbers than the scene's had
unfoldable pub elsewhere : Memories
elsewhere = memories (0 ∷ 0 ∷ 0 ∷ replicate 637 7) (65535 ∷ 65535 ∷ 65535 ∷ replicate 637 3)

-- two faces of one depth, the far one first
unfoldable pub tied_last : List ℕ
tied_last = init ++ far_face ++ tied_face

-- the same two faces in the other order
unfoldable pub tied_first : List ℕ
tied_first = init ++ tied_face ++ far_face

-- a face at the starting depth, I 500 and Z 65535: (6, 0) (8, 0) (6, 2)
unfoldable pub farthest_face : List ℕ
farthest_face = init ++ (0x101F4 ∷ 0x2FFFF ∷ 0x30000 ∷ 0x50006 ∷ 0x40008 ∷ 0x30002 ∷ 0x40006 ∷ [])

-- a line of the same numbers at the starting depth, of the one pixel (6, 0)
unfoldable pub farthest_edge : List ℕ
farthest_edge = init ++ farthest_line

-- ---- what they leave

-- what a run offers at a place, and how the place ends
pub record Left (numbers : List ℕ) (m : Memories) (at : ℕ) (os : List Cell) (i z : ℕ) : Type 0 where
  pub offers : offered_at reset_of (map word_of numbers) m at ≡ os
  pub ends : cell_in (left_by reset_of (map word_of numbers) m) at ≡ cell i z

-- the scene and another run have the same offers at a place up to order, no two of one depth nor any of the starting depth, and both leave it so
pub record Matched (others : List ℕ) (n : Memories) (at : ℕ) (os us : List Cell) (i z : ℕ) : Type 0 where
  pub reordered : Reordered reset_of reset_of (map word_of scene) (map word_of others) blank n at
  pub apart : Apart (cell_in blank at ∷ offered_at reset_of (map word_of scene) blank at)
  pub one : Left scene blank at os i z
  pub other : Left others n at us i z

-- the scene and runs of its faces in another order end alike at some places; where two offers share a depth, or one has the starting depth,
-- two runs need not
pub record WorkedOrder : Type 0 where
  pub face : Matched far_first blank 1 (cell 200 10 ∷ cell 100 20 ∷ []) (cell 100 20 ∷ cell 200 10 ∷ []) 200 10
  pub line : Matched far_first blank 2 (cell 200 10 ∷ cell 100 20 ∷ cell 300 5 ∷ []) (cell 100 20 ∷ cell 200 10 ∷ cell 300 5 ∷ []) 300 5
  pub after_init : Matched far_first blank 256 (cell 100 20 ∷ cell 400 15 ∷ []) (cell 100 20 ∷ cell 400 15 ∷ []) 400 15
  -- in lines of another length, over memories of another length that have other numbers elsewhere
  pub wide : Matched wide_faces elsewhere 1 (cell 200 10 ∷ cell 100 20 ∷ []) (cell 100 20 ∷ cell 200 10 ∷ []) 200 10
  -- where two share a depth the depths agree, and the intensities need not
  pub tied : Reordered reset_of reset_of (map word_of tied_last) (map word_of tied_first) blank blank 1
  pub shared : Apart (offered_at reset_of (map word_of tied_last) blank 1) → ⊥
  pub tied_last_lem : Left tied_last blank 1 (cell 100 20 ∷ cell 200 20 ∷ []) 100 20
  pub tied_first_lem : Left tied_first blank 1 (cell 200 20 ∷ cell 100 20 ∷ []) 200 20
  -- nor where one has the starting depth, and a line brings it in one of the runs alone
  pub farthest : Reordered reset_of reset_of (map word_of farthest_face) (map word_of farthest_edge) blank blank 6
  pub alone : Apart (offered_at reset_of (map word_of farthest_face) blank 6)
  pub farthest_face_lem : Left farthest_face blank 6 (cell 500 65535 ∷ []) 0 65535
  pub farthest_edge_lem : Left farthest_edge blank 6 (cell 500 65535 ∷ []) 500 65535
