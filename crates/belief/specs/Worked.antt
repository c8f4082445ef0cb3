-- Two runs that are such as demand 3 supposes, over 512 places. The scene has two faces that overlap and a mode 2 line across both, with a
-- refused word among its words, and goes on with another line length. The outline has lines at the depth of what stands there.
use Rattle.std.specs.Prelude.{◌≡◌, true, List, [], ◌∷◌, ◌++◌, map, ℕ}
use Rattle.picture.specs.declared.Kind.TheVariants.{Gouraud, Line2}
use Rattle.picture.specs.Offer.{Offer, offer}
use Rattle.picture.specs.Cell.{cell}
use Rattle.registers.specs.Record.{reset_of}
use Rattle.registers.specs.Word.{word_of}
use Rattle.machine.specs.Machine.{Memories, step_of}
use Rattle.machine.specs.Touched.{cell_in}
use Rattle.machine.specs.Offers.{all_of}
use Rattle.chip.specs.Chip.{chip}
use Rattle.chip.specs.Fresh.{fresh}
use Rattle.belief.specs.Belief.{offers_of, supposed}

-- ---- their words, each told by its number

-- both write enables, depth test, line mode 2
abbrev pub all_on : List ℕ
all_on = 0xE0004 ∷ 0xD0006 ∷ 0xE0003 ∷ 0xD0040 ∷ 0xE0001 ∷ 0xD0002 ∷ []

-- INIT to a line length of 256, and then all that on
abbrev pub init : List ℕ
init = (0xF0000 ∷ []) ++ all_on

-- INIT to a line length of 320, and then all that on
abbrev pub init_wide : List ℕ
init_wide = (0xF0100 ∷ []) ++ all_on

-- a near face, I 200 and Z 10: (1, 0) (5, 0) (1, 2)
abbrev pub near_face : List ℕ
near_face = 0x100C8 ∷ 0x2000A ∷ 0x30000 ∷ 0x50001 ∷ 0x40005 ∷ 0x30002 ∷ 0x40001 ∷ []

-- a far face, I 100 and Z 20: (0, 0) (4, 0) (0, 2)
abbrev pub far_face : List ℕ
far_face = 0x10064 ∷ 0x20014 ∷ 0x30000 ∷ 0x50000 ∷ 0x40004 ∷ 0x30002 ∷ 0x40000 ∷ []

-- a line before both, I 300 and Z 5: (2, 0) to (3, 0)
abbrev pub near_line : List ℕ
near_line = 0x1012C ∷ 0x20005 ∷ 0x30000 ∷ 0x80002 ∷ 0xE000C ∷ 0xD0000 ∷ 0x40003 ∷ []

-- a line of one pixel, I 400 and Z 15: (256, 0); it sends no LSTATUS, and starts visible
abbrev pub point : List ℕ
point = 0x10190 ∷ 0x2000F ∷ 0x80100 ∷ 0x40100 ∷ []

-- a word that is refused with 4
abbrev pub reserved : List ℕ
reserved = 0x70000 ∷ []

-- the scene: the near face, the refused word, the far face and the line before both; then lines of 320, and the line of one pixel
unfoldable pub scene : List ℕ
scene = init ++ near_face ++ reserved ++ far_face ++ near_line ++ init_wide ++ point

-- a line on the far face, I 300 and then 400, and Z 20: (0, 0) to (1, 0) and back
abbrev pub edge_lines : List ℕ
edge_lines = 0x1012C ∷ 0x20014 ∷ 0x30000 ∷ 0x80000 ∷ 0xE000C ∷ 0xD0000 ∷ 0x40001 ∷ 0x10190 ∷ 0x40000 ∷ []

-- the near face at the far one's depth, I 200 and Z 20
abbrev pub tied_face : List ℕ
tied_face = 0x100C8 ∷ 0x20014 ∷ 0x30000 ∷ 0x50001 ∷ 0x40005 ∷ 0x30002 ∷ 0x40001 ∷ []

-- a line of one pixel as far as can be, I 500 and Z 65535: (6, 0)
abbrev pub farthest_line : List ℕ
farthest_line = 0x101F4 ∷ 0x2FFFF ∷ 0x30000 ∷ 0x80006 ∷ 0xE000C ∷ 0xD0000 ∷ 0x40006 ∷ []

-- the outline: the far face, the lines on it, the near face at its depth, and the line of one pixel as far as can be
unfoldable pub outline : List ℕ
outline = init ++ far_face ++ edge_lines ++ tied_face ++ farthest_line

-- ---- what they leave

-- nothing is drawn yet, and all is far
unfoldable pub blank : Memories
blank = fresh 512

-- what a run offers at a place, and how the place ends
pub record Owned (numbers : List ℕ) (at : ℕ) (os : List Offer) (i z : ℕ) : Type 0 where
  pub offers : offers_of reset_of 512 512 (map word_of numbers) at ≡ os
  pub ends : cell_in (all_of (step_of chip) reset_of (map word_of numbers) blank).memories at ≡ cell i z

-- both runs are such as demand 3 supposes, and at some places they offer so much and end so
pub record Worked : Type 0 where
  pub meets : supposed reset_of 512 512 (map word_of scene) ≡ true
  -- each of the three owns a place
  pub far_face_lem : Owned scene 0 (offer Gouraud 0 0 100 20 ∷ []) 100 20
  pub near_face_lem : Owned scene 1 (offer Gouraud 1 0 200 10 ∷ offer Gouraud 1 0 100 20 ∷ []) 200 10
  pub line : Owned scene 2 (offer Gouraud 2 0 200 10 ∷ offer Gouraud 2 0 100 20 ∷ offer Line2 2 0 300 5 ∷ []) 300 5
  -- (0, 1) was at the place where (256, 0) is now
  pub after_init : Owned scene 256 (offer Gouraud 0 1 100 20 ∷ offer Line2 256 0 400 15 ∷ []) 400 15
  pub outlined : supposed reset_of 512 512 (map word_of outline) ≡ true
  -- of a face and lines at its depth the last line shows, and
  pub edge : Owned outline 0 (offer Gouraud 0 0 100 20 ∷ offer Line2 0 0 300 20 ∷ offer Line2 0 0 400 20 ∷ []) 400 20
  -- stays over a face of that depth that comes later
  pub edge_kept : Owned outline 1 (offer Gouraud 1 0 100 20 ∷ offer Line2 1 0 300 20 ∷ offer Line2 1 0 300 20 ∷ offer Gouraud 1 0 200 20 ∷ []) 300 20
  -- of faces the first
  pub face : Owned outline 2 (offer Gouraud 2 0 100 20 ∷ offer Gouraud 2 0 200 20 ∷ []) 100 20
  -- a line shows at the starting depth
  pub farthest : Owned outline 6 (offer Line2 6 0 500 65535 ∷ []) 500 65535
