-- The picture as one place sees it: the two numbers that stand there, and the offers that are made there.
use Rattle.std.specs.Prelude.{ℕ, cond, List, [], ◌∷◌, ◌==◌, slice_index}
use Rattle.picture.specs.declared.Frame.{Frame}
use Rattle.picture.specs.declared.Pen.{Pen}
use Rattle.picture.specs.Place.{place_of}
use Rattle.picture.specs.Offer.{Offer}
use Rattle.picture.specs.Picture.{Picture, passes, new_i, new_z}

-- the two numbers at a place
pub record Cell : Type 0 where
  pub i : ℕ
  pub z : ℕ

-- a cell of two numbers, that of I and that of Z
abbrev pub cell : ℕ → ℕ → Cell
cell i z = record { i = i; z = z }

-- the cell at a place of a picture, with 0 for a number that a memory does not have
abbrev pub cell_at : Picture → ℕ → Cell
cell_at p at = cell (slice_index p.i at) (slice_index p.z at)

-- what an offer leaves of them
unfoldable pub offer_leaves : Pen → Cell → Offer → Cell
offer_leaves pen c o = cond (passes pen o.kind o.z c.z) (cell (new_i pen o.i c.i) (new_z pen o.kind o.z c.z)) c

-- the offers that are made at a place
unfoldable pub there : Frame → ℕ → List Offer → List Offer
there frame at [] = []
there frame at (o ∷ os) = cond (place_of frame o.x o.y == at) (o ∷ there frame at os) (there frame at os)
