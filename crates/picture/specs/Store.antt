-- Pixels of pictures (request [1]). They are stored as they come: the write enables and, for I, the planes decide, and nothing is counted;
-- and they are read as they stand.
use Rattle.std.specs.Prelude.{ℕ, Bool, cond, ◌&&◌, List, [], ◌∷◌, length, ◌==◌, slice_index, slice_set}
use mathlib.Core.List.{foldl}
use Rattle.picture.specs.declared.Frame.{Frame}
use Rattle.picture.specs.declared.Pen.{Pen}
use Rattle.picture.specs.Place.{place_of, rows_of, in_memory}
use Rattle.picture.specs.Picture.{Picture, picture, new_i}
use Rattle.picture.specs.Cell.{Cell, cell}

-- a pixel, the number for it, and whether that is its depth
pub record Store : Type 0 where
  pub deep : Bool
  pub x : ℕ
  pub y : ℕ
  pub value : ℕ

-- a pixel to store: whether the number is a depth, the column and the row, and the number
abbrev pub pixel_for : Bool → ℕ → ℕ → ℕ → Store
pixel_for deep x y value = record { deep = deep; x = x; y = y; value = value }

-- what it leaves of the number that stood in I, and in Z
unfoldable pub stored_i : Pen → Store → ℕ → ℕ
stored_i pen s old = cond s.deep old (new_i pen s.value old)

-- the number where it is a depth and the Z enable is on, and elsewhere the old depth
unfoldable pub stored_z : Pen → Store → ℕ → ℕ
stored_z pen s old = cond (s.deep && pen.zenable) s.value old

-- its place
abbrev pub site : Pen → Store → ℕ
site pen s = place_of pen.frame s.x s.y

-- one of them
unfoldable pub stored : Pen → Picture → Store → Picture
stored pen p s =
    picture (slice_set p.i (site pen s) (stored_i pen s (slice_index p.i (site pen s)))) (slice_set p.z (site pen s) (stored_z pen s (slice_index p.z (site pen s)))) p.passed

-- one after the other
unfoldable pub filled : Pen → List Store → Picture → Picture
filled pen ss p = foldl (stored pen) p ss

-- a pixel inside the memory, of which so many rows are in use: itself, or nothing
unfoldable pub storable : Pen → ℕ → Store → List Store
storable pen rows s = cond (in_memory pen.frame rows s.x s.y) (s ∷ []) []

-- the number that is read at a pixel, in Z or in I: 0 outside the memory
unfoldable pub read_of : Frame → Bool → ℕ → ℕ → List ℕ → List ℕ → ℕ
read_of frame deep x y i z = cond (in_memory frame (rows_of frame (length i) (length z)) x y) (slice_index (cond deep z i) (place_of frame x y)) 0

-- ---- as one place sees it

-- what a pixel that is stored at a place leaves of its two numbers
unfoldable pub after_store : Pen → Cell → Store → Cell
after_store pen c s = cell (stored_i pen s c.i) (stored_z pen s c.z)

-- those of some pixels that are stored at a place
unfoldable pub stores_at : Pen → ℕ → List Store → List Store
stores_at pen at [] = []
stores_at pen at (s ∷ ss) = cond (site pen s == at) (s ∷ stores_at pen at ss) (stores_at pen at ss)
