-- The image of a memory: a portable graymap (PGM, `P5`), the topmost row first, so that a picture whose row 0 is the lowest stands upright. `most`
-- is the greatest number that a pixel may have: 65535 for the numbers of a memory, and 255 for levels (Levels.antt).
use Rattle.std.specs.Prelude.{◌≡◌, ℕ, zero, suc, ◌+◌, ◌-◌, ◌*◌, ◌/◌, ◌%◌, cond, List, [], ◌∷◌, ◌++◌, length, get_or, ltb}
use Rattle.report.specs.Text.{field, pair}

-- `P5`, and the line's end
abbrev pub magic : List ℕ
magic = 80 ∷ 53 ∷ 10 ∷ []

-- the kind of image, its width and height, and the greatest number that a pixel may have
unfoldable pub image_heading : ℕ → ℕ → ℕ → List ℕ
image_heading most line rows = magic ++ pair line rows 10 ++ field most 10

-- a number of 16 bits in two bytes, the more significant first
abbrev pub two_bytes : ℕ → List ℕ
two_bytes n = n / 256 ∷ n % 256 ∷ []

-- a pixel's bytes: one where no number is above 255, and else two
unfoldable pub pixel : ℕ → ℕ → List ℕ
pixel most n = cond (ltb most 256) (n % 256 ∷ []) (two_bytes n)

-- how many they are
unfoldable pub pixel_size : ℕ → ℕ
pixel_size most = cond (ltb most 256) 1 2

-- the numbers of n places, from a place on; past its end a memory holds 0
unfoldable pub numbers : ℕ → List ℕ → ℕ → ℕ → List ℕ
numbers most memory from zero = []
numbers most memory from (suc n) = numbers most memory from n ++ pixel most (get_or memory (from + n) 0)

-- the numbers of row y, columns rising
unfoldable pub row_bytes : ℕ → ℕ → List ℕ → ℕ → List ℕ
row_bytes most line memory y = numbers most memory (y * line) line

-- the k rows under row `below`, rows falling
unfoldable pub down : ℕ → ℕ → List ℕ → ℕ → ℕ → List ℕ
down most line memory below zero = []
down most line memory below (suc k) = down most line memory below k ++ row_bytes most line memory (below - suc k)

-- the image of a memory's lowest rows
unfoldable pub image : ℕ → ℕ → ℕ → List ℕ → List ℕ
image most line rows memory = image_heading most line rows ++ down most line memory rows rows

-- a part that stands in a text, at a place
pub record Holds (text : List ℕ) (at : ℕ) (part : List ℕ) : Type 0 where
  pub before : List ℕ
  pub after : List ℕ
  pub whole : text ≡ before ++ part ++ after
  pub place : at ≡ length before
