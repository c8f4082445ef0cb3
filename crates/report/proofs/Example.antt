-- Document 01's worked output of the drawing program, as the definition has it, and small images. Assumes nothing.
use mathlib.Core.Path.{◌≡◌, refl}
use mathlib.Core.Bool.{true, false}
use mathlib.Core.List.{List, [], ◌∷◌, ◌++◌}
use Prim.Native.Nat.{ℕ}
use lib.ListN.{replicate}
use Rattle.report.specs.Image.{image_heading, pixel, numbers, row_bytes, down, image}
use Rattle.report.specs.Levels.{seen, range_of, base_of, nearest, level_of, level_at, levels_in, levels, level_image}
use Rattle.report.specs.Text.{digits, decimal, field, pair, place_line, lines, named, heading, report}

-- the picture, as far as anything shows: two places of the first row, one of the second
abbrev im : List ℕ
im = 100 ∷ 150 ∷ replicate 254 0 ++ (200 ∷ [])

abbrev zm : List ℕ
zm = 10 ∷ 10 ∷ replicate 254 65535 ++ (10 ∷ [])

-- `words 13 refusal 0 passed 3`, `0 0 100 10`, `1 0 150 10`, `0 1 200 10`
abbrev printed : List ℕ
printed =
    119 ∷ 111 ∷ 114 ∷ 100 ∷ 115 ∷ 32 ∷ 49 ∷ 51 ∷ 32 ∷ 114 ∷ 101 ∷ 102 ∷ 117 ∷ 115 ∷ 97 ∷ 108 ∷ 32 ∷ 48 ∷ 32 ∷ 112 ∷ 97 ∷ 115 ∷ 115 ∷ 101 ∷ 100 ∷ 32 ∷ 51 ∷ 10 ∷
    48 ∷ 32 ∷ 48 ∷ 32 ∷ 49 ∷ 48 ∷ 48 ∷ 32 ∷ 49 ∷ 48 ∷ 10 ∷
    49 ∷ 32 ∷ 48 ∷ 32 ∷ 49 ∷ 53 ∷ 48 ∷ 32 ∷ 49 ∷ 48 ∷ 10 ∷
    48 ∷ 32 ∷ 49 ∷ 32 ∷ 50 ∷ 48 ∷ 48 ∷ 32 ∷ 49 ∷ 48 ∷ 10 ∷ []

-- the text of a run of 13 words that passed 3 pixels, over that picture, is the text of the document
pub example : report 13 0 3 256 im zm ≡ printed
unfolding digits decimal field pair place_line lines named heading report
example = refl

-- two rows of two places, the lower 1 and 258, the upper 3 and 65535: `P5`, `2 2`, `65535`, and the upper row first
pub small_image : image 65535 2 2 (1 ∷ 258 ∷ 3 ∷ 65535 ∷ [])
    ≡ 80 ∷ 53 ∷ 10 ∷ 50 ∷ 32 ∷ 50 ∷ 10 ∷ 54 ∷ 53 ∷ 53 ∷ 51 ∷ 53 ∷ 10 ∷
    0 ∷ 3 ∷ 255 ∷ 255 ∷
    0 ∷ 1 ∷ 1 ∷ 2 ∷ []
unfolding digits decimal field pair image_heading pixel numbers row_bytes down image
small_image = refl

-- four places, the first of which nothing was drawn at: their I is 0, 10, 20 and 40, and their Z 65535, 5, 9 and 15
abbrev lights : List ℕ
lights = 0 ∷ 10 ∷ 20 ∷ 40 ∷ []

abbrev depths : List ℕ
depths = 65535 ∷ 5 ∷ 9 ∷ 15 ∷ []

-- `P5`, `2 2`, `255`
abbrev heading_255 : List ℕ
heading_255 = 80 ∷ 53 ∷ 10 ∷ 50 ∷ 32 ∷ 50 ∷ 10 ∷ 50 ∷ 53 ∷ 53 ∷ 10 ∷ []

-- in levels, I goes from 0 to 40 and Z from 5 to 15
pub small_levels : (level_image false 2 2 lights depths ≡ heading_255 ++ (128 ∷ 255 ∷ 0 ∷ 64 ∷ []))
    × (level_image true 2 2 lights depths ≡ heading_255 ++ (102 ∷ 255 ∷ 0 ∷ 0 ∷ []))
unfolding digits decimal field pair image_heading pixel numbers row_bytes down image seen range_of base_of nearest level_of level_at levels_in levels level_image
small_levels = (refl, refl)
