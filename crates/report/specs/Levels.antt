-- The levels of a picture: the numbers of a memory in 8 bits, to be looked at, from the least number that is shown to the greatest.
use Rattle.std.specs.Prelude.{ℕ, zero, suc, ◌+◌, ◌-◌, ◌*◌, ◌/◌, min, max, Bool, cond, ◌&&◌, List, [], ◌∷◌, ◌++◌, get_or, eqb}
use Rattle.report.specs.declared.scale.Range.{Range}
use Rattle.report.specs.Image.{image}

-- a place is as at the start, I 0 and Z 65535: nothing was drawn there
abbrev pub is_fresh : ℕ → ℕ → Bool
is_fresh i z = eqb i 0 && eqb z 65535

-- the number of a place that is shown: its Z, or its I
abbrev pub chosen : Bool → ℕ → ℕ → ℕ
chosen depth i z = cond depth z i

-- ---- the range

-- a range, by its least number and its greatest
abbrev pub between : ℕ → ℕ → Range
between low high = record { low = low; high = high }

-- a range with one number more
abbrev pub widened : Range → ℕ → Range
widened r n = between (min r.low n) (max r.high n)

-- and with one place more. Of Z, a place that nothing was drawn at is left out; I shows it too, as dark as it is
unfoldable pub seen : Bool → Range → ℕ → ℕ → Range
seen depth r i z = cond (depth && is_fresh i z) r (widened r (chosen depth i z))

-- from the least number of the first n places to the greatest; of no number, from 65535 to 0
unfoldable pub range_of : Bool → List ℕ → List ℕ → ℕ → Range
range_of depth im zm zero = between 65535 0
range_of depth im zm (suc n) = seen depth (range_of depth im zm n) (get_or im n 0) (get_or zm n 0)

-- ---- levels

-- the number that shows as 0: the least, or 0 if all are alike
unfoldable pub base_of : Range → ℕ
base_of r = cond (eqb r.low r.high) 0 r.low

-- 255 parts of a share of a span, to the nearest; of no span, 0
unfoldable pub nearest : ℕ → ℕ → ℕ
nearest share span = (share * 255 + span / 2) / span

-- the level of a number, by its share of the range
unfoldable pub level_of : Range → ℕ → ℕ
level_of r n = nearest (min n r.high - base_of r) (r.high - base_of r)

-- the level of a place: black, where nothing was drawn
unfoldable pub level_at : Bool → Range → ℕ → ℕ → ℕ
level_at depth r i z = cond (is_fresh i z) 0 (level_of r (chosen depth i z))

-- those of the first n places, in a range
unfoldable pub levels_in : Bool → Range → List ℕ → List ℕ → ℕ → List ℕ
levels_in depth r im zm zero = []
levels_in depth r im zm (suc n) = levels_in depth r im zm n ++ (level_at depth r (get_or im n 0) (get_or zm n 0) ∷ [])

-- and in their own
unfoldable pub levels : Bool → List ℕ → List ℕ → ℕ → List ℕ
levels depth im zm n = levels_in depth (range_of depth im zm n) im zm n

-- the image of the lowest rows, in levels
unfoldable pub level_image : Bool → ℕ → ℕ → List ℕ → List ℕ → List ℕ
level_image depth line rows im zm = image 255 line rows (levels depth im zm (rows * line))

-- ---- rows that nothing was drawn at

-- how many of the first n places there are up to the last that anything was drawn at
unfoldable pub drawn_places : List ℕ → List ℕ → ℕ → ℕ
drawn_places im zm zero = 0
drawn_places im zm (suc n) = cond (is_fresh (get_or im n 0) (get_or zm n 0)) (drawn_places im zm n) (suc n)
