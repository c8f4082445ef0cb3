-- What a viewer does with listed squares (request [14]): it copies them from the new picture. A square may overhang the picture; only
-- places of the picture are copied.
use Rattle.std.specs.Prelude.{ℕ, suc, ◌+◌, ◌/◌, ◌%◌, Bool, cond, ◌&&◌, ltb, leb}
use mathlib.Core.List.{List, [], ◌∷◌, foldl}
use Rattle.squares.specs.declared.size.Corner.{Corner}

-- v is one of the n numbers from a on
unfoldable pub is_among : ℕ → ℕ → ℕ → Bool
is_among n a v = leb a v && ltb v (a + n)

-- pixel (x, y) lies in the square of a side whose lower left corner is (a, b)
unfoldable pub covers : ℕ → ℕ → ℕ → ℕ → ℕ → Bool
covers side a b x y = is_among side a x && is_among side b y

-- pixel (x, y) lies in a listed square
abbrev pub holds : ℕ → ℕ → Corner → Bool
holds x y c = covers 8 c.x c.y x y

-- how many squares of a list hold pixel (x, y)
unfoldable pub holders : ℕ → ℕ → List Corner → ℕ
holders x y [] = 0
holders x y (c ∷ cs) = cond (holds x y c) 1 0 + holders x y cs

-- numbers from place `at` on, those of the new picture where a test of the place holds and the old ones elsewhere
unfoldable pub overlay : (ℕ → Bool) → List ℕ → ℕ → List ℕ → List ℕ
overlay test new at [] = []
overlay test [] at (a ∷ old) = a ∷ old
overlay test (b ∷ new) at (a ∷ old) = cond (test at) b a ∷ overlay test new (suc at) old

-- a square copied: place p holds pixel (p mod width, p div width)
unfoldable pub copy_square : ℕ → List ℕ → List ℕ → Corner → List ℕ
copy_square width new old c = overlay (λ p. holds (p % width) (p / width) c) new 0 old

-- listed squares copied, one after the other
abbrev pub copy_squares : ℕ → List ℕ → List ℕ → List Corner → List ℕ
copy_squares width new old cs = foldl (copy_square width new) old cs
