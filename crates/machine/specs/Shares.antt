-- A picture that several pairs of memories hold together, each with its columns (document 02, [8]).
use Rattle.std.specs.Prelude.{◌≡◌, cond, List, [], ◌∷◌, ℕ, zero, suc, ◌+◌, ◌/◌, ◌%◌, ◌<◌}
use Rattle.picture.specs.Place.{Layout, mine}
use Rattle.picture.specs.Offer.{Offer}
use Rattle.picture.specs.Store.{Store}
use Rattle.machine.specs.Machine.{Memories}
use Rattle.machine.specs.Touched.{cell_in}

-- those of some offers whose columns a layout has
unfoldable pub held_by : Layout → List Offer → List Offer
held_by k [] = []
held_by k (o ∷ os) = cond (mine k o.x) (o ∷ held_by k os) (held_by k os)

-- and those of some stores
unfoldable pub stores_held_by : Layout → List Store → List Store
stores_held_by k [] = []
stores_held_by k (s ∷ ss) = cond (mine k s.x) (s ∷ stores_held_by k ss) (stores_held_by k ss)

-- f 0 + .. + f (n - 1)
unfoldable pub sum_of : ℕ → (ℕ → ℕ) → ℕ
sum_of zero f = 0
sum_of (suc n) f = sum_of n f + f n

-- the memories of so many units, read together, are those of one: its place p is place p div N of unit p mod N, as far as both reach, n and n' places.
-- Whatever the line length is, that is so
abbrev pub ReadTogether : ℕ → ℕ → ℕ → (ℕ → Memories) → Memories → Type 0
ReadTogether ways n n' b m = (p : ℕ) → p / ways < n → p < n' → cell_in (b (p % ways)) (p / ways) ≡ cell_in m p
