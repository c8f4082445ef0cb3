-- Chains of tests, all of which have to hold. Assumes nothing.
use mathlib.Core.Path.{◌≡◌}
use mathlib.Core.Bool.{Bool, true, ◌&&◌}
use mathlib.Core.List.{List, [], ◌∷◌}
use Rattle.ground.proofs.Truth.{both, and_both}

-- tests one behind the other, all of which have to hold
abbrev pub chain : Bool → List Bool → Bool
chain a [] = a
chain a (b ∷ bs) = chain (a && b) bs

-- each of them holds
abbrev pub All : List Bool → Type 0
All [] = Unit {0}
All (b ∷ bs) = (b ≡ true) × All bs

-- a chain that holds has each of its tests
pub chain_all : (a : Bool) (bs : List Bool) → chain a bs ≡ true → All (a ∷ bs)
chain_all a [] e = (e, tt)
chain_all a (b ∷ bs) e = let q = chain_all (a && b) bs e in let p = both a b q.0 in (p.0, (p.1, q.1))

-- where each test holds the chain does
pub all_chain : (a : Bool) (bs : List Bool) → All (a ∷ bs) → chain a bs ≡ true
all_chain a [] h = h.0
all_chain a (b ∷ bs) h = all_chain (a && b) bs (and_both h.0 h.1.0, h.1.1)
