-- Words one after the other, refused ones among them, and what they offer. But for the run itself, all of it follows from the words and the
-- lengths of the two memories, and nobody looks at what the memories hold.
use Rattle.std.specs.Prelude.{Bool, true, cond, ◌&&◌, ℕ, eqb}
use mathlib.Core.List.{List, [], ◌∷◌, ◌++◌, foldl}
use Rattle.picture.specs.Place.{rows_of}
use Rattle.picture.specs.Offer.{Offer}
use Rattle.picture.specs.Cell.{Cell, offer_leaves, there}
use Rattle.picture.specs.Store.{Store, after_store, stores_at}
use Rattle.machine.specs.Run.{Step}
use Rattle.machine.specs.Machine.{Machine}

-- ---- a run that goes on

-- what stands between two words
pub record State (R M : Type 0) : Type 0 where
  pub registers : R
  pub memories : M

-- a state of registers and memories
abbrev pub state : {R M : Type 0} → R → M → State R M
state r m = record { registers = r; memories = m }

-- one word more, refused or not
abbrev pub onward : {W R M : Type 0} → Step W R M → State R M → W → State R M
onward step a w = state (step a.registers w a.memories).registers (step a.registers w a.memories).memories

-- all of some words: after a refused one the run goes on
abbrev pub all_of : {W R M : Type 0} → Step W R M → R → List W → M → State R M
all_of step r ws m = foldl (onward step) (state r m) ws

-- ---- a word, over memories of two lengths

-- the registers after it: as they were, where it is refused
unfoldable pub next_in : (M : Machine) → ℕ → ℕ → M.Registers → M.Word → M.Registers
next_in M ni nz r w = cond (eqb (M.refusal ni nz r w) 0) (M.next r w) r

-- the pixels that it offers: none, where it is refused
unfoldable pub offers_in : (M : Machine) → ℕ → ℕ → M.Registers → M.Word → List Offer
offers_in M ni nz r w = cond (eqb (M.refusal ni nz r w) 0) (M.offers (rows_of (M.pen r).frame ni nz) r w) []

-- those at a place, by the line length of its moment
abbrev pub offers_there : (M : Machine) → ℕ → ℕ → ℕ → M.Registers → M.Word → List Offer
offers_there M ni nz at r w = there (M.pen r).frame at (offers_in M ni nz r w)

-- what it stores besides, and at a place
unfoldable pub stores_in : (M : Machine) → ℕ → ℕ → M.Registers → M.Word → List Store
stores_in M ni nz r w = cond (eqb (M.refusal ni nz r w) 0) (M.stores (rows_of (M.pen r).frame ni nz) r w) []

-- those of the pixels that it stores whose place is this one
abbrev pub stores_there : (M : Machine) → ℕ → ℕ → ℕ → M.Registers → M.Word → List Store
stores_there M ni nz at r w = stores_at (M.pen r) at (stores_in M ni nz r w)

-- what a word leaves of the two numbers at a place
abbrev pub cell_by : (M : Machine) → ℕ → ℕ → ℕ → M.Registers → M.Word → Cell → Cell
cell_by M ni nz at r w c = foldl (after_store (M.pen r)) (foldl (offer_leaves (M.pen r)) c (offers_there M ni nz at r w)) (stores_there M ni nz at r w)

-- ---- some words

-- the registers after them
unfoldable pub registers_in : (M : Machine) → ℕ → ℕ → M.Registers → List M.Word → M.Registers
registers_in M ni nz r ws = foldl (next_in M ni nz) r ws

-- what they offer at a place, in drawing order
unfoldable pub offers_at : (M : Machine) → ℕ → ℕ → ℕ → M.Registers → List M.Word → List Offer
offers_at M ni nz at r [] = []
offers_at M ni nz at r (w ∷ ws) = offers_there M ni nz at r w ++ offers_at M ni nz at (next_in M ni nz r w) ws

-- the two numbers at a place after them, where c stood
unfoldable pub cell_after : (M : Machine) → ℕ → ℕ → ℕ → M.Registers → List M.Word → Cell → Cell
cell_after M ni nz at r [] c = c
cell_after M ni nz at r (w ∷ ws) c = cell_after M ni nz at (next_in M ni nz r w) ws (cell_by M ni nz at r w c)

-- those before the first that is refused
unfoldable pub taken_of : (M : Machine) → ℕ → ℕ → M.Registers → List M.Word → List M.Word
taken_of M ni nz r [] = []
taken_of M ni nz r (w ∷ ws) = cond (eqb (M.refusal ni nz r w) 0) (w ∷ taken_of M ni nz (M.next r w) ws) []

-- each that is accepted passes a test, with the registers that it finds
unfoldable pub each_in : (M : Machine) → (M.Registers → M.Word → Bool) → ℕ → ℕ → M.Registers → List M.Word → Bool
each_in M test ni nz r [] = true
each_in M test ni nz r (w ∷ ws) = cond (eqb (M.refusal ni nz r w) 0) (test r w) true && each_in M test ni nz (next_in M ni nz r w) ws
