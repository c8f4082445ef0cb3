-- Where the pixels of a word and of a run pass, or are stored besides, and what stands at a place.
use Rattle.std.specs.Prelude.{cond, List, [], ◌∷◌, ◌++◌, map, ℕ, eqb}
use Rattle.picture.specs.Picture.{picture}
use Rattle.picture.specs.Cell.{Cell, cell_at}
use Rattle.picture.specs.Passed.{passed_at}
use Rattle.picture.specs.Store.{site}
use Rattle.machine.specs.Run.{Ran, ran, advance}
use Rattle.machine.specs.Machine.{Machine, Memories, rows_in, number_of, step_of}

-- the two numbers at a place
abbrev pub cell_in : Memories → ℕ → Cell
cell_in m at = cell_at (picture m.i m.z 0) at

-- the places of the pixels that a word passes, in drawing order: none where it is refused
unfoldable pub passed_by : (M : Machine) → M.Registers → M.Word → Memories → List ℕ
passed_by M r w m = cond (eqb (number_of M r w m) 0) (passed_at (M.pen r) (M.offers (rows_in M r m) r w) (picture m.i m.z 0)) []

-- those of the pixels that it stores besides
unfoldable pub stored_by : (M : Machine) → M.Registers → M.Word → Memories → List ℕ
stored_by M r w m = cond (eqb (number_of M r w m) 0) (map (site (M.pen r)) (M.stores (rows_in M r m) r w)) []

-- all places that it may change
abbrev pub touched_by : (M : Machine) → M.Registers → M.Word → Memories → List ℕ
touched_by M r w m = passed_by M r w m ++ stored_by M r w m

-- the places that one word more touches, unless one was refused
unfoldable pub touched_next : (M : Machine) → Ran M.Registers Memories → M.Word → List ℕ
touched_next M a w = cond (eqb a.refusal 0) (touched_by M a.registers w a.memories) []

-- and those where its pixels pass
unfoldable pub passed_next : (M : Machine) → Ran M.Registers Memories → M.Word → List ℕ
passed_next M a w = cond (eqb a.refusal 0) (passed_by M a.registers w a.memories) []

-- the places that some words touch, from there on
unfoldable pub touched_from : (M : Machine) → Ran M.Registers Memories → List M.Word → List ℕ
touched_from M a [] = []
touched_from M a (w ∷ ws) = touched_next M a w ++ touched_from M (advance (step_of M) a w) ws

-- and those where their pixels pass
unfoldable pub passed_from : (M : Machine) → Ran M.Registers Memories → List M.Word → List ℕ
passed_from M a [] = []
passed_from M a (w ∷ ws) = passed_next M a w ++ passed_from M (advance (step_of M) a w) ws

-- the places where pixels pass of some words from a record
abbrev pub passed_of : (M : Machine) → M.Registers → List M.Word → Memories → List ℕ
passed_of M r ws m = passed_from M (ran 0 0 0 r m) ws

-- and those that they touch
abbrev pub touched_of : (M : Machine) → M.Registers → List M.Word → Memories → List ℕ
touched_of M r ws m = touched_from M (ran 0 0 0 r m) ws
