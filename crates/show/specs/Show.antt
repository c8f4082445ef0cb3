-- What the program shows: the image of a memory, page by page, and which rows of it.
use Rattle.std.specs.Prelude.{Bool, cond, List, [], ◌++◌, ℕ, zero, suc, ◌-◌, ◌*◌, ◌/◌, min, eqb}
use Rattle.report.specs.Image.{down}
use Rattle.report.specs.Levels.{drawn_places}

-- how many rows hold so many places, which may end inside a row
unfoldable pub rows_holding : ℕ → ℕ → ℕ
rows_holding line n = cond (eqb n 0) 0 (suc ((n - 1) / line))

-- the rows of an image in levels: all of them where PLACES is given, and else those up to the topmost that anything was drawn at
unfoldable pub rows_shown : Bool → ℕ → ℕ → List ℕ → List ℕ → ℕ
rows_shown given line rows im zm = cond given rows (rows_holding line (drawn_places im zm (rows * line)))

-- as many rows as a page of 131,072 bytes holds, of those that are left
unfoldable pub page_rows : ℕ → ℕ → ℕ
page_rows line below = min below (131072 / (2 * line))

-- the pages that are written for the rows under row `below`, one after the other: at most n
unfoldable pub pages : ℕ → ℕ → List ℕ → ℕ → ℕ → List ℕ
pages most line memory below zero = []
pages most line memory below (suc n) =
    down most line memory below (page_rows line below) ++ pages most line memory (below - page_rows line below) n
