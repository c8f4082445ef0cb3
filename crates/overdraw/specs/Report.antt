-- The whole report of some recordings, and how far it has come.
use Rattle.std.specs.Prelude.{ℕ, suc, ◌+◌, ◌≤◌, ◌<◌, ◌≡◌, Bool, cond, Result, Ok, Err, List, [], ◌∷◌, ◌++◌, length}
use Rattle.report.specs.Calls.{Adds, Room, Stands}
use Rattle.report.specs.declared.page.Page.{Page}
use Rattle.tally.specs.Tally.{added, EachWithin}
use Rattle.tally.specs.Overdraw.{entry_of, tally_of, tallies_of}
use Rattle.overdraw.specs.declared.page.Reached.{Reached}
use Rattle.overdraw.specs.declared.Cut.{Cut}
use Rattle.overdraw.specs.Text.{name_of, total_name, heading, tally_lines, entry_lines}

-- the lines of some recordings, the first of which is the file with number k
unfoldable pub lines_from : ℕ → List (List ℕ) → List ℕ
lines_from k [] = []
lines_from k (bytes ∷ streams) = entry_lines (name_of k) (entry_of bytes) ++ lines_from (suc k) streams

-- the heading, and the lines of the recordings from 000 on
unfoldable pub part_of : List (List ℕ) → List ℕ
part_of streams = heading ++ lines_from 0 streams

-- the same and, as the last lines, the sums over all of them
unfoldable pub report_of : List (List ℕ) → List ℕ
report_of streams = part_of streams ++ tally_lines total_name (tallies_of streams)

-- ---- how far it has come

-- the report has come through some recordings, at most a thousand: their lines stand at the front of a page with room for a thousand, and the total
-- is theirs
pub record Come (old new : Page) (r : Reached) : Type 0 where
  pub streams : List (List ℕ)
  pub files : r.files ≡ length streams
  pub few : r.files ≤ 1000
  pub front : old.at ≡ 0
  pub long : 418474 ≤ length old.out.now
  pub text : Adds (part_of streams) old new
  pub total : r.total ≡ tallies_of streams

-- there is room for one more
pub record Ready (page : Page) (r : Reached) : Type 0 where
  pub few : r.files < 1000
  pub fits : Room 418 page
  pub small : EachWithin 3276000 r.total

-- one more: its lines stand behind those that stood, and it is added to the total
pub record More (r : Reached) (bytes : List ℕ) (old new : Page) (q : Reached) : Type 0 where
  pub files : q.files ≡ r.files + 1
  pub text : Adds (entry_lines (name_of r.files) (entry_of bytes)) old new
  pub total : q.total ≡ added r.total (tally_of bytes)

-- what is printed stands at the front of a buffer: the report of some recordings or, where a file cannot be read, its lines before that file and
-- no total
pub record Printed (old new : List ℕ) (n : ℕ) : Type 0 where
  pub streams : List (List ℕ)
  pub whole : Bool
  pub text : Stands (cond whole (report_of streams) (part_of streams)) old new n

-- what was gathered: a report that has come through some recordings or, where a file cannot be read, one that ends before its lines
abbrev pub Gathered : Page → Page → Result Reached Cut → Type 0
Gathered old new (Ok reached) = Come old new reached
Gathered old new (Err cut) = (r : Reached) × Come old new r
