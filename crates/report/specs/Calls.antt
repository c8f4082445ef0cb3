-- What writing a text tells and leaves, for every input (document 01, "Numbers that come back": 13).
use Rattle.std.specs.Prelude.{Result, Ok, Err, ℕ, ◌+◌, ◌≤◌, ◌≡◌, Bool, cond, List, length, take, leb}
use Rattle.std.proofs.lemmas.List.Edits.{sets}
use Rattle.stream.specs.Calls.{Outcome, concluded, no_room, over}
use Rattle.report.specs.Text.{report}
use Rattle.report.specs.declared.NoRoom.{NoRoom}
use Rattle.report.specs.declared.page.Page.{Page}

-- writing checks 13
unfoldable pub writing_text : List ℕ → List ℕ → Outcome
writing_text text out = concluded (no_room text out) text out

-- the text of a run
abbrev pub writing : ℕ → ℕ → ℕ → ℕ → List ℕ → List ℕ → List ℕ → Outcome
writing words refusal passed line im zm out = writing_text (report words refusal passed line im zm) out

-- the number, and the length, that each answer of the code stands for
abbrev pub written_number : Result ℕ NoRoom → ℕ
written_number (Ok n) = 0
written_number (Err _) = 13

-- an answer that is done tells the length of what was written, and one without room tells 0
abbrev pub written_size : Result ℕ NoRoom → ℕ
written_size (Ok n) = n
written_size (Err _) = 0

-- an answer, with what the call left
abbrev pub wrote : Result ℕ NoRoom → List ℕ → Outcome
wrote answer left = record { refusal = written_number answer; size = written_size answer; left = left }

-- ---- the parts of a text

-- a text's length, and a bound on it
pub record Sized (text : List ℕ) (most r : ℕ) : Type 0 where
  pub size : r ≡ length text
  pub small : r ≤ most

-- a text put at a place: it stands there, all else is untouched, and the place after it is told
pub record Put (text old : List ℕ) (at : ℕ) (new : List ℕ) (next : ℕ) : Type 0 where
  pub stands : new ≡ sets old at text
  pub ends : next ≡ at + length text

-- a text written to the front of a buffer: the places beyond are untouched, and its length is told
pub record Stands (text old new : List ℕ) (n : ℕ) : Type 0 where
  pub front : new ≡ over text old
  pub size : n ≡ length text
  pub counts : (n ≤ length new) × (n ≡ length (take n new))

-- ---- what laying a text at a place leaves

-- there is room for it
abbrev pub fits : List ℕ → List ℕ → ℕ → Bool
fits text old at = leb (at + length text) (length old)

-- with room enough it stands there, all else is untouched, and the place after it is told; without, all is untouched and the place told again
pub record Laid (text old : List ℕ) (at : ℕ) (new : List ℕ) (next : ℕ) : Type 0 where
  pub left : new ≡ cond (fits text old at) (sets old at text) old
  pub end : next ≡ cond (fits text old at) (at + length text) at

-- ---- the same of a page, whose buffer and place go together

-- so many bytes have room
abbrev pub Room : ℕ → Page → Type 0
Room size page = page.at + size ≤ length page.out.now

-- the next byte's place is on the page, or where it ends
abbrev pub OnPage : Page → Type 0
OnPage page = page.at ≤ length page.out.now

-- a text put where the page had come to; the page has its buffer still
pub record Adds (text : List ℕ) (old new : Page) : Type 0 where
  pub put : Put text old.out.now old.at new.out.now new.at
  pub same : new.out.ghost_name ≡ old.out.ghost_name

-- a text laid there
pub record Lays (text : List ℕ) (old new : Page) : Type 0 where
  pub laid : Laid text old.out.now old.at new.out.now new.at
  pub same : new.out.ghost_name ≡ old.out.ghost_name
