-- A machine: what a word does follows from the registers and the word. What it draws is a list of offers, and what it stores besides a list of
-- pixels; neither looks at a memory.
use Rattle.std.specs.Prelude.{◌≡◌, cond, List, ℕ, eqb, length}
use Rattle.picture.specs.declared.Pen.{Pen}
use Rattle.picture.specs.Place.{rows_of}
use Rattle.picture.specs.Offer.{Offer}
use Rattle.picture.specs.Picture.{Picture, picture, drawn}
use Rattle.picture.specs.Store.{Store, filled}
use Rattle.machine.specs.Run.{Outcome, outcome, Step}

-- a machine has registers and words, and says of each word whether it is refused, what registers it leaves, and what it draws and stores
pub record Machine : Type 1 where
  pub Registers : Type 0
  pub Word : Type 0
  -- the lowest number that refuses a word, over memories of two lengths; 0 accepts it
  pub refusal : ℕ → ℕ → Registers → Word → ℕ
  -- the registers after an accepted word
  pub next : Registers → Word → Registers
  -- how it draws, and what it offers where so many rows are in use
  pub pen : Registers → Pen
  pub offers : ℕ → Registers → Word → List Offer
  -- and what it stores besides, unasked and uncounted
  pub stores : ℕ → Registers → Word → List Store

-- the two lent memories
pub record Memories : Type 0 where
  pub i : List ℕ
  pub z : List ℕ

-- two lists of numbers, as the memories I and Z
abbrev pub memories : List ℕ → List ℕ → Memories
memories i z = record { i = i; z = z }

-- both of one length
abbrev pub Even : ℕ → Memories → Type 0
Even n m = (length m.i ≡ n) × (length m.z ≡ n)

-- the rows in use under the registers' line length
abbrev pub rows_in : (M : Machine) → M.Registers → Memories → ℕ
rows_in M r m = rows_of (M.pen r).frame (length m.i) (length m.z)

-- what an accepted word draws
abbrev pub drawing : (M : Machine) → M.Registers → M.Word → Memories → Picture
drawing M r w m = filled (M.pen r) (M.stores (rows_in M r m) r w) (drawn (M.pen r) (M.offers (rows_in M r m) r w) (picture m.i m.z 0))

-- accepted: the next registers, what was drawn, and how many pixels passed
abbrev pub accepted : {R : Type 0} → R → Picture → Outcome R Memories
accepted r p = outcome 0 p.passed r (memories p.i p.z)

-- refused: the number and zero pixels; registers and memories as they were
abbrev pub refused : {R : Type 0} → ℕ → R → Memories → Outcome R Memories
refused number r m = outcome number 0 r m

-- the number that a word gets
abbrev pub number_of : (M : Machine) → M.Registers → M.Word → Memories → ℕ
number_of M r w m = M.refusal (length m.i) (length m.z) r w

-- what a word does
unfoldable pub step_of : (M : Machine) → Step M.Word M.Registers Memories
step_of M r w m = cond (eqb (number_of M r w m) 0) (accepted (M.next r w) (drawing M r w m)) (refused (number_of M r w m) r m)
