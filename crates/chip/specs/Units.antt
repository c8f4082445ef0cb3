-- What the chip promises to boards of one, two or four units that interleave columns (document 02, [8]): a chip in any layout does with a word what one
-- over rows does, at the pixels whose columns it has. So the units of a board, each with its own layout and memories and given the same words, are
-- together the one chip.
use Rattle.std.specs.Prelude.{◌≡◌, ℕ, ◌+◌, ◌%◌, ◌^◌, ◌<◌, ◌≤◌, false, cond, ◌⊎◌, [], ◌==◌}
use mathlib.Core.List.{Memᴰ}
use Rattle.picture.specs.Place.{frame_of, plain_frame, layout_of, rows_of}
use Rattle.picture.specs.Offer.{Offer}
use Rattle.registers.specs.declared.Registers.{Registers}
use Rattle.registers.specs.declared.word.Word.{Word}
use Rattle.registers.specs.Lines.{line_unit}
use Rattle.registers.specs.Record.{laid}
use Rattle.refusals.specs.Bounds.{largest_layout}
use Rattle.registers.specs.Next.{record_after}
use Rattle.refusals.specs.Refusal.{is_init, is_ptrn, refusal_of}
use Rattle.machine.specs.Run.{Outcome}
use Rattle.machine.specs.Machine.{Memories, Even, step_of}
use Rattle.machine.specs.Shares.{held_by, stores_held_by, sum_of, ReadTogether}
use Rattle.chip.specs.Chip.{chip}

-- ---- units

-- a board has one, two or four units
abbrev pub Ways : ℕ → Type 0
Ways ways = (ways ≡ 1) ⊎ ((ways ≡ 2) ⊎ (ways ≡ 4))

-- the layout of a unit of so many: one alone has rows
abbrev pub unit_layout : ℕ → ℕ → ℕ
unit_layout ways unit = cond (ways == 1) 0 (ways + unit)

-- what a word does to unit u of so many: its record is the given one in its layout, its memories are its own
abbrev pub unit_step : ℕ → Registers → Word → (ℕ → Memories) → ℕ → Outcome Registers Memories
unit_step ways r w b u = step_of chip (laid (unit_layout ways u) r) w (b u)

-- and to the one chip, over rows
abbrev pub one_step : Registers → Word → Memories → Outcome Registers Memories
one_step r w m = step_of chip (laid 0 r) w m

-- with units' memories of n places each and the one chip's of n', as many rows are in use
abbrev pub SameRows : ℕ → ℕ → ℕ → Registers → Type 0
SameRows ways n n' r = rows_of (frame_of r.frame.line (unit_layout ways 0)) n n ≡ rows_of (plain_frame r.frame.line) n' n'

-- a word given to units and to the one chip: what comes of it
pub record Together (ways n n' : ℕ) (r : Registers) (w : Word) (b : ℕ → Memories) (m : Memories) : Type 0 where
  -- each unit gets the one chip's number, and goes on to its registers but for the layout
  pub refusal : (u : ℕ) → u < ways → (unit_step ways r w b u).refusal ≡ (one_step r w m).refusal
  pub registers : (u : ℕ) → u < ways → (unit_step ways r w b u).registers ≡ laid (unit_layout ways u) (one_step r w m).registers
  -- their counts sum to its count
  pub passed : sum_of ways (λ u. (unit_step ways r w b u).passed) ≡ (one_step r w m).passed
  -- the memories keep their lengths, and read together they are the one chip's
  pub even : (u : ℕ) → u < ways → Even n (unit_step ways r w b u).memories
  pub even' : Even n' (one_step r w m).memories
  pub together : ReadTogether ways n n' (λ u. (unit_step ways r w b u).memories) (one_step r w m).memories

-- ---- the promises

-- what the chip promises to the units of a board
pub record Units : Type 0 where
  -- a word gets the same number in every layout
  pub number : (k ni nz : ℕ) (r : Registers) (w : Word) → k ≤ largest_layout → refusal_of ni nz (laid k r) w ≡ refusal_of ni nz (laid 0 r) w
  -- and over memories of whichever length, if both have one
  pub lengths : (n n' : ℕ) (r : Registers) (w : Word) → refusal_of n n r w ≡ refusal_of n' n' r w
  -- it leaves the same record, but for the layout
  pub next : (k : ℕ) (r : Registers) (w : Word) → record_after (laid k r) w ≡ laid k (record_after (laid 0 r) w)
  -- where as many rows are in use it offers what it offers over rows, of the columns that the layout has
  pub offers : (k rows : ℕ) (r : Registers) (w : Word)
      → chip.offers rows (laid k r) w ≡ held_by (layout_of (frame_of r.frame.line k)) (chip.offers rows (laid 0 r) w)
  -- and so it stores
  pub stores : (k rows : ℕ) (r : Registers) (w : Word)
      → chip.stores rows (laid k r) w ≡ stores_held_by (layout_of (frame_of r.frame.line k)) (chip.stores rows (laid 0 r) w)
  -- only PTRN stores
  pub dry : (rows : ℕ) (r : Registers) (w : Word) → is_ptrn w ≡ false → chip.stores rows r w ≡ []
  -- what is offered lies in the line, and in the rows
  pub inside : (rows : ℕ) (r : Registers) (w : Word) (o : Offer) → Memᴰ o (chip.offers rows r w) → (o.x < r.frame.line) × (o.y < rows)
  -- an accepted word finds a line length that is a multiple of 64, so that one, two or four units have as much of it each
  pub whole : (ni nz : ℕ) (r : Registers) (w : Word) → refusal_of ni nz r w ≡ 0 → r.frame.line % line_unit ≡ 0
  -- a word's count is small, so that those of four units add up in 64 bits
  pub count : (r : Registers) (w : Word) (m : Memories) → (step_of chip r w m).passed < 2 ^ 32
  -- so the units of a board, whose memories have one length each side and read together are the one chip's, stay that with every word, if as many rows are
  -- in use on both sides; INIT asks for no row
  pub word : (ways n n' : ℕ) → Ways ways → (r : Registers) (w : Word) (b : ℕ → Memories) (m : Memories) → ((u : ℕ) → u < ways → Even n (b u)) → Even n' m
      → (is_init w ≡ false → SameRows ways n n' r) → ReadTogether ways n n' b m → Together ways n n' r w b m
