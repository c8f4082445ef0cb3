-- What document 01, with the requests that landed before [12], said of the limits: sentence by sentence, so it was on the former card.
use Rattle.std.specs.Prelude.{ℕ, ◌/◌, min, ◌≡◌, true, false, cond, not, ltb, eqb}
use mathlib.Core.List.{List, [], ◌∷◌, foldl}
use Rattle.picture.specs.Place.{plain_frame, rows_of}
use Rattle.registers.specs.declared.Registers.{Registers}
use Rattle.registers.specs.declared.word.Word.{Word}
use Rattle.registers.specs.declared.word.Word.TheVariants.{Init, Aux, Parm, At}
use Rattle.registers.specs.declared.word.Coordinate.{Coordinate}
use Rattle.registers.specs.declared.word.Coordinate.TheVariants.{Y, X}
use Rattle.registers.specs.declared.subcommand.Subcommand.TheVariants.{Window, Load, Save}
use Rattle.registers.specs.Record.{window, with_window, reset_of, init_of}
use Rattle.registers.specs.Next.{awaited, transferred_of, record_after}
use Rattle.refusals.specs.Allowed.{allowed}
use Rattle.refusals.specs.Refusal.{is_init}
use Rattle.former.specs.Former.{former_coordinate, former_border, former_rows, was_coordinate, was_border, was_number, was_word, was_unfit, was_barred, former_reset, was_rows, former, was_read_refused}

-- the number that the last of some words got from reset on, over memories of one length, where those before it were accepted
abbrev pub number_after : ℕ → List Word → Word → ℕ
number_after n ws w = former.refusal n n (foldl former.next former_reset ws) w

-- sentence by sentence, what document 01 said of the limits, said of the former card
pub record Document01 : Type 0 where
  -- the names of the limits stand for document 01's numbers
  pub limits : (former_coordinate ≡ 8191) × (former_border ≡ 8192) × (former_rows ≡ 8192)
  -- "Rows in use: the whole rows that fit the lent length, at most 8,192"
  pub rows : (line ni nz : ℕ) → was_rows (rows_of (plain_frame line) ni nz) ≡ cond (eqb line 0) 0 (min (min ni nz / line) former_rows)
  -- "INIT sets: .. window from 0 to 8192 both ways", and reset too; all else, and what any other word does, is today's
  pub reset : former_reset ≡ with_window reset_of (window 0 former_border former_border 0)
  pub init : (r : Registers) (d : ℕ) → former.next r (Init d) ≡ with_window (init_of r d) (window 0 former_border former_border 0)
  pub next : (r : Registers) (w : Word) → is_init w ≡ false → former.next r w ≡ record_after r w
  -- 9: "Y, X, T1X, T2X, LX and PX take 0 to 8191"
  pub coordinates : (r : Registers) (c : Coordinate) (n : ℕ) → was_barred r (At c n) ≡ not (was_number c n)
  -- "WINDOW: left, top, right, bottom, each at most 8192; then 0"
  pub borders : (r : Registers) (v : ℕ) → awaited r ≡ Window → was_barred r (Parm v) ≡ not (cond (ltb r.parked.came 4) (was_border v) (eqb v 0))
  -- IMG's corners are at most 8191, to memory and from memory ([1])
  pub loads : (r : Registers) (v : ℕ) → awaited r ≡ Load → was_barred r (Parm v) ≡ not (was_coordinate v)
  pub saves : (r : Registers) (v : ℕ) → awaited r ≡ Save → was_barred r (Parm v) ≡ not (was_coordinate v)
  -- any other value is allowed as it is today
  pub others : (r : Registers) (w : Word) → was_word r w ≡ true → was_barred r w ≡ not (allowed r w)
  -- 2: "no record that reset and words leave breaks" a bound, nor one that reads leave ([1])
  pub begun : (n : ℕ) → was_unfit n n former_reset ≡ false
  pub kept : (ni nz : ℕ) (r : Registers) (w : Word) → former.refusal ni nz r w ≡ 0 → was_unfit ni nz (former.next r w) ≡ false
  pub read_kept : (ni nz : ℕ) (r : Registers) → was_read_refused ni nz r ≡ 0 → was_unfit ni nz (transferred_of r) ≡ false
  -- "Y 8191 accepted, 8192 is 9; window 8192 accepted, 8193 is 9"; "X 9000 with no figure open: 9"
  pub cases : (n : ℕ)
      → (number_after n (Init 0 ∷ []) (At Y 8191) ≡ 0) × (number_after n (Init 0 ∷ []) (At Y 8192) ≡ 9)
      × (number_after n (Init 0 ∷ Aux 6 ∷ []) (Parm 8192) ≡ 0) × (number_after n (Init 0 ∷ Aux 6 ∷ []) (Parm 8193) ≡ 9)
      × (number_after n (Init 0 ∷ []) (At X 9000) ≡ 9)
