-- The card as it was before request [12]: today's, but that coordinates were at most 8191 and borders of the window at most 8192, that the
-- window from INIT on was 0 to 8192 both ways, and that at most 8192 rows were in use. Layouts, which came after it, it has as today's; from its reset on
-- rows lie one after the other.
use Rattle.std.specs.Prelude.{ℕ, min, Bool, true, cond, not, ◌&&◌, ◌||◌, leb, eqb, length, get_or}
use Rattle.picture.specs.declared.Vertex.{Vertex}
use Rattle.picture.specs.Place.{place_of, rows_of, in_memory}
use Rattle.registers.specs.declared.Window.{Window}
use Rattle.registers.specs.declared.Parked.{Parked}
use Rattle.registers.specs.declared.Region.{Region}
use Rattle.registers.specs.declared.Registers.{Registers}
use Rattle.registers.specs.declared.word.Word.{Word}
use Rattle.registers.specs.declared.word.Word.TheVariants.{Init, Aux, Parm, At, Img, Ptrn, Reserved, Unmodelled, Unknown}
use Rattle.registers.specs.declared.word.Coordinate.{Coordinate}
use Rattle.registers.specs.declared.word.Coordinate.TheVariants.{I, Z, Y, X, T1x, T2x, Lx, Px}
use Rattle.registers.specs.declared.subcommand.Subcommand.{Subcommand}
use Rattle.registers.specs.declared.subcommand.Subcommand.TheVariants.{Nothing, Pmode, Lmode, Zcontrol, Hcontrol, Tpattern, Window as Win, Section, Color, Lpattern, Mask, Lstatus, Imode, Load, Save}
use Rattle.registers.specs.Record.{window, with_window, reset_of}
use Rattle.registers.specs.Subcommand.{subcommand_of}
use Rattle.registers.specs.Next.{awaited, is_deep_picture, transferred_of, record_after, completed_by, pen_of}
use Rattle.refusals.specs.Allowed.{allowed}
use Rattle.refusals.specs.Bounds.{each_came}
use Rattle.refusals.specs.Refusal.{is_init, table_of, lowest, is_unfit, read_table}
use Rattle.machine.specs.Machine.{Machine, Memories}
use Rattle.chip.specs.Chip.{figure_offers, word_stores}
use Rattle.chip.specs.Read.{ReadOutcome, read_as}

-- ---- the limits that there were

-- the largest coordinate, of a vertex and of a corner of a picture's region
abbrev pub former_coordinate : ℕ
former_coordinate = 8191

-- the largest border of a window
abbrev pub former_border : ℕ
former_border = 8192

-- the rows in use, at most
abbrev pub former_rows : ℕ
former_rows = 8192

-- ---- what lay within them

-- a number was a coordinate: it was at most 8191
abbrev pub was_coordinate : ℕ → Bool
was_coordinate n = leb n former_coordinate

-- a number was a border of the window: it was at most 8192
abbrev pub was_border : ℕ → Bool
was_border n = leb n former_border

-- a parameter of a subcommand: WINDOW has borders, IMG coordinates
abbrev pub was_value : Subcommand → ℕ → Bool
was_value Nothing v = true
was_value Pmode v = true
was_value Lmode v = true
was_value Zcontrol v = true
was_value Hcontrol v = true
was_value Tpattern v = true
was_value Win v = was_border v
was_value Section v = true
was_value Color v = true
was_value Lpattern v = true
was_value Mask v = true
was_value Lstatus v = true
was_value Imode v = true
was_value Load v = was_coordinate v
was_value Save v = was_coordinate v

-- the number of Y, X, T1X, T2X, LX and PX; I and Z take any
abbrev pub was_number : Coordinate → ℕ → Bool
was_number I n = true
was_number Z n = true
was_number Y n = was_coordinate n
was_number X n = was_coordinate n
was_number T1x n = was_coordinate n
was_number T2x n = was_coordinate n
was_number Lx n = was_coordinate n
was_number Px n = was_coordinate n

-- a word
abbrev pub was_word : Registers → Word → Bool
was_word r (Init d) = true
was_word r (Aux n) = true
was_word r (Parm v) = was_value (awaited r) v
was_word r (At c n) = was_number c n
was_word r (Img d) = true
was_word r (Ptrn v) = true
was_word r Reserved = true
was_word r Unmodelled = true
was_word r Unknown = true

-- a window, each number of which was a border
unfoldable pub was_window : Window → Bool
was_window w = was_border w.left && was_border w.top && was_border w.right && was_border w.bottom

-- a vertex, both of whose numbers x and y were coordinates
unfoldable pub was_vertex : Vertex → Bool
was_vertex v = was_coordinate v.x && was_coordinate v.y

-- the values that have come, each within them by the subcommand that is awaited
abbrev pub was_parked : Parked → Bool
was_parked p = each_came (λ k v. was_value (subcommand_of p.subcommand) v) p.values p.came

-- a region, whose five numbers beside its way were coordinates
unfoldable pub was_region : Region → Bool
was_region g = was_coordinate g.x0 && was_coordinate g.x1 && was_coordinate g.y1 && was_coordinate g.x && was_coordinate g.y

-- a record, part by part: the window, the Y register, both vertices, the values that have come, the region
unfoldable pub was_record : Registers → Bool
was_record r =
    was_window r.window
    && was_coordinate r.latch.y
    && was_vertex r.figure.first
    && was_vertex r.figure.second
    && was_parked r.parked
    && was_region r.region

-- ---- the machine

-- number 2 refused also a record that does not lie within the former limits
abbrev pub was_unfit : ℕ → ℕ → Registers → Bool
was_unfit ni nz r = is_unfit ni nz r || not (was_record r)

-- number 9 refused also a word that does not lie within them
abbrev pub was_barred : Registers → Word → Bool
was_barred r w = not (allowed r w) || not (was_word r w)

-- the lowest number that applied, by today's table
unfoldable pub was_refused : ℕ → ℕ → Registers → Word → ℕ
was_refused ni nz r w = lowest 1 (table_of (was_unfit ni nz r) (was_barred r w) r w)

-- the window from INIT on, and from reset on
abbrev pub former_window : Window
former_window = window 0 former_border former_border 0

-- the record after reset
abbrev pub former_reset : Registers
former_reset = with_window reset_of former_window

-- the record after an accepted word: today's, but for that window
unfoldable pub was_after : Registers → Word → Registers
was_after r w = cond (is_init w) (with_window (record_after r w) former_window) (record_after r w)

-- the rows that were in use of those that are
abbrev pub was_rows : ℕ → ℕ
was_rows rows = min rows former_rows

-- the former card as a machine: today's, but for what it refused, the window from INIT on, and the rows that were in use
abbrev pub former : Machine
former =
    record {
      Registers = Registers;
      Word = Word;
      refusal = was_refused;
      next = was_after;
      pen = pen_of;
      offers = λ rows r w. figure_offers (was_rows rows) r (completed_by r w);
      stores = λ rows r w. word_stores (was_rows rows) r w;
    }

-- ---- the read call

-- the lowest number that applied, by today's rows
unfoldable pub was_read_refused : ℕ → ℕ → Registers → ℕ
was_read_refused ni nz r = lowest 2 (read_table (was_unfit ni nz r) r)

-- the number at the region's pixel: 0 outside the rows that were in use
unfoldable pub was_pixel : Registers → Memories → ℕ
was_pixel r m =
    cond (in_memory r.frame (was_rows (rows_of r.frame (length m.i) (length m.z))) r.region.x r.region.y)
    (get_or (cond (is_deep_picture r) m.z m.i) (place_of r.frame r.region.x r.region.y) 0) 0

-- the number that the read call got
abbrev pub was_read_number : Registers → Memories → ℕ
was_read_number r m = was_read_refused (length m.i) (length m.z) r

-- its answer: accepted or refused, as today's is
unfoldable pub was_reading : Registers → Memories → ReadOutcome
was_reading r m = cond (eqb (was_read_number r m) 0) (read_as 0 (was_pixel r m) (transferred_of r)) (read_as (was_read_number r m) 0 r)
