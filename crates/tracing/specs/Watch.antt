-- Which words pass a pixel, or store one of a picture there, and what stands there before and after. The card itself says whether a word passes one: with
-- the window narrowed to that pixel nothing else is offered, and with the write enables off nothing is stored.
use Rattle.std.specs.Prelude.{ℕ, min, max, Bool, true, false, cond, not, ◌&&◌, List, [], length, ◌==◌, nat_lt}
use Rattle.stream.specs.Format.{unpack_of, word_at}
use Rattle.picture.specs.declared.Frame.{Frame}
use Rattle.picture.specs.Place.{rows_of}
use Rattle.picture.specs.Picture.{picture, drawn}
use Rattle.picture.specs.Store.{read_of}
use Rattle.registers.specs.declared.Registers.{Registers}
use Rattle.registers.specs.declared.Window.{Window}
use Rattle.registers.specs.declared.word.Word.{Word}
use Rattle.registers.specs.declared.word.Word.TheVariants.{Init, Aux, Parm, At, Img, Ptrn, Reserved, Unmodelled, Unknown}
use Rattle.registers.specs.declared.shape.Completed.{Completed}
use Rattle.registers.specs.Record.{window, with_window, with_modes, with_hcontrol}
use Rattle.registers.specs.Next.{coordinate_completes, pen_of}
use Rattle.registers.specs.Word.{word_of}
use Rattle.machine.specs.Machine.{Memories}
use Rattle.chip.specs.Chip.{figure_offers}
use Rattle.listing.specs.declared.trace.Numbers.{Numbers}
use Rattle.listing.specs.Trace.{watch_line}
use Rattle.tracing.specs.Trace.{Run, is_over, answer_to, traced_of, trace_from, start}

-- what of a window is at pixel (x, y): that pixel, or nothing
abbrev pub narrowed : ℕ → ℕ → Window → Window
narrowed x y w = window (max w.left x) (min w.top y) (min w.right x) (max w.bottom y)

-- the registers with that window, and both write enables off
abbrev pub aimed : ℕ → ℕ → Registers → Registers
aimed x y r = with_window (with_modes r (with_hcontrol r.modes 0)) (narrowed x y r.window)

-- how many pixels of a figure pass at (x, y)
unfoldable pub passes_at : ℕ → ℕ → Registers → Completed → List ℕ → List ℕ → ℕ
passes_at x y r f i z =
    (drawn (pen_of (aimed x y r)) (figure_offers (rows_of r.frame (length i) (length z)) (aimed x y r) f) (picture i z 0)).passed

-- PTRN's pixel is at (x, y), and inside the memory: it counts as one there, enabled or not, as passed pixels do
unfoldable pub loads_at : ℕ → ℕ → Registers → ℕ → ℕ → ℕ
loads_at x y r ni nz =
    cond (r.region.x == x && r.region.y == y && nat_lt x r.frame.line && nat_lt y (rows_of r.frame ni nz)) 1 0

-- how many pixels an accepted word has at (x, y)
unfoldable pub hits_of : ℕ → ℕ → Registers → Word → List ℕ → List ℕ → ℕ
hits_of x y r (Init d) i z = 0
hits_of x y r (Aux n) i z = 0
hits_of x y r (Parm v) i z = 0
hits_of x y r (At c n) i z = passes_at x y r (coordinate_completes r c n) i z
hits_of x y r (Img d) i z = 0
hits_of x y r (Ptrn v) i z = loads_at x y r (length i) (length z)
hits_of x y r Reserved i z = 0
hits_of x y r Unmodelled i z = 0
hits_of x y r Unknown i z = 0

-- the two numbers at (x, y); 0 outside the memory
abbrev pub numbers_at : Frame → ℕ → ℕ → List ℕ → List ℕ → Numbers
numbers_at frame x y i z = record { i = read_of frame false x y i z; z = read_of frame true x y i z }

-- the next word is accepted, and has a pixel at (x, y)
abbrev pub is_hit : ℕ → ℕ → List ℕ → Run → Bool
is_hit x y bytes a =
    ((answer_to bytes a).refusal == 0) && not (hits_of x y a.registers (word_of (word_at bytes a.index)) a.memories.i a.memories.z == 0)

-- its line, with the two numbers before and after it, by the line length that it finds; none for any other word
unfoldable pub hit_line : ℕ → ℕ → List ℕ → Run → List ℕ
hit_line x y bytes a =
    cond (is_hit x y bytes a)
    (watch_line (traced_of bytes a) (numbers_at a.registers.frame x y a.memories.i a.memories.z)
    (numbers_at a.registers.frame x y (answer_to bytes a).memories.i (answer_to bytes a).memories.z))
    []

-- the line of the next word, if it has a pixel at (x, y); none where nothing is left
unfoldable pub watch_at : ℕ → ℕ → List ℕ → Run → List ℕ
watch_at x y bytes a = cond (is_over bytes a.refusal a.index) [] (hit_line x y bytes a)

-- the words of a recording that have a pixel at (x, y)
unfoldable pub watch_of : ℕ → ℕ → List ℕ → Memories → List ℕ
watch_of x y bytes m = trace_from bytes (watch_at x y bytes) (length (unpack_of bytes)) (start m)
