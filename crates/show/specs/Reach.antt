-- How high figures reach: a vertex may lie above the rows that are in use, so that the picture misses something.
use Rattle.std.specs.Prelude.{ℕ, zero, suc, ◌+◌, max, Bool, cond, not, ◌&&◌, List, ltb, Option, None, Some}
use Rattle.picture.specs.Place.{rows_of}
use Rattle.stream.specs.Format.{word_at}
use Rattle.registers.specs.declared.word.Word.{Word}
use Rattle.registers.specs.declared.shape.Completed.{Completed}
use Rattle.registers.specs.declared.shape.Completed.TheVariants.{Nothing, Triangle, Segment}
use Rattle.registers.specs.Word.{word_of}
use Rattle.registers.specs.Record.{reset_of}
use Rattle.registers.specs.Next.{record_after, completed_by}
use Rattle.show.specs.declared.Above.{Above}
use Rattle.show.specs.declared.Came.{Came}

-- the rows up to a figure's topmost vertex; of no figure, 0
unfoldable pub height_of : Completed → ℕ
height_of Nothing = 0
height_of (Triangle a b c) = max (max a.y b.y) c.y + 1
height_of (Segment a b) = max a.y b.y + 1

-- the rows that its pixels may lie in: of a triangle, none in that of its topmost vertex
unfoldable pub reach_of : Completed → ℕ
reach_of Nothing = 0
reach_of (Triangle a b c) = max (max a.y b.y) c.y
reach_of (Segment a b) = max a.y b.y + 1

-- more rows than are in use, and the window's top border lies above these too
unfoldable pub is_missed : ℕ → ℕ → ℕ → Bool
is_missed rows reach top = ltb rows reach && not (ltb top rows)

-- so many rows a figure would have, and so many were in use
abbrev pub highest : ℕ → ℕ → Above
highest height rows = record { height = height; rows = rows }

-- the rows of the highest figure so far; of none, 0
abbrev pub risen : Option Above → ℕ
risen None = 0
risen (Some a) = a.height

-- a figure of which rows are missed, and that is higher than any before it, is the highest
unfoldable pub raised : Option Above → Bool → ℕ → ℕ → Option Above
raised a missed height rows = cond (missed && ltb (risen a) height) (Some (highest height rows)) a

-- the same of what a word completes, where so many rows are in use
abbrev pub raised_by : Came → Completed → ℕ → Option Above
raised_by s f rows = raised s.above (is_missed rows (reach_of f) s.registers.window.top) (height_of f) rows

-- one word more, over memories of so many places
unfoldable pub onward : ℕ → Came → Word → Came
onward places s w =
    record {
      registers = record_after s.registers w;
      above = raised_by s (completed_by s.registers w) (rows_of s.registers.frame places places);
    }

-- the first n words of a stream, from reset
unfoldable pub reached : ℕ → List ℕ → ℕ → Came
reached places bytes zero = record { registers = reset_of; above = None }
reached places bytes (suc n) = onward places (reached places bytes n) (word_of (word_at bytes n))
