-- What a word means beside the registers that it finds: a row of listing's `meanings`, and which of how many parameters it is.
use Rattle.std.specs.Prelude.{ℕ, ◌+◌, min, cond}
use Rattle.line.specs.declared.Mode.{Mode}
use Rattle.line.specs.declared.Mode.TheVariants.{Zero, One, Two}
use Rattle.line.specs.Segment.{mode_of}
use Rattle.registers.specs.declared.Registers.{Registers}
use Rattle.registers.specs.declared.word.Word.{Word}
use Rattle.registers.specs.declared.word.Word.TheVariants.{Init, Aux, Parm, At, Img, Ptrn, Reserved, Unmodelled, Unknown}
use Rattle.registers.specs.declared.word.Coordinate.{Coordinate}
use Rattle.registers.specs.declared.word.Coordinate.TheVariants.{I, Z, Y, X, T1x, T2x, Lx, Px}
use Rattle.registers.specs.declared.shape.Completed.{Completed}
use Rattle.registers.specs.declared.shape.Completed.TheVariants.{Nothing, Triangle, Segment}
use Rattle.registers.specs.Subcommand.{subcommand_of, wants}
use Rattle.registers.specs.Next.{img_number, is_deep_picture, coordinate_completes}
use Rattle.chip.specs.Chip.{is_constant}
use Rattle.listing.specs.declared.trace.Meaning.{Meaning}

-- a row without parameters
abbrev pub plainly : ℕ → Meaning
plainly row = record { row = row; came = 0; wanted = 0 }

-- a subcommand by its number, which is its row too, and of its parameters the one at a place, from 1 on; 0 before the first
abbrev pub subject : ℕ → ℕ → Meaning
subject number place = record { row = number; came = place; wanted = wants (subcommand_of number) }

-- a line's kind: line0, line1, line2
abbrev pub line_row : Mode → ℕ
line_row Zero = 18
line_row One = 19
line_row Two = 20

-- a vertex by what it completes: nothing, a triangle (gouraud, constant) or a segment
unfoldable pub completed_meaning : Registers → Completed → Meaning
completed_meaning r Nothing = plainly 13
completed_meaning r (Triangle a b c) = plainly (cond (is_constant r) 17 16)
completed_meaning r (Segment a b) = plainly (line_row (mode_of r.modes.lmode))

-- intensity, depth and row of the vertices to come; strip, fan and line that are opened; and what a vertex completes
unfoldable pub coordinate_meaning : Registers → Coordinate → ℕ → Meaning
coordinate_meaning r I n = plainly 25
coordinate_meaning r Z n = plainly 26
coordinate_meaning r Y n = plainly 27
coordinate_meaning r X n = completed_meaning r (coordinate_completes r X n)
coordinate_meaning r T1x n = plainly 21
coordinate_meaning r T2x n = plainly 22
coordinate_meaning r Lx n = plainly 23
coordinate_meaning r Px n = completed_meaning r (coordinate_completes r Px n)

-- INIT is a start; AUX names a subcommand, and above 12 nothing; a parameter is the next one of what is awaited; IMG loads or saves; PTRN is a
-- pixel of I or of Z
unfoldable pub meaning_of : Registers → Word → Meaning
meaning_of r (Init d) = plainly 24
meaning_of r (Aux n) = subject (min n 13) 0
meaning_of r (Parm v) = subject r.parked.subcommand (r.parked.came + 1)
meaning_of r (At c n) = coordinate_meaning r c n
meaning_of r (Img d) = subject (img_number d) 0
meaning_of r (Ptrn v) = plainly (cond (is_deep_picture r) 29 28)
meaning_of r Reserved = plainly 30
meaning_of r Unmodelled = plainly 11
meaning_of r Unknown = plainly 31
