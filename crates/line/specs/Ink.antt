-- What a step is drawn with, by the line mode.
use Rattle.std.specs.Prelude.{ℕ, Bool, true, false, cond}
use Rattle.line.specs.declared.Mode.{Mode}
use Rattle.line.specs.declared.Mode.TheVariants.{Zero, One, Two}
use Rattle.line.specs.declared.Style.{Style}
use Rattle.line.specs.declared.pattern.Ink.{Ink}

-- ink that says whether a step is drawn, and with which two numbers
abbrev pub ink : Bool → ℕ → ℕ → Ink
ink drawn i z = record { drawn = drawn; i = i; z = z }

-- a step is drawn whose pattern bit is clear
abbrev pub has_ground : Mode → Bool
has_ground Zero = true
has_ground One = false
has_ground Two = true

-- a colour by the pattern bit, which says in mode 1 whether there is one; in mode 2 the step's two numbers
abbrev pub ink_of : Style → Mode → Bool → ℕ → ℕ → Ink
ink_of style Zero set i z = ink true (cond set style.foreground style.background) 0
ink_of style One set i z = ink set (cond set style.foreground style.background) 0
ink_of style Two set i z = ink true i z

-- a segment leaves out its first point
abbrev pub joined_in : Style → Mode → Bool
joined_in style Zero = style.joined
joined_in style One = style.joined
joined_in style Two = false
