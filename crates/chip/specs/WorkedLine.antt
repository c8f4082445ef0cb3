-- A worked line, over 1,024 places: three segments of unlike modes, the last of which ends it.
use Rattle.std.specs.Prelude.{◌≡◌, ℕ, true, List, [], ◌∷◌, map}
use Rattle.picture.specs.declared.Kind.TheVariants.{Line0, Line1}
use Rattle.picture.specs.Offer.{offer}
use Rattle.registers.specs.declared.Registers.{Registers}
use Rattle.registers.specs.declared.word.Word.TheVariants.{At}
use Rattle.registers.specs.declared.word.Coordinate.TheVariants.{Lx}
use Rattle.registers.specs.Record.{reset_of, no_figure}
use Rattle.registers.specs.Next.{record_after}
use Rattle.registers.specs.Word.{word_of}
use Rattle.machine.specs.Offers.{registers_in, each_in}
use Rattle.chip.specs.Chip.{chip}
use Rattle.chip.specs.Dashes.{offers_along, is_dashing}

-- INIT to a line length of 256, foreground 3 and background 4, every other bit of the pattern
abbrev pub set_up : List ℕ
set_up = 0xF0000 ∷ 0xE0008 ∷ 0xD0003 ∷ 0xD0004 ∷ 0xE0009 ∷ 0xDAAAA ∷ 0xDAAAA ∷ []

-- from (0, 0) in mode 1 to (3, 0); in mode 0 to (3, 2); and with END 1, in mode 1 again, to (1, 2)
abbrev pub bent_line : List ℕ
bent_line = 0xB0003 ∷ 0xE0001 ∷ 0xD0000 ∷ 0x30002 ∷ 0xB0003 ∷ 0xE0001 ∷ 0xD0001 ∷ 0xE000C ∷ 0xD0010 ∷ 0xB0001 ∷ []

-- the registers after LX at (0, 0)
unfoldable pub begun : Registers
begun = record_after (registers_in chip 1024 1024 reset_of (map word_of set_up)) (At Lx 0)

-- its steps 0 to 7 have the bits 1 0 1 0, then 1 0, then 1 0: mode 1 offers foreground at set bits, mode 0 background at clear ones as well
pub record WorkedLine : Type 0 where
  pub dashed : each_in chip is_dashing 1024 1024 begun (map word_of bent_line) ≡ true
  pub offers : offers_along 1024 1024 begun (map word_of bent_line)
      ≡ offer Line1 0 0 3 0 ∷ offer Line1 2 0 3 0 ∷ offer Line0 3 1 3 0 ∷ offer Line0 3 2 4 0 ∷ offer Line1 2 2 3 0 ∷ []
  pub closed : (registers_in chip 1024 1024 begun (map word_of bent_line)).figure ≡ no_figure
