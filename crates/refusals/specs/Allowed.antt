-- What is allowed of a word's data, and which vertices fit the open figure (document 01, "Registers" and "Figures"; document 02, [1],
-- [7] and [12]; numbers 9 and 10).
use Rattle.std.specs.Prelude.{ℕ, ◌-◌, Bool, true, false, cond, not, ◌&&◌, leb, ltb, eqb}
use Rattle.std.specs.Int.Bits.{bit_and}
use Rattle.picture.specs.Limits.{largest_coordinate, largest_border}
use Rattle.registers.specs.declared.word.Word.{Word}
use Rattle.registers.specs.declared.word.Word.TheVariants.{Init, Aux, Parm, At, Img, Ptrn, Reserved, Unmodelled, Unknown}
use Rattle.registers.specs.declared.word.Coordinate.{Coordinate}
use Rattle.registers.specs.declared.word.Coordinate.TheVariants.{I, Z, Y, X, T1x, T2x, Lx, Px}
use Rattle.registers.specs.declared.subcommand.Subcommand.{Subcommand}
use Rattle.registers.specs.declared.subcommand.Subcommand.TheVariants.{Nothing, Pmode, Lmode, Zcontrol, Hcontrol, Tpattern, Window as Win, Section, Color, Lpattern, Mask, Lstatus, Imode, Load, Save}
use Rattle.registers.specs.declared.shape.Shape.{Shape}
use Rattle.registers.specs.declared.shape.Shape.TheVariants.{Closed, Strip, Fan, Line}
use Rattle.registers.specs.declared.Registers.{Registers}
use Rattle.registers.specs.Lines.{largest_page, code_in, chips_in, unit_in, page_in, line_of}
use Rattle.registers.specs.Record.{all_bits}
use Rattle.registers.specs.Figure.{shape_of}
use Rattle.registers.specs.Next.{awaited}

-- a coordinate is a number from 0 on up to the largest coordinate
abbrev pub is_coordinate : ℕ → Bool
is_coordinate n = leb n largest_coordinate

-- a border of the window is a number from 0 on up to the largest border
abbrev pub is_border : ℕ → Bool
is_border n = leb n largest_border

-- a word of 16 bits has only bits of a mask
abbrev pub only_bits : ℕ → ℕ → Bool
only_bits mask n = eqb (bit_and n (all_bits - mask)) 0

-- the bits that ZCONTROL may have
abbrev pub zcontrol_bits : ℕ
zcontrol_bits = 0x0060

-- the bits that HCONTROL may have
abbrev pub hcontrol_bits : ℕ
hcontrol_bits = 0x0D8E

-- the bits that LSTATUS may have
abbrev pub lstatus_bits : ℕ
lstatus_bits = 0x0030

-- those that IMG may have: bit 0 its direction, bit 2 not used
abbrev pub img_bits : ℕ
img_bits = 0x0005

-- INIT: chips and unit 0, page code at most the largest, the line code one that is listed
unfoldable pub init_allowed : ℕ → Bool
init_allowed d = eqb (chips_in d) 0 && eqb (unit_in d) 0 && leb (page_in d) largest_page && not (eqb (line_of (code_in d)) 0)

-- what is allowed of a subcommand's parameter before which k have come
abbrev pub parameter_allowed : Subcommand → ℕ → ℕ → Bool
parameter_allowed Nothing k v = true
parameter_allowed Pmode k v = leb v 1
parameter_allowed Lmode k v = leb v 2
parameter_allowed Zcontrol k v = only_bits zcontrol_bits v
parameter_allowed Hcontrol k v = only_bits hcontrol_bits v
parameter_allowed Tpattern k v = true
parameter_allowed Win k v = cond (ltb k 4) (is_border v) (eqb v 0)
parameter_allowed Section k v = true
parameter_allowed Color k v = true
parameter_allowed Lpattern k v = true
parameter_allowed Mask k v = true
parameter_allowed Lstatus k v = only_bits lstatus_bits v
parameter_allowed Imode k v = eqb v 0
parameter_allowed Load k v = is_coordinate v
parameter_allowed Save k v = is_coordinate v

-- I and Z are any numbers; Y, X, T1X, T2X, LX and PX take coordinates
abbrev pub coordinate_allowed : Coordinate → ℕ → Bool
coordinate_allowed I n = true
coordinate_allowed Z n = true
coordinate_allowed Y n = is_coordinate n
coordinate_allowed X n = is_coordinate n
coordinate_allowed T1x n = is_coordinate n
coordinate_allowed T2x n = is_coordinate n
coordinate_allowed Lx n = is_coordinate n
coordinate_allowed Px n = is_coordinate n

-- what is allowed of a word's data, by the registers as they are
abbrev pub allowed : Registers → Word → Bool
allowed r (Init d) = init_allowed d
allowed r (Aux n) = true
allowed r (Parm v) = parameter_allowed (awaited r) r.parked.came v
allowed r (At c n) = coordinate_allowed c n
allowed r (Img d) = only_bits img_bits d
allowed r (Ptrn v) = true
allowed r Reserved = true
allowed r Unmodelled = true
allowed r Unknown = true

-- X fits a strip, a fan, and a line in line mode 2
abbrev pub x_fits : Shape → ℕ → Bool
x_fits Closed lmode = false
x_fits Strip lmode = true
x_fits Fan lmode = true
x_fits Line lmode = eqb lmode 2

-- PX fits a line in line mode 0 or 1
abbrev pub px_fits : Shape → ℕ → Bool
px_fits Closed lmode = false
px_fits Strip lmode = false
px_fits Fan lmode = false
px_fits Line lmode = leb lmode 1

-- a coordinate fits the open figure; all but X and PX fit any
abbrev pub coordinate_fits : Coordinate → Shape → ℕ → Bool
coordinate_fits I shape lmode = true
coordinate_fits Z shape lmode = true
coordinate_fits Y shape lmode = true
coordinate_fits X shape lmode = x_fits shape lmode
coordinate_fits T1x shape lmode = true
coordinate_fits T2x shape lmode = true
coordinate_fits Lx shape lmode = true
coordinate_fits Px shape lmode = px_fits shape lmode

-- a word fits the open figure; all but coordinates fit any
abbrev pub fits : Registers → Word → Bool
fits r (Init d) = true
fits r (Aux n) = true
fits r (Parm v) = true
fits r (At c n) = coordinate_fits c (shape_of r.figure.shape) r.modes.lmode
fits r (Img d) = true
fits r (Ptrn v) = true
fits r Reserved = true
fits r Unmodelled = true
fits r Unknown = true
