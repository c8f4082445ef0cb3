-- Parts of the register record, the record with one part replaced, and what INIT and reset set (document 01, "Registers";
-- document 02, [1], [2], [7] and [12]).
use Rattle.std.specs.Prelude.{ℕ, Bool, not, [], ◌∷◌, eqb}
use Rattle.std.specs.Int.Bits.{bit_and}
use Rattle.picture.specs.declared.Frame.{Frame}
use Rattle.picture.specs.declared.Vertex.{Vertex}
use Rattle.picture.specs.Limits.{largest_border}
use Rattle.picture.specs.Place.{frame_of}
use Rattle.registers.specs.declared.Modes.{Modes}
use Rattle.registers.specs.declared.Window.{Window}
use Rattle.registers.specs.declared.Dash.{Dash}
use Rattle.registers.specs.declared.Latch.{Latch}
use Rattle.registers.specs.declared.Figure.{Figure}
use Rattle.registers.specs.declared.Parked.{Parked}
use Rattle.registers.specs.declared.Region.{Region}
use Rattle.registers.specs.declared.Registers.{Registers}
use Rattle.registers.specs.Lines.{shortest_line, code_in, line_of}

-- ---- bits of the words that are kept as sent

-- a bit of a word, told by its mask, is 1
abbrev pub is_on : ℕ → ℕ → Bool
is_on mask word = not (eqb (bit_and word mask) 0)

-- all bits of a word of sixteen
abbrev pub all_bits : ℕ
all_bits = 65535

-- ZCONTROL bit 6 turns the depth test on
abbrev pub depth_bit : ℕ
depth_bit = 64

-- ZCONTROL bit 5 turns sectioning on, of the constant kind
abbrev pub section_bit : ℕ
section_bit = 32

-- HCONTROL bit 2 is the I enable
abbrev pub i_bit : ℕ
i_bit = 4

-- HCONTROL bit 1 is the Z enable
abbrev pub z_bit : ℕ
z_bit = 2

-- with HCONTROL bit 3 pictures go to and from Z, and not I (request [1])
abbrev pub picture_bit : ℕ
picture_bit = 8

-- LSTATUS bit 5 is INV: a line's segments are not visible
abbrev pub inv_bit : ℕ
inv_bit = 32

-- LSTATUS bit 4 is END: a line closes after its next segment
abbrev pub end_bit : ℕ
end_bit = 16

-- ---- parts

-- no vertex is kept
abbrev pub no_vertex : Vertex
no_vertex = record { x = 0; y = 0; i = 0; z = 0 }

-- the number that stands in place of an AUX number where nothing is awaited
abbrev pub no_number : ℕ
no_number = 13

-- the number that stands there where IMG's parameters are awaited for a region to memory; one more stands for a region from memory
abbrev pub load_number : ℕ
load_number = 14

-- the parameters of an AUX number, or of IMG, are awaited, and none has come
abbrev pub awaiting : ℕ → Parked
awaiting number = record { subcommand = number; came = 0; values = 0 ∷ 0 ∷ 0 ∷ 0 ∷ 0 ∷ [] }

-- nothing is awaited, and nothing parked
abbrev pub nothing_awaited : Parked
nothing_awaited = awaiting no_number

-- the bits of a line's pattern, by which its steps are counted
abbrev pub pattern_length : ℕ
pattern_length = 32

-- a figure with its first vertex, of which no step is made
abbrev pub opened : ℕ → Vertex → Figure
opened shape v = record { shape = shape; pair = 0; first = v; second = no_vertex; steps = 0; dashed = 0 }

-- no figure is open, and no vertex kept
abbrev pub no_figure : Figure
no_figure = opened 0 no_vertex

-- a region from its first corner to its second; the first pixel is at the first corner
abbrev pub region_of : ℕ → ℕ → ℕ → ℕ → ℕ → Region
region_of way x0 y0 x1 y1 = record { way = way; x0 = x0; x1 = x1; y1 = y1; x = x0; y = y0 }

-- no region is open
abbrev pub no_region : Region
no_region = region_of 0 0 0 0 0

-- ---- a part with one field replaced

-- the modes with another PMODE
abbrev pub with_pmode : Modes → ℕ → Modes
with_pmode m v = record { pmode = v; lmode = m.lmode; zcontrol = m.zcontrol; hcontrol = m.hcontrol; lstatus = m.lstatus; transparency = m.transparency; planes = m.planes; section = m.section }

-- the modes with another line mode
abbrev pub with_lmode : Modes → ℕ → Modes
with_lmode m v = record { pmode = m.pmode; lmode = v; zcontrol = m.zcontrol; hcontrol = m.hcontrol; lstatus = m.lstatus; transparency = m.transparency; planes = m.planes; section = m.section }

-- the modes with another word of ZCONTROL
abbrev pub with_zcontrol : Modes → ℕ → Modes
with_zcontrol m v = record { pmode = m.pmode; lmode = m.lmode; zcontrol = v; hcontrol = m.hcontrol; lstatus = m.lstatus; transparency = m.transparency; planes = m.planes; section = m.section }

-- the modes with another word of HCONTROL
abbrev pub with_hcontrol : Modes → ℕ → Modes
with_hcontrol m v = record { pmode = m.pmode; lmode = m.lmode; zcontrol = m.zcontrol; hcontrol = v; lstatus = m.lstatus; transparency = m.transparency; planes = m.planes; section = m.section }

-- the modes with another word of LSTATUS
abbrev pub with_lstatus : Modes → ℕ → Modes
with_lstatus m v = record { pmode = m.pmode; lmode = m.lmode; zcontrol = m.zcontrol; hcontrol = m.hcontrol; lstatus = v; transparency = m.transparency; planes = m.planes; section = m.section }

-- the modes with another transparency pattern
abbrev pub with_transparency : Modes → ℕ → Modes
with_transparency m v = record { pmode = m.pmode; lmode = m.lmode; zcontrol = m.zcontrol; hcontrol = m.hcontrol; lstatus = m.lstatus; transparency = v; planes = m.planes; section = m.section }

-- the modes with another mask of bit planes
abbrev pub with_planes : Modes → ℕ → Modes
with_planes m v = record { pmode = m.pmode; lmode = m.lmode; zcontrol = m.zcontrol; hcontrol = m.hcontrol; lstatus = m.lstatus; transparency = m.transparency; planes = v; section = m.section }

-- the modes with another section depth
abbrev pub with_section : Modes → ℕ → Modes
with_section m v = record { pmode = m.pmode; lmode = m.lmode; zcontrol = m.zcontrol; hcontrol = m.hcontrol; lstatus = m.lstatus; transparency = m.transparency; planes = m.planes; section = v }

-- the I, Z and Y registers, by their numbers
abbrev pub latch : ℕ → ℕ → ℕ → Latch
latch i z y = record { i = i; z = z; y = y }

-- a window by its borders, in the order in which WINDOW takes them: left, top, right, bottom
abbrev pub window : ℕ → ℕ → ℕ → ℕ → Window
window left top right bottom = record { left = left; top = top; right = right; bottom = bottom }

-- what dashed lines are drawn with: foreground, background, and the high and the low half of the line pattern
abbrev pub dash : ℕ → ℕ → ℕ → ℕ → Dash
dash foreground background high low = record { foreground = foreground; background = background; high = high; low = low }

-- ---- the record with one part replaced

-- the record with other modes
abbrev pub with_modes : Registers → Modes → Registers
with_modes r m = record { started = r.started; frame = r.frame; modes = m; window = r.window; dash = r.dash; latch = r.latch; figure = r.figure; parked = r.parked; region = r.region }

-- the record with another window
abbrev pub with_window : Registers → Window → Registers
with_window r w = record { started = r.started; frame = r.frame; modes = r.modes; window = w; dash = r.dash; latch = r.latch; figure = r.figure; parked = r.parked; region = r.region }

-- the record with another foreground, background and line pattern
abbrev pub with_dash : Registers → Dash → Registers
with_dash r d = record { started = r.started; frame = r.frame; modes = r.modes; window = r.window; dash = d; latch = r.latch; figure = r.figure; parked = r.parked; region = r.region }

-- the record with other I, Z and Y registers
abbrev pub with_latch : Registers → Latch → Registers
with_latch r l = record { started = r.started; frame = r.frame; modes = r.modes; window = r.window; dash = r.dash; latch = l; figure = r.figure; parked = r.parked; region = r.region }

-- the record with another figure, open or none
abbrev pub with_figure : Registers → Figure → Registers
with_figure r f = record { started = r.started; frame = r.frame; modes = r.modes; window = r.window; dash = r.dash; latch = r.latch; figure = f; parked = r.parked; region = r.region }

-- the record with other parameters parked, or another number awaited
abbrev pub with_parked : Registers → Parked → Registers
with_parked r p = record { started = r.started; frame = r.frame; modes = r.modes; window = r.window; dash = r.dash; latch = r.latch; figure = r.figure; parked = p; region = r.region }

-- the record with another region, open or none
abbrev pub with_region : Registers → Region → Registers
with_region r g = record { started = r.started; frame = r.frame; modes = r.modes; window = r.window; dash = r.dash; latch = r.latch; figure = r.figure; parked = r.parked; region = g }

-- the record in another layout
abbrev pub laid : ℕ → Registers → Registers
laid layout r =
    record {
      started = r.started;
      frame = frame_of r.frame.line layout;
      modes = r.modes;
      window = r.window;
      dash = r.dash;
      latch = r.latch;
      figure = r.figure;
      parked = r.parked;
      region = r.region;
    }

-- ---- INIT and reset

-- INIT sets: Gouraud; line mode 1; depth test and sectioning off; hardware bits 0, so both write enables are off; INV 1, END 0;
-- transparency FFFF; planes FFFF; section depth FFFF
abbrev pub first_modes : Modes
first_modes = record { pmode = 0; lmode = 1; zcontrol = 0; hcontrol = 0; lstatus = inv_bit; transparency = all_bits; planes = all_bits; section = all_bits }

-- window from 0 to the largest border both ways
abbrev pub first_window : Window
first_window = window 0 largest_border largest_border 0

-- these modes and this window; foreground 1, background 0; line pattern all ones; I, Z, Y registers 0; no figure open, nothing awaited, no region
unfoldable pub settings : ℕ → Frame → Registers
settings started frame =
    record {
      started = started;
      frame = frame;
      modes = first_modes;
      window = first_window;
      dash = dash 1 0 all_bits all_bits;
      latch = latch 0 0 0;
      figure = no_figure;
      parked = nothing_awaited;
      region = no_region;
    }

-- after reset: the same with the shortest line length, the layout that is chosen, and no INIT accepted yet
abbrev pub reset_as : ℕ → Registers
reset_as layout = settings 0 (frame_of shortest_line layout)

-- with rows one after the other
abbrev pub reset_of : Registers
reset_of = reset_as 0

-- after INIT: the line length that its code names; the layout stays
abbrev pub init_of : Registers → ℕ → Registers
init_of r d = settings 1 (frame_of (line_of (code_in d)) r.frame.layout)
