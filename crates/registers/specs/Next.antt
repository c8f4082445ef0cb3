-- The record after an accepted word, and the figure that the word completes (document 01, "Registers" and "Figures"; document 02,
-- [1], [5] and [7]).
use Rattle.std.specs.Prelude.{ℕ, ◌+◌, ◌%◌, Bool, cond, List, ltb, get_or, set}
use Rattle.picture.specs.declared.Pen.{Pen}
use Rattle.registers.specs.declared.word.Word.{Word}
use Rattle.registers.specs.declared.word.Word.TheVariants.{Init, Aux, Parm, At, Img, Ptrn, Reserved, Unmodelled, Unknown}
use Rattle.registers.specs.declared.word.Coordinate.{Coordinate}
use Rattle.registers.specs.declared.word.Coordinate.TheVariants.{I, Z, Y, X, T1x, T2x, Lx, Px}
use Rattle.registers.specs.declared.subcommand.Subcommand.{Subcommand}
use Rattle.registers.specs.declared.subcommand.Subcommand.TheVariants.{Nothing, Pmode, Lmode, Zcontrol, Hcontrol, Tpattern, Window as Win, Section, Color, Lpattern, Mask, Lstatus, Imode, Load, Save}
use Rattle.registers.specs.declared.Parked.{Parked}
use Rattle.registers.specs.declared.Registers.{Registers}
use Rattle.registers.specs.declared.shape.Completed.{Completed}
use Rattle.registers.specs.declared.shape.Completed.TheVariants.{Nothing as NoFigure}
use Rattle.registers.specs.Record.{is_on, depth_bit, i_bit, z_bit, picture_bit, load_number, awaiting, nothing_awaited, opened, region_of, init_of}
use Rattle.registers.specs.Record.{with_pmode, with_lmode, with_zcontrol, with_hcontrol, with_lstatus, with_transparency, with_planes, with_section}
use Rattle.registers.specs.Record.{latch, window, dash, with_modes, with_window, with_dash, with_latch, with_figure, with_parked, with_region}
use Rattle.registers.specs.Region.{next_pixel}
use Rattle.registers.specs.Subcommand.{subcommand_of, wants}
use Rattle.registers.specs.Figure.{vertex_of, figure_after, vertex_completes}

-- ---- parameters

-- parameter k of those parked
abbrev pub value : List ℕ → ℕ → ℕ
value parked k = get_or parked k 0

-- what the parameters of a subcommand do, once the last has come
unfoldable pub effect_of : Registers → Subcommand → List ℕ → Registers
effect_of r Nothing p = r
effect_of r Pmode p = with_modes r (with_pmode r.modes (value p 0))
effect_of r Lmode p = with_modes r (with_lmode r.modes (value p 0))
effect_of r Zcontrol p = with_modes r (with_zcontrol r.modes (value p 0))
effect_of r Hcontrol p = with_modes r (with_hcontrol r.modes (value p 0))
effect_of r Tpattern p = with_modes r (with_transparency r.modes (value p 0))
effect_of r Win p = with_window r (window (value p 0) (value p 1) (value p 2) (value p 3))
effect_of r Section p = with_modes r (with_section r.modes (value p 0))
effect_of r Color p = with_dash r (dash (value p 0) (value p 1) r.dash.high r.dash.low)
effect_of r Lpattern p = with_dash r (dash r.dash.foreground r.dash.background (value p 0) (value p 1))
effect_of r Mask p = with_modes r (with_planes r.modes (value p 0))
effect_of r Lstatus p = with_modes r (with_lstatus r.modes (value p 0))
effect_of r Imode p = r
effect_of r Load p = with_region r (region_of 1 (value p 0) (value p 1) (value p 2) (value p 3))
effect_of r Save p = with_region r (region_of 2 (value p 0) (value p 1) (value p 2) (value p 3))

-- the subcommand whose parameters are awaited
abbrev pub awaited : Registers → Subcommand
awaited r = subcommand_of r.parked.subcommand

-- a parameter is parked beside those that came before it
abbrev pub joined_of : Parked → ℕ → Parked
joined_of p v = record { subcommand = p.subcommand; came = p.came; values = set p.values p.came v }

-- one more has come
abbrev pub counted : Parked → Parked
counted p = record { subcommand = p.subcommand; came = p.came + 1; values = p.values }

-- a parameter is parked until the last has come; then all take effect together, and nothing is awaited any more
unfoldable pub parm_of : Registers → ℕ → Registers
parm_of r v =
    let p = joined_of r.parked v in
    cond (ltb (p.came + 1) (wants (awaited r))) (with_parked r (counted p)) (with_parked (effect_of r (awaited r) p.values) nothing_awaited)

-- ---- coordinates

-- T1X, T2X and LX open a figure with their vertex, and abandon the old one
abbrev pub open_of : Registers → ℕ → ℕ → Registers
open_of r shape x = with_figure r (opened shape (vertex_of r x))

-- LX sets INV 0 and END 0: a line starts visible (document 02, [5])
abbrev pub line_open_of : Registers → ℕ → Registers
line_open_of r x = open_of (with_modes r (with_lstatus r.modes 0)) 3 x

-- the record after a coordinate
unfoldable pub coordinate_of : Registers → Coordinate → ℕ → Registers
coordinate_of r I n = with_latch r (latch n r.latch.z r.latch.y)
coordinate_of r Z n = with_latch r (latch r.latch.i n r.latch.y)
coordinate_of r Y n = with_latch r (latch r.latch.i r.latch.z n)
coordinate_of r X n = with_figure r (figure_after r n)
coordinate_of r T1x n = open_of r 1 n
coordinate_of r T2x n = open_of r 2 n
coordinate_of r Lx n = line_open_of r n
coordinate_of r Px n = with_figure r (figure_after r n)

-- the figure that a coordinate completes
unfoldable pub coordinate_completes : Registers → Coordinate → ℕ → Completed
coordinate_completes r I n = NoFigure
coordinate_completes r Z n = NoFigure
coordinate_completes r Y n = NoFigure
coordinate_completes r X n = vertex_completes r n
coordinate_completes r T1x n = NoFigure
coordinate_completes r T2x n = NoFigure
coordinate_completes r Lx n = NoFigure
coordinate_completes r Px n = vertex_completes r n

-- ---- pictures

-- the number under which IMG's parameters are awaited: by bit 0 of its data to memory, or from memory
abbrev pub img_number : ℕ → ℕ
img_number d = load_number + d % 2

-- pictures go to and from Z, and not I
abbrev pub is_deep_picture : Registers → Bool
is_deep_picture r = is_on picture_bit r.modes.hcontrol

-- a pixel was transferred
abbrev pub transferred_of : Registers → Registers
transferred_of r = with_region r (next_pixel r.region)

-- ---- words

-- the record after an accepted word; the last three are never accepted
unfoldable pub record_after : Registers → Word → Registers
record_after r (Init d) = init_of r d
record_after r (Aux n) = with_parked r (awaiting n)
record_after r (Parm v) = parm_of r v
record_after r (At c n) = coordinate_of r c n
record_after r (Img d) = with_parked r (awaiting (img_number d))
record_after r (Ptrn v) = transferred_of r
record_after r Reserved = r
record_after r Unmodelled = r
record_after r Unknown = r

-- the figure that an accepted word completes
unfoldable pub completed_by : Registers → Word → Completed
completed_by r (Init d) = NoFigure
completed_by r (Aux n) = NoFigure
completed_by r (Parm v) = NoFigure
completed_by r (At c n) = coordinate_completes r c n
completed_by r (Img d) = NoFigure
completed_by r (Ptrn v) = NoFigure
completed_by r Reserved = NoFigure
completed_by r Unmodelled = NoFigure
completed_by r Unknown = NoFigure

-- how figures are drawn, by the registers as they are when the completing word comes
abbrev pub pen_of : Registers → Pen
pen_of r =
    record {
      frame = r.frame;
      left = r.window.left;
      right = r.window.right;
      bottom = r.window.bottom;
      top = r.window.top;
      transparency = r.modes.transparency;
      planes = r.modes.planes;
      depth = is_on depth_bit r.modes.zcontrol;
      ienable = is_on i_bit r.modes.hcontrol;
      zenable = is_on z_bit r.modes.hcontrol;
    }
