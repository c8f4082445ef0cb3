-- The bounds on the fields of the register record (docs/REGISTERS.md lists them; number 2).
use Rattle.std.specs.Prelude.{ℕ, zero, suc, ◌-◌, ◌%◌, Bool, true, ◌&&◌, ◌||◌, List, leb, ltb, eqb}
use Rattle.picture.specs.declared.Frame.{Frame}
use Rattle.picture.specs.declared.Vertex.{Vertex}
use Rattle.registers.specs.declared.Modes.{Modes}
use Rattle.registers.specs.declared.Window.{Window}
use Rattle.registers.specs.declared.Figure.{Figure}
use Rattle.registers.specs.declared.Parked.{Parked}
use Rattle.registers.specs.declared.Region.{Region}
use Rattle.registers.specs.declared.Registers.{Registers}
use Rattle.registers.specs.declared.subcommand.Subcommand.TheVariants.{Pmode, Lmode, Zcontrol, Hcontrol, Lstatus}
use Rattle.registers.specs.Lines.{shortest_line, longest_line, line_unit}
use Rattle.registers.specs.Record.{no_number, pattern_length}
use Rattle.registers.specs.Subcommand.{subcommand_of, wants}
use Rattle.registers.specs.Next.{value}
use Rattle.refusals.specs.Allowed.{is_coordinate, is_border, parameter_allowed}

-- the largest layout: that of the last unit of a board of four
abbrev pub largest_layout : ℕ
largest_layout = 7

-- the line length is a multiple of `line_unit` from the shortest to the longest that are listed, and the layout rows, tiles, or what a unit of a board of two or of four has
unfoldable pub frame_fits : Frame → Bool
frame_fits f = leb shortest_line f.line && leb f.line longest_line && eqb (f.line % line_unit) 0 && leb f.layout largest_layout

-- the words of the modes are such as AUX allows; three of them may be any numbers
unfoldable pub modes_fit : Modes → Bool
modes_fit m =
    parameter_allowed Pmode 0 m.pmode
    && parameter_allowed Lmode 0 m.lmode
    && parameter_allowed Zcontrol 0 m.zcontrol
    && parameter_allowed Hcontrol 0 m.hcontrol
    && parameter_allowed Lstatus 0 m.lstatus

-- each number of the window is a border; it may be empty
unfoldable pub window_fits : Window → Bool
window_fits w = is_border w.left && is_border w.top && is_border w.right && is_border w.bottom

-- a vertex has coordinates
unfoldable pub vertex_fits : Vertex → Bool
vertex_fits v = is_coordinate v.x && is_coordinate v.y

-- the shape is closed or one of three, `pair` and `dashed` are 0 or 1, the steps are fewer than the pattern has bits, and both vertices have coordinates, also
-- where they are not in use
unfoldable pub figure_fits : Figure → Bool
figure_fits f = leb f.shape 3 && leb f.pair 1 && vertex_fits f.first && vertex_fits f.second && ltb f.steps pattern_length && leb f.dashed 1

-- a test holds of each value that has come, with its place
abbrev pub each_came : (ℕ → ℕ → Bool) → List ℕ → ℕ → Bool
each_came test values zero = true
each_came test values (suc k) = each_came test values k && test k (value values k)

-- a number that takes parameters is awaited, or none; fewer have come than it takes, or none where it takes none; and each that has come is allowed for its place
unfoldable pub parked_fits : Parked → Bool
parked_fits p =
    (eqb p.subcommand no_number || ltb 0 (wants (subcommand_of p.subcommand)))
    && leb p.came (wants (subcommand_of p.subcommand) - 1)
    && each_came (parameter_allowed (subcommand_of p.subcommand)) p.values p.came

-- the region's way is 0, 1 or 2, and its five other numbers are coordinates, also where none is open
unfoldable pub region_fits : Region → Bool
region_fits g = leb g.way 2 && is_coordinate g.x0 && is_coordinate g.x1 && is_coordinate g.y1 && is_coordinate g.x && is_coordinate g.y

-- the record breaks no bound
unfoldable pub in_bounds : Registers → Bool
in_bounds r =
    leb r.started 1
    && frame_fits r.frame
    && modes_fit r.modes
    && window_fits r.window
    && is_coordinate r.latch.y
    && figure_fits r.figure
    && parked_fits r.parked
    && region_fits r.region
