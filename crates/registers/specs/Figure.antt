-- Open figures, what a vertex makes of them and what it completes (document 01, "Figures"; document 02, [2]).
use Rattle.std.specs.Prelude.{ℕ, ◌+◌, ◌%◌, Bool, cond, not, ◌&&◌, List, [], ◌∷◌, get_or, leb, eqb}
use Rattle.picture.specs.declared.Vertex.{Vertex}
use Rattle.line.specs.Segment.{larger}
use Rattle.registers.specs.declared.Figure.{Figure}
use Rattle.registers.specs.declared.Registers.{Registers}
use Rattle.registers.specs.declared.shape.Shape.{Shape}
use Rattle.registers.specs.declared.shape.Shape.TheVariants.{Closed, Strip, Fan, Line}
use Rattle.registers.specs.declared.shape.Completed.{Completed}
use Rattle.registers.specs.declared.shape.Completed.TheVariants.{Nothing, Triangle, Segment}
use Rattle.registers.specs.Record.{is_on, inv_bit, end_bit, pattern_length, no_vertex, no_figure}

-- the shapes, in the order of the record's numbers: 0 for no figure open, 1 a strip, 2 a fan, 3 a line
abbrev pub shapes : List Shape
shapes = Closed ∷ Strip ∷ Fan ∷ Line ∷ []

-- the shape that the record's number stands for; none is open for a number above them
unfoldable pub shape_of : ℕ → Shape
shape_of n = get_or shapes n Closed

-- the number of a shape in the record
abbrev pub shape_number : Shape → ℕ
shape_number Closed = 0
shape_number Strip = 1
shape_number Fan = 2
shape_number Line = 3

-- a vertex is the X data with the I, Z and Y registers
abbrev pub vertex_of : Registers → ℕ → Vertex
vertex_of r x = record { x = x; y = r.latch.y; i = r.latch.i; z = r.latch.z }

-- two vertices are kept
abbrev pub is_pair : Figure → Bool
is_pair f = eqb f.pair 1

-- a figure with two vertices
abbrev pub paired : ℕ → Vertex → Vertex → Figure
paired shape a b = record { shape = shape; pair = 1; first = a; second = b; steps = 0; dashed = 0 }

-- a line after the segment to a vertex, which is the start of the next one: the steps since LX, modulo the pattern's bits, and whether the segment was dashed
abbrev pub advanced : Bool → Figure → Vertex → Figure
advanced dashed f v = record { shape = 3; pair = 0; first = v; second = no_vertex; steps = (f.steps + larger f.first v) % pattern_length; dashed = cond dashed 1 0 }

-- the figure after one more vertex: of a strip the last two are kept, of a fan the first and the last; the end of a segment is the
-- start of the next one, and with END 1 the line closes after the segment
unfoldable pub grown_of : Shape → Bool → Bool → Figure → Vertex → Figure
grown_of Closed end dashed f v = f
grown_of Strip end dashed f v = cond (is_pair f) (paired 1 f.second v) (paired 1 f.first v)
grown_of Fan end dashed f v = paired 2 f.first v
grown_of Line end dashed f v = cond end no_figure (advanced dashed f v)

-- what one more vertex completes: from the third vertex on a triangle, in a strip of the last three vertices, in a fan of the first, the
-- one before and the new one; of a line a segment, and with INV 1 nothing is offered
unfoldable pub completes : Shape → Bool → Figure → Vertex → Completed
completes Closed inv f v = Nothing
completes Strip inv f v = cond (is_pair f) (Triangle f.first f.second v) Nothing
completes Fan inv f v = cond (is_pair f) (Triangle f.first f.second v) Nothing
completes Line inv f v = cond inv Nothing (Segment f.first v)

-- a segment is dashed: visible, and of line mode 0 or 1
abbrev pub is_dashed : Registers → Bool
is_dashed r = not (is_on inv_bit r.modes.lstatus) && leb r.modes.lmode 1

-- the figure after one more vertex, by the registers as they are when the vertex comes
abbrev pub figure_after : Registers → ℕ → Figure
figure_after r x = grown_of (shape_of r.figure.shape) (is_on end_bit r.modes.lstatus) (is_dashed r) r.figure (vertex_of r x)

-- what that vertex completes, by the same registers
abbrev pub vertex_completes : Registers → ℕ → Completed
vertex_completes r x = completes (shape_of r.figure.shape) (is_on inv_bit r.modes.lstatus) r.figure (vertex_of r x)
