-- What is supposed of a run makes each of its offers land: it is of a kind with depth, all is on that stores it, and its intensity has 16
-- bits. Assumes nothing.
use mathlib.Core.Path.{◌≡◌, refl, ap, ◌∙◌}
use mathlib.Core.Bool.{Bool, true, false, ◌&&◌}
use mathlib.Core.List.Memᴰ
use mathlib.Core.List.{Memᴰ}
use Prim.Native.Nat.{ℕ, ◌≤◌, zero-le}
use lib.Dec.{eqb}
use borrow.Author.Tests.{eqb-true}
use Rattle.picture.specs.declared.Pen.{Pen}
use Rattle.picture.specs.declared.Vertex.{Vertex}
use Rattle.picture.specs.Offer.{Offer}
use Rattle.picture.specs.Picture.{is_deep, passes, new_i, new_z}
use Rattle.picture.specs.Cell.{Cell, offer_leaves}
use Rattle.ground.proofs.Truth.{both}
use Rattle.picture.proofs.Rows.{in_all_planes}
use Rattle.picture.proofs.Members.{Numbers}
use Rattle.triangle.specs.Offers.{kind_of as triangleKind}
use Rattle.triangle.proofs.Members.{triangle_member}
use Rattle.line.specs.declared.Mode.TheVariants.{Two}
use Rattle.line.specs.declared.Style.{Style}
use Rattle.line.specs.Segment.{mode_of, segment_offers}
use Rattle.line.proofs.Members.{segment_member}
use Rattle.registers.specs.declared.Registers.{Registers}
use Rattle.registers.specs.declared.shape.Completed.{Completed}
use Rattle.registers.specs.declared.shape.Completed.TheVariants.{Nothing, Triangle, Segment}
use Rattle.registers.specs.Next.{pen_of}
use Rattle.registers.proofs.Completing.{AllVertices}
use Rattle.chip.specs.Chip.{is_constant, style_of, whole_offers, figure_offers}
use Rattle.chip.proofs.Figures.{offers_held}
use Rattle.belief.specs.Belief.{is_all_on, is_supposed}
use Rattle.belief.proofs.Ends.{lands}

-- ---- one offer

-- of a kind with depth, and its intensity has 16 bits
record Deep (o : Offer) : Type 0 where
  kind : is_deep o.kind ≡ true
  low : o.i ≤ 65535

-- with all on, such an offer lands
all_on_lands : (pen : Pen) (o : Offer) → is_all_on pen ≡ true → Deep o → (c : Cell) → offer_leaves pen c o ≡ lands c o
unfolding is_all_on offer_leaves passes new_i new_z
all_on_lands pen o on d c =
    let planes = both (pen.depth && pen.ienable && pen.zenable) (eqb pen.planes 65535) on in
    let z = both (pen.depth && pen.ienable) pen.zenable planes.0 in
    let i = both pen.depth pen.ienable z.0 in
    rw (i.0, i.1, z.1, eqb-true pen.planes 65535 planes.1, d.kind, in_all_planes c.i o.i d.low)

-- ---- those of a figure

triangle_deep : (constant : Bool) → is_deep (triangleKind constant) ≡ true
triangle_deep true = refl
triangle_deep false = refl

-- a style in which nothing but the line mode is told
abbrev shaded : Style
shaded = record { mode = Two; pattern = 0; foreground = 0; background = 0; steps = 0; joined = false }

-- in line mode 2 a segment's offers are the same in every style
segment_shaded : (pen : Pen) (rows : ℕ) (r : Registers) (a b : Vertex) → r.modes.lmode ≡ 2
    → segment_offers pen rows (style_of r) a b ≡ segment_offers pen rows shaded a b
unfolding segment_offers mode_of
segment_shaded pen rows r a b e = rw e

whole_deep : (rows : ℕ) (r : Registers) (f : Completed) → AllVertices (Numbers 65535) f → is_supposed r f ≡ true → (o : Offer) → Memᴰ o (whole_offers rows r f)
    → (is_all_on (pen_of r) ≡ true) × Deep o
unfolding whole_offers is_supposed
whole_deep rows r Nothing small on o u = absurd (Memᴰ.not-nil u)
whole_deep rows r (Triangle a b c) small on o u =
    let m = triangle_member (pen_of r) rows (is_constant r) a b c 65535 small.0 small.1 small.2 o u in
    (on, record { kind = ap is_deep m.of_kind ∙ triangle_deep (is_constant r); low = m.i })
whole_deep rows r (Segment a b) small on o u =
    let k = both (eqb r.modes.lmode 2) (is_all_on (pen_of r)) on in
    let m = segment_member (pen_of r) rows shaded a b 65535 small.0 small.1 zero-le zero-le o (rw (segment_shaded (pen_of r) rows r a b (eqb-true _ _ k.0)) at u) in
    (k.1, record { kind = ap is_deep m.of_kind; low = m.i })

-- each offer of a word of which so much is supposed lands
pub supposed_lands : (rows : ℕ) (r : Registers) (f : Completed) → AllVertices (Numbers 65535) f → is_supposed r f ≡ true → (o : Offer) → Memᴰ o (figure_offers rows r f)
    → (c : Cell) → offer_leaves (pen_of r) c o ≡ lands c o
supposed_lands rows r f small on o u = let k = whole_deep rows r f small on o (offers_held rows r f o u) in all_on_lands (pen_of r) o k.0 k.1
