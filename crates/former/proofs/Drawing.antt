-- What was offered and stored is so still: no pixel of a figure within the former limits lies beyond them, and there neither the window from INIT
-- on nor the rows in use make a difference. Assumes nothing.
use mathlib.Core.Path.{◌≡◌, refl, sym, ap, ap₂, ◌∙◌}
use mathlib.Core.Bool.{Bool, true, false, cond, ◌&&◌}
use mathlib.Core.List.{List, [], ◌∷◌}
use Prim.Native.Nat.{ℕ, ◌+◌, ◌≤◌, ◌<◌, zero-le}
use native.Mathlib.Nat.{min-le_left}
use native.Mathlib.Omega.{arith}
use lib.Dec.{ltb}
use borrow.Author.Tests.{lt-ltb, ltb-true}
use Rattle.picture.specs.declared.Vertex.{Vertex}
use Rattle.picture.specs.declared.Kind.{Kind}
use Rattle.picture.specs.declared.Kind.TheVariants.{Line0, Line1, Line2}
use Rattle.picture.specs.Place.{layout_of, mine, in_memory}
use Rattle.picture.specs.Offer.{Offer, offer, lets_through, in_window, shows, offered, keep}
use Rattle.picture.specs.Picture.{Picture, passes, new_i, new_z, step_at, draw_one, drawn}
use Rattle.picture.specs.Store.{Store, pixel_for, stored_i, stored_z, stored, filled, storable}
use Rattle.ground.proofs.Truth.{same_test}
use Rattle.picture.proofs.Offers.{window_in}
use Rattle.picture.proofs.Spans.{spans_same, spans_stop}
use Rattle.triangle.specs.Edge.{edge_at, covers}
use Rattle.triangle.specs.Offers.{pixel_at, pixel_offers, row_offers, turned_offers, corners_of, triangle_offers}
use Rattle.triangle.specs.Loops.{Turned}
use Rattle.triangle.proofs.Sizes.{Below}
use Rattle.triangle.proofs.Covers.{covered_upward, covered_across}
use Rattle.triangle.proofs.Rows.{row_none}
use Rattle.triangle.proofs.Turning.{left_turned, right_turned}
use Rattle.line.specs.declared.Mode.{Mode}
use Rattle.line.specs.declared.Mode.TheVariants.{Zero, One, Two}
use Rattle.line.specs.declared.Style.{Style}
use Rattle.line.specs.Segment.{larger, x_at, y_at, is_set, first_of, from, dash_offers, shade_offers, step_offers, segment_offers}
use Rattle.line.proofs.Insides.{step_low}
use Rattle.registers.specs.declared.Window.{Window}
use Rattle.registers.specs.declared.Registers.{Registers}
use Rattle.registers.specs.declared.word.Word.{Word}
use Rattle.registers.specs.declared.word.Word.TheVariants.{Init, Aux, Parm, At, Img, Ptrn, Reserved, Unmodelled, Unknown}
use Rattle.registers.specs.declared.shape.Completed.{Completed}
use Rattle.registers.specs.declared.shape.Completed.TheVariants.{Nothing, Triangle, Segment}
use Rattle.registers.specs.Record.{with_window}
use Rattle.registers.specs.Next.{pen_of, is_deep_picture}
use Rattle.registers.proofs.Completing.{AllVertices}
use Rattle.chip.specs.Chip.{is_constant, style_of, whole_offers, is_cut, figure_offers, word_stores}
use Rattle.former.specs.Former.{former_coordinate, was_rows}
use Rattle.former.specs.Request.{Widened, kept, first}

-- a vertex within the former limits
abbrev pub Former : Vertex → Type 0
Former v = Below former_coordinate v

-- a row within them is in use just where it was
pub row_same : (rows y : ℕ) → y ≤ former_coordinate → ltb y rows ≡ ltb y (was_rows rows)
row_same rows y h =
    same_test _ _ (λ e. let k = ltb-true y rows e in let l : y < was_rows rows = omega (arith, k, h) in lt-ltb _ _ l)
    (λ e. let k = ltb-true y (was_rows rows) e in let l : y < rows = omega (arith, k) in lt-ltb _ _ l)

module _ (r : Registers) (v : Window) (h : Widened r.window v) where
  -- ---- a pixel

  -- it is inside today's window just where it was inside the former one
  window_same : (x y : ℕ) → x ≤ former_coordinate → y ≤ former_coordinate → in_window (pen_of (with_window r v)) x y ≡ in_window (pen_of r) x y
  window_same x y hx hy = go h
    where
      go : Widened r.window v → in_window (pen_of (with_window r v)) x y ≡ in_window (pen_of r) x y
      go (kept e) = ap (λ (w : Window). in_window (pen_of (with_window r w)) x y) e
      go (first e f) =
          ap (λ (w : Window). in_window (pen_of (with_window r w)) x y) f
          ∙ window_in _ x y zero-le (omega (arith, hx)) zero-le (omega (arith, hy))
          ∙ sym (ap (λ (w : Window). in_window (pen_of (with_window r w)) x y) e ∙ window_in _ x y zero-le (omega (arith, hx)) zero-le (omega (arith, hy)))

  keep_same : (rows : ℕ) (o : Offer) → o.x ≤ former_coordinate → o.y ≤ former_coordinate → keep (pen_of (with_window r v)) rows o ≡ keep (pen_of r) (was_rows rows) o
  unfolding keep offered in_memory shows
  keep_same rows o hx hy =
      ap₂ (λ (a b : Bool). cond (a && (ltb o.x r.frame.line && b && mine (layout_of r.frame) o.x) && lets_through (pen_of r) o.kind o.x o.y) (o ∷ []) [])
      (window_same o.x o.y hx hy) (row_same rows o.y hy)

  -- ---- a triangle

  module _ (rows : ℕ) (constant : Bool) (a b c last : Vertex) (turned : Turned (corners_of a b c last)) (p : Former a) (q : Former b) (s : Former c) where
    covered_low : (x y : ℕ) → covers (corners_of a b c last) x y ≡ true → (x ≤ former_coordinate) × (y ≤ former_coordinate)
    covered_low x y e =
        let k = (covered_across (corners_of a b c last) turned x y e).1 in
        let l = (covered_upward (corners_of a b c last) turned x y e).1 in
        (omega (arith, k, p.across, q.across, s.across), omega (arith, l, p.up, q.up, s.up))

    pixel_same : (x y : ℕ) → pixel_offers (pen_of (with_window r v)) rows constant (corners_of a b c last) x y ≡ pixel_offers (pen_of r) (was_rows rows) constant (corners_of a b c last) x y
    unfolding pixel_offers pixel_at
    pixel_same x y = go (covers (corners_of a b c last) x y) refl
      where
        go : (k : Bool) → covers (corners_of a b c last) x y ≡ k
            → cond k (keep (pen_of (with_window r v)) rows (pixel_at constant (corners_of a b c last) x y)) [] ≡ cond k (keep (pen_of r) (was_rows rows) (pixel_at constant (corners_of a b c last) x y)) []
        go true e = let l = covered_low x y e in keep_same rows (pixel_at constant (corners_of a b c last) x y) l.0 l.1
        go false e = refl

    turned_same : turned_offers (pen_of (with_window r v)) rows constant (corners_of a b c last) ≡ turned_offers (pen_of r) (was_rows rows) constant (corners_of a b c last)
    turned_same =
        spans_same (row_offers (pen_of (with_window r v)) rows constant (corners_of a b c last)) (row_offers (pen_of r) (was_rows rows) constant (corners_of a b c last)) rows
        (λ y k. spans_same _ _ r.frame.line (λ x l. pixel_same x y))
        ∙ spans_stop (row_offers (pen_of r) (was_rows rows) constant (corners_of a b c last)) (was_rows rows) rows (min-le_left _ _)
        (λ y lo hi. row_none (pen_of r) (was_rows rows) constant (corners_of a b c last) y (λ x e k. let l = (covered_low x y e).1 in omega (arith, lo, hi, l)))

  triangle_same : (rows : ℕ) (constant : Bool) (a b c : Vertex) → Former a → Former b → Former c
      → triangle_offers (pen_of (with_window r v)) rows constant a b c ≡ triangle_offers (pen_of r) (was_rows rows) constant a b c
  unfolding triangle_offers
  triangle_same rows constant a b c p q s = go _ _ refl refl
    where
      go : (left right : Bool) → ltb (edge_at a b c.x c.y).minus (edge_at a b c.x c.y).plus ≡ left
          → ltb (edge_at a b c.x c.y).plus (edge_at a b c.x c.y).minus ≡ right
          → cond left (turned_offers (pen_of (with_window r v)) rows constant (corners_of a b c c)) (cond right (turned_offers (pen_of (with_window r v)) rows constant (corners_of a c b c)) [])
          ≡ cond left (turned_offers (pen_of r) (was_rows rows) constant (corners_of a b c c)) (cond right (turned_offers (pen_of r) (was_rows rows) constant (corners_of a c b c)) [])
      go true right l k = turned_same rows constant a b c c (left_turned a b c _ refl (ltb-true _ _ l)) p q s
      go false true l k = turned_same rows constant a c b c (right_turned a b c _ refl (ltb-true _ _ k)) p s q
      go false false l k = refl

  -- ---- a segment

  module _ (rows : ℕ) (style : Style) (a b : Vertex) (p : Former a) (q : Former b) where
    step_keep : (k : ℕ) → k < larger a b + 1 → (kind : Kind) (i z : ℕ)
        → keep (pen_of (with_window r v)) rows (offer kind (x_at a b k) (y_at a b k) i z) ≡ keep (pen_of r) (was_rows rows) (offer kind (x_at a b k) (y_at a b k) i z)
    step_keep k l kind i z =
        let s = step_low a b k (omega (arith, l)) in
        keep_same rows (offer kind (x_at a b k) (y_at a b k) i z) (omega (arith, s.0, p.across, q.across)) (omega (arith, s.1, p.up, q.up))

    dash_same : (kind : Kind) (ground : Bool) (k : ℕ) → k < larger a b + 1
        → dash_offers (pen_of (with_window r v)) rows kind ground style a b k ≡ dash_offers (pen_of r) (was_rows rows) kind ground style a b k
    unfolding dash_offers
    dash_same kind ground k l =
        ap₂ (λ (f g : List Offer). cond (is_set style k) f (cond ground g [])) (step_keep k l kind style.foreground 0) (step_keep k l kind style.background 0)

    step_same : (mode : Mode) (k : ℕ) → k < larger a b + 1
        → step_offers (pen_of (with_window r v)) rows style mode a b k ≡ step_offers (pen_of r) (was_rows rows) style mode a b k
    unfolding from shade_offers
    step_same Zero k l = ap (λ (f : List Offer). cond (ltb k (first_of style.joined)) [] f) (dash_same Line0 true k l)
    step_same One k l = ap (λ (f : List Offer). cond (ltb k (first_of style.joined)) [] f) (dash_same Line1 false k l)
    step_same Two k l = step_keep k l Line2 _ _

    segment_same : segment_offers (pen_of (with_window r v)) rows style a b ≡ segment_offers (pen_of r) (was_rows rows) style a b
    unfolding segment_offers
    segment_same = spans_same _ _ (larger a b + 1) (step_same style.mode)

  -- ---- a figure, and a pixel of a picture

  whole_same : (rows : ℕ) (f : Completed) → AllVertices Former f → whole_offers rows (with_window r v) f ≡ whole_offers (was_rows rows) r f
  unfolding whole_offers
  whole_same rows Nothing near = refl
  whole_same rows (Triangle a b c) near = triangle_same rows (is_constant r) a b c near.0 near.1 near.2
  whole_same rows (Segment a b) near = segment_same rows (style_of r) a b near.0 near.1

  cut_same : (f : Completed) → is_cut (with_window r v) f ≡ is_cut r f
  unfolding is_cut
  cut_same Nothing = refl
  cut_same (Triangle a b c) = refl
  cut_same (Segment a b) = refl

  -- a figure whose vertices lie within the former limits offers what it offered, also where today's window from INIT on stands for the former
  pub figure_same : (rows : ℕ) (f : Completed) → AllVertices Former f → figure_offers rows (with_window r v) f ≡ figure_offers (was_rows rows) r f
  unfolding figure_offers
  figure_same rows f near = ap₂ (λ (t : Bool) (os : List Offer). cond t [] os) (cut_same f) (whole_same rows f near)

  -- a word stores what it stored, if the region's row lies within the former limits
  pub stores_same : (rows : ℕ) (w : Word) → r.region.y ≤ former_coordinate → word_stores rows (with_window r v) w ≡ word_stores (was_rows rows) r w
  unfolding word_stores storable in_memory
  stores_same rows (Init d) low = refl
  stores_same rows (Aux n) low = refl
  stores_same rows (Parm n) low = refl
  stores_same rows (At c n) low = refl
  stores_same rows (Img d) low = refl
  stores_same rows (Ptrn n) low =
      ap (λ (t : Bool). cond (ltb r.region.x r.frame.line && t && mine (layout_of r.frame) r.region.x) (pixel_for (is_deep_picture r) r.region.x r.region.y n ∷ []) []) (row_same rows r.region.y low)
  stores_same rows Reserved low = refl
  stores_same rows Unmodelled low = refl
  stores_same rows Unknown low = refl

-- ---- the window plays no part in what an offer, or a pixel of a picture, does

module _ (r : Registers) (v : Window) where
  -- the same offers draw the same picture under any window
  pub drawn_same : (os : List Offer) (p : Picture) → drawn (pen_of (with_window r v)) os p ≡ drawn (pen_of r) os p
  unfolding drawn draw_one step_at passes new_i new_z
  drawn_same [] p = refl
  drawn_same (o ∷ os) p = drawn_same os (draw_one (pen_of r) p o)

  -- the same pixels of a picture are stored alike under any window
  pub filled_same : (ss : List Store) (p : Picture) → filled (pen_of (with_window r v)) ss p ≡ filled (pen_of r) ss p
  unfolding filled stored stored_i stored_z new_i
  filled_same [] p = refl
  filled_same (s ∷ ss) p = filled_same ss (stored (pen_of r) p s)
