-- The card answers which words pass a pixel: with the window narrowed to it, a figure offers exactly those of its pixels that lie there, and with the
-- write enables off nothing is stored. Assumes nothing.
use Rattle.std.proofs.Common.{◌≡◌, ℕ, zero, suc, ◌+◌, Bool, true, false, cond, ◌&&◌, eqb, ltb, List, [], ◌∷◌, ◌++◌, length, sym, refl, ap, ◌∙◌, arith, eq-eqb, eqb-true}
use Rattle.picture.specs.declared.Vertex.{Vertex}
use Rattle.picture.specs.Place.{rows_of, in_memory}
use Rattle.picture.specs.declared.Kind.{Kind}
use Rattle.picture.specs.declared.Kind.TheVariants.{Line0, Line1, Line2}
use Rattle.picture.specs.Offer.{Offer, offer, lets_through, in_window, shows, offered, keep, on_pixel}
use Rattle.picture.specs.Picture.{Picture, picture, drawn}
use Rattle.picture.specs.Draw.{spans}
use Rattle.picture.proofs.Offers.{window_in, window_of}
use Rattle.picture.proofs.Passed.{drawn_leaves_i, drawn_leaves_z}
use Rattle.ground.proofs.Truth.{both, same_test}
use Rattle.picture.proofs.Spans.{spans_zero, spans_suc, spans_same}
use Rattle.triangle.specs.Edge.{covers, edge_at}
use Rattle.triangle.specs.Offers.{pixel_at, pixel_offers, row_offers, turned_offers, corners_of, triangle_offers}
use Rattle.triangle.proofs.Once.{at_nil, at_append}
use Rattle.line.specs.declared.Mode.{Mode}
use Rattle.line.specs.declared.Mode.TheVariants.{Zero, One, Two}
use Rattle.line.specs.declared.Style.{Style}
use Rattle.line.specs.Segment.{larger, x_at, y_at, number_at, first_of, is_set, from, dash_offers, shade_offers, step_offers, segment_offers}
use Rattle.registers.specs.declared.Registers.{Registers}
use Rattle.registers.specs.declared.shape.Completed.{Completed}
use Rattle.registers.specs.declared.shape.Completed.TheVariants.{Nothing, Triangle, Segment}
use Rattle.registers.specs.Next.{pen_of}
use Rattle.chip.specs.Chip.{is_constant, style_of, whole_offers, is_cut, figure_offers}
use Rattle.tracing.specs.Watch.{aimed, passes_at}

module _ (x y : ℕ) where
  at_spans : (f : ℕ → List Offer) (n : ℕ) → on_pixel x y (spans f n) ≡ spans (λ k. on_pixel x y (f k)) n
  at_spans f zero = ap (on_pixel x y) (spans_zero f) ∙ at_nil x y ∙ sym (spans_zero (λ k. on_pixel x y (f k)))
  at_spans f (suc n) =
      ap (on_pixel x y) (spans_suc f n)
      ∙ at_append x y (spans f n) (f n)
      ∙ ap (λ (os : List Offer). os ++ on_pixel x y (f n)) (at_spans f n)
      ∙ sym (spans_suc (λ k. on_pixel x y (f k)) n)

  -- one of two lists, or none
  at_cond : (b : Bool) (os' ps' : List Offer) {os ps : List Offer} → os ≡ on_pixel x y os' → ps ≡ on_pixel x y ps' → cond b os ps ≡ on_pixel x y (cond b os' ps')
  at_cond true os' ps' e f = e
  at_cond false os' ps' e f = f

  -- a pixel that the window, the memory and the pattern let through is at (x, y), or is none
  kept_there : (o : Offer) (w a m s : Bool) → eqb o.x x && eqb o.y y ≡ a
      → cond (w && a && m && s) (o ∷ []) [] ≡ on_pixel x y (cond (w && m && s) (o ∷ []) [])
  unfolding on_pixel
  kept_there o true true true true e = rw e
  kept_there o true true true false e = refl
  kept_there o true true false true e = refl
  kept_there o true true false false e = refl
  kept_there o true false true true e = rw e
  kept_there o true false true false e = refl
  kept_there o true false false true e = refl
  kept_there o true false false false e = refl
  kept_there o false true true true e = refl
  kept_there o false true true false e = refl
  kept_there o false true false true e = refl
  kept_there o false true false false e = refl
  kept_there o false false true true e = refl
  kept_there o false false true false e = refl
  kept_there o false false false true e = refl
  kept_there o false false false false e = refl

  module _ (r : Registers) where
    -- the narrowed window has of the window's pixels that at (x, y) alone
    window_aimed : (a b : ℕ) → in_window (pen_of (aimed x y r)) a b ≡ in_window (pen_of r) a b && (eqb a x && eqb b y)
    window_aimed a b =
        same_test (in_window (pen_of (aimed x y r)) a b) (in_window (pen_of r) a b && (eqb a x && eqb b y))
        (λ h.
        let w = window_of (pen_of (aimed x y r)) a b h in
        let column : a ≡ x = omega (arith, w.0, w.1) in
        let row : b ≡ y = omega (arith, w.2, w.3) in
        rw (window_in (pen_of r) a b (omega (arith, w.0)) (omega (arith, w.1)) (omega (arith, w.2)) (omega (arith, w.3)), eq-eqb a x column, eq-eqb b y row))
        (λ h.
        let k = both (in_window (pen_of r) a b) (eqb a x && eqb b y) h in
        let e = both (eqb a x) (eqb b y) k.1 in
        let w = window_of (pen_of r) a b k.0 in
        let column = eqb-true a x e.0 in
        let row = eqb-true b y e.1 in
        window_in (pen_of (aimed x y r)) a b (omega (arith, w.0, column)) (omega (arith, w.1, column)) (omega (arith, w.2, row)) (omega (arith, w.3, row)))

    module _ (rows : ℕ) where
      keep_aimed : (o : Offer) → keep (pen_of (aimed x y r)) rows o ≡ on_pixel x y (keep (pen_of r) rows o)
      unfolding keep offered shows
      keep_aimed o =
          rw (window_aimed o.x o.y)
          (kept_there o (in_window (pen_of r) o.x o.y) (eqb o.x x && eqb o.y y) (in_memory r.frame rows o.x o.y)
          (lets_through (pen_of r) o.kind o.x o.y) refl)

      -- ---- triangles

      pixel_aimed : (constant : Bool) (p q s u : Vertex) (a b : ℕ)
          → pixel_offers (pen_of (aimed x y r)) rows constant (corners_of p q s u) a b ≡ on_pixel x y (pixel_offers (pen_of r) rows constant (corners_of p q s u) a b)
      unfolding pixel_offers
      pixel_aimed constant p q s u a b =
          let pixel = pixel_at constant (corners_of p q s u) a b in
          at_cond (covers (corners_of p q s u) a b) (keep (pen_of r) rows pixel) [] (keep_aimed pixel) (sym (at_nil x y))

      row_aimed : (constant : Bool) (p q s u : Vertex) (b : ℕ)
          → row_offers (pen_of (aimed x y r)) rows constant (corners_of p q s u) b ≡ on_pixel x y (row_offers (pen_of r) rows constant (corners_of p q s u) b)
      row_aimed constant p q s u b =
          spans_same (λ a. pixel_offers (pen_of (aimed x y r)) rows constant (corners_of p q s u) a b) (λ a. on_pixel x y (pixel_offers (pen_of r) rows constant (corners_of p q s u) a b)) r.frame.line
          (λ a h. pixel_aimed constant p q s u a b)
          ∙ sym (at_spans (λ a. pixel_offers (pen_of r) rows constant (corners_of p q s u) a b) r.frame.line)

      turned_aimed : (constant : Bool) (p q s u : Vertex)
          → turned_offers (pen_of (aimed x y r)) rows constant (corners_of p q s u) ≡ on_pixel x y (turned_offers (pen_of r) rows constant (corners_of p q s u))
      turned_aimed constant p q s u =
          spans_same (row_offers (pen_of (aimed x y r)) rows constant (corners_of p q s u)) (λ b. on_pixel x y (row_offers (pen_of r) rows constant (corners_of p q s u) b)) rows
          (λ b h. row_aimed constant p q s u b)
          ∙ sym (at_spans (row_offers (pen_of r) rows constant (corners_of p q s u)) rows)

      triangle_aimed : (constant : Bool) (a b c : Vertex)
          → triangle_offers (pen_of (aimed x y r)) rows constant a b c ≡ on_pixel x y (triangle_offers (pen_of r) rows constant a b c)
      unfolding triangle_offers
      triangle_aimed constant a b c =
          let left = ltb (edge_at a b c.x c.y).minus (edge_at a b c.x c.y).plus in
          let right = ltb (edge_at a b c.x c.y).plus (edge_at a b c.x c.y).minus in
          let one = turned_offers (pen_of r) rows constant (corners_of a b c c) in
          let two = turned_offers (pen_of r) rows constant (corners_of a c b c) in
          at_cond left one (cond right two []) (turned_aimed constant a b c c) (at_cond right two [] (turned_aimed constant a c b c) (sym (at_nil x y)))

      -- ---- lines

      dash_aimed : (kind : Kind) (ground : Bool) (style : Style) (a b : Vertex) (k : ℕ)
          → dash_offers (pen_of (aimed x y r)) rows kind ground style a b k ≡ on_pixel x y (dash_offers (pen_of r) rows kind ground style a b k)
      unfolding dash_offers
      dash_aimed kind ground style a b k =
          let fore = offer kind (x_at a b k) (y_at a b k) style.foreground 0 in
          let back = offer kind (x_at a b k) (y_at a b k) style.background 0 in
          at_cond (is_set style k) (keep (pen_of r) rows fore) (cond ground (keep (pen_of r) rows back) []) (keep_aimed fore)
          (at_cond ground (keep (pen_of r) rows back) [] (keep_aimed back) (sym (at_nil x y)))

      from_aimed : (first : ℕ) (f g : ℕ → List Offer) (k : ℕ) → f k ≡ on_pixel x y (g k) → from first f k ≡ on_pixel x y (from first g k)
      unfolding from
      from_aimed first f g k e = at_cond (ltb k first) [] (g k) (sym (at_nil x y)) e

      step_aimed : (style : Style) (mode : Mode) (a b : Vertex) (k : ℕ)
          → step_offers (pen_of (aimed x y r)) rows style mode a b k ≡ on_pixel x y (step_offers (pen_of r) rows style mode a b k)
      unfolding shade_offers
      step_aimed style Zero a b k =
          from_aimed (first_of style.joined) (dash_offers (pen_of (aimed x y r)) rows Line0 true style a b) (dash_offers (pen_of r) rows Line0 true style a b) k (dash_aimed Line0 true style a b k)
      step_aimed style One a b k =
          from_aimed (first_of style.joined) (dash_offers (pen_of (aimed x y r)) rows Line1 false style a b) (dash_offers (pen_of r) rows Line1 false style a b) k (dash_aimed Line1 false style a b k)
      step_aimed style Two a b k = keep_aimed (offer Line2 (x_at a b k) (y_at a b k) (number_at (larger a b) k a.i b.i) (number_at (larger a b) k a.z b.z))

      segment_aimed : (style : Style) (a b : Vertex)
          → segment_offers (pen_of (aimed x y r)) rows style a b ≡ on_pixel x y (segment_offers (pen_of r) rows style a b)
      unfolding segment_offers
      segment_aimed style a b =
          spans_same (step_offers (pen_of (aimed x y r)) rows style style.mode a b) (λ k. on_pixel x y (step_offers (pen_of r) rows style style.mode a b k)) (larger a b + 1)
          (λ k h. step_aimed style style.mode a b k)
          ∙ sym (at_spans (step_offers (pen_of r) rows style style.mode a b) (larger a b + 1))

      -- ---- figures

      whole_aimed : (f : Completed) → whole_offers rows (aimed x y r) f ≡ on_pixel x y (whole_offers rows r f)
      unfolding whole_offers
      whole_aimed Nothing = sym (at_nil x y)
      whole_aimed (Triangle a b c) = triangle_aimed (is_constant r) a b c
      whole_aimed (Segment a b) = segment_aimed (style_of r) a b

      cut_aimed : (f : Completed) → is_cut (aimed x y r) f ≡ is_cut r f
      unfolding is_cut
      cut_aimed Nothing = refl
      cut_aimed (Triangle a b c) = refl
      cut_aimed (Segment a b) = refl

      -- what a figure offers with the window narrowed is what it offers at (x, y)
      pub offers_aimed : (f : Completed) → figure_offers rows (aimed x y r) f ≡ on_pixel x y (figure_offers rows r f)
      unfolding figure_offers
      offers_aimed f = rw (cut_aimed f) (at_cond (is_cut r f) [] (whole_offers rows r f) (sym (at_nil x y)) (whole_aimed f))

    module _ (f : Completed) (i z : List ℕ) where
      -- so what is counted are those of a figure's offers at (x, y) that pass
      pub passes_there : passes_at x y r f i z
          ≡ (drawn (pen_of (aimed x y r)) (on_pixel x y (figure_offers (rows_of r.frame (length i) (length z)) r f)) (picture i z 0)).passed
      unfolding passes_at
      passes_there =
          ap (λ (os : List Offer). (drawn (pen_of (aimed x y r)) os (picture i z 0)).passed) (offers_aimed (rows_of r.frame (length i) (length z)) f)

      -- ---- a drawing with such registers

      module _ {q : Registers} {i' z' : List ℕ} {n : ℕ} (is : q ≡ aimed x y r)
          (drew : picture i' z' n ≡ drawn (pen_of q) (figure_offers (rows_of q.frame (length i) (length z)) q f) (picture i z 0)) where
        aimed_drew : picture i' z' n
            ≡ drawn (pen_of (aimed x y r)) (figure_offers (rows_of r.frame (length i) (length z)) (aimed x y r) f) (picture i z 0)
        aimed_drew = drew ∙ ap (λ (s : Registers). drawn (pen_of s) (figure_offers (rows_of s.frame (length i) (length z)) s f) (picture i z 0)) is

        -- what such a drawing counts as passed is how many pixels of the figure pass at (x, y)
        pub aimed_count : n ≡ passes_at x y r f i z
        unfolding passes_at
        aimed_count = ap (λ (p : Picture). p.passed) aimed_drew

        -- such a drawing leaves the I memory as it was
        pub aimed_i : i' ≡ i
        aimed_i = ap (λ (p : Picture). p.i) aimed_drew ∙ drawn_leaves_i (pen_of (aimed x y r)) _ (picture i z 0) refl

        -- and it leaves the Z memory as it was
        pub aimed_z : z' ≡ z
        aimed_z = ap (λ (p : Picture). p.z) aimed_drew ∙ drawn_leaves_z (pen_of (aimed x y r)) _ (picture i z 0) refl
