-- A word in another layout (document 02, [8] and [9]): where as many rows are in use it offers, and stores, what it does over rows, of the columns that
-- the layout has. Assumes nothing.
use Rattle.std.proofs.Common.{◌≡◌, ℕ, ◌+◌, Bool, true, false, cond, ◌&&◌, ltb, List, [], ◌∷◌, sym, refl, ap, ◌∙◌, ap₂, true≢false}
use Rattle.picture.specs.declared.Kind.{Kind}
use Rattle.picture.specs.declared.Vertex.{Vertex}
use Rattle.picture.specs.Place.{Layout, frame_of, layout_of, mine, in_memory}
use Rattle.picture.specs.Offer.{Offer, offer, lets_through, in_window, shows, offered, keep}
use Rattle.picture.specs.Picture.{passes, new_i, new_z}
use Rattle.picture.specs.Cell.{offer_leaves as cell_after}
use Rattle.picture.specs.Store.{Store, stored_i, stored_z, storable, after_store}
use Rattle.picture.proofs.Places.{plain_mine}
use Rattle.picture.proofs.Spans.{spans_same}
use Rattle.triangle.specs.Edge.{edge_at, covers}
use Rattle.triangle.specs.Offers.{pixel_at, pixel_offers, row_offers, turned_offers, corners_of, triangle_offers}
use Rattle.line.specs.declared.Mode.{Mode}
use Rattle.line.specs.declared.Mode.TheVariants.{Zero, One, Two}
use Rattle.line.specs.declared.Style.{Style}
use Rattle.line.specs.Segment.{larger, x_at, y_at, is_set, first_of, from, dash_offers, shade_offers, step_offers, segment_offers}
use Rattle.registers.specs.declared.Registers.{Registers}
use Rattle.registers.specs.declared.word.Word.{Word}
use Rattle.registers.specs.declared.word.Word.TheVariants.{Init, Aux, Parm, At, Img, Ptrn, Reserved, Unmodelled, Unknown}
use Rattle.registers.specs.declared.shape.Completed.{Completed}
use Rattle.registers.specs.declared.shape.Completed.TheVariants.{Nothing, Triangle, Segment}
use Rattle.registers.specs.Record.{laid}
use Rattle.registers.specs.Next.{completed_by, pen_of}
use Rattle.registers.proofs.Layouts.{completed_laid}
use Rattle.machine.specs.Shares.{held_by, stores_held_by}
use Rattle.machine.proofs.Pixels.{Twins}
use Rattle.machine.proofs.Shares.{held_spans}
use Rattle.chip.specs.Chip.{is_constant, style_of, whole_offers, is_cut, figure_offers, word_stores, chip}

-- the pen does the same with an offer, and with a store
pub pens_laid : (k : ℕ) (r : Registers) → Twins (pen_of (laid k r)) (pen_of (laid 0 r))
unfolding passes new_i new_z cell_after after_store stored_i stored_z
pens_laid k r = record { pass = λ kind z old. refl; leave = λ c o. refl; store = λ c s. refl }

module _ (k rows : ℕ) (r : Registers) where
  abbrev own : Layout
  own = layout_of (frame_of r.frame.line k)

  -- rows have every column
  rows_mine : (x : ℕ) → mine (layout_of (frame_of r.frame.line 0)) x ≡ true
  rows_mine x = plain_mine (frame_of r.frame.line 0) x refl

  -- ---- a pixel

  offered_laid : (o : Offer) → offered (pen_of (laid k r)) rows o ≡ offered (pen_of (laid 0 r)) rows o && mine own o.x
  unfolding offered in_memory in_window shows
  offered_laid o =
      go (in_window (pen_of r) o.x o.y) (ltb o.x r.frame.line && ltb o.y rows) (mine own o.x) (lets_through (pen_of r) o.kind o.x o.y)
      (mine (layout_of (frame_of r.frame.line 0)) o.x) (rows_mine o.x)
    where
      go : (w t m s every : Bool) → every ≡ true → w && (t && m) && s ≡ w && (t && every) && s && m
      go w t m s false e = absurd (true≢false (sym e))
      go false t m s true e = refl
      go true false m s true e = refl
      go true true true true true e = refl
      go true true true false true e = refl
      go true true false true true e = refl
      go true true false false true e = refl

  keep_laid : (o : Offer) → keep (pen_of (laid k r)) rows o ≡ held_by own (keep (pen_of (laid 0 r)) rows o)
  unfolding keep held_by
  keep_laid o = ap (λ (t : Bool). cond t (o ∷ []) []) (offered_laid o) ∙ go (offered (pen_of (laid 0 r)) rows o)
    where
      go : (t : Bool) → cond (t && mine own o.x) (o ∷ []) [] ≡ held_by own (cond t (o ∷ []) [])
      go true = refl
      go false = refl

  within_laid : (s : Store) → storable (pen_of (laid k r)) rows s ≡ stores_held_by own (storable (pen_of (laid 0 r)) rows s)
  unfolding storable in_memory stores_held_by
  within_laid s =
      go (ltb s.x r.frame.line && ltb s.y rows) (mine (layout_of (frame_of r.frame.line 0)) s.x) (rows_mine s.x)
    where
      go : (t every : Bool) → every ≡ true → cond (t && mine own s.x) (s ∷ []) [] ≡ stores_held_by own (cond (t && every) (s ∷ []) [])
      go t false e = absurd (true≢false (sym e))
      go true true e = refl
      go false true e = refl

  -- ---- a triangle

  module _ (constant : Bool) (a b c last : Vertex) where
    pixel_laid : (x y : ℕ) → pixel_offers (pen_of (laid k r)) rows constant (corners_of a b c last) x y ≡ held_by own (pixel_offers (pen_of (laid 0 r)) rows constant (corners_of a b c last) x y)
    unfolding pixel_offers held_by
    pixel_laid x y = go (covers (corners_of a b c last) x y)
      where
        go : (t : Bool)
            → cond t (keep (pen_of (laid k r)) rows (pixel_at constant (corners_of a b c last) x y)) []
            ≡ held_by own (cond t (keep (pen_of (laid 0 r)) rows (pixel_at constant (corners_of a b c last) x y)) [])
        go true = keep_laid (pixel_at constant (corners_of a b c last) x y)
        go false = refl

    row_laid : (y : ℕ) → row_offers (pen_of (laid k r)) rows constant (corners_of a b c last) y ≡ held_by own (row_offers (pen_of (laid 0 r)) rows constant (corners_of a b c last) y)
    row_laid y =
        spans_same (λ x. pixel_offers (pen_of (laid k r)) rows constant (corners_of a b c last) x y) (λ x. held_by own (pixel_offers (pen_of (laid 0 r)) rows constant (corners_of a b c last) x y)) r.frame.line
        (λ x l. pixel_laid x y)
        ∙ sym (held_spans own (λ x. pixel_offers (pen_of (laid 0 r)) rows constant (corners_of a b c last) x y) r.frame.line)

    turned_laid : turned_offers (pen_of (laid k r)) rows constant (corners_of a b c last) ≡ held_by own (turned_offers (pen_of (laid 0 r)) rows constant (corners_of a b c last))
    turned_laid =
        spans_same (row_offers (pen_of (laid k r)) rows constant (corners_of a b c last)) (λ y. held_by own (row_offers (pen_of (laid 0 r)) rows constant (corners_of a b c last) y)) rows (λ y l. row_laid y)
        ∙ sym (held_spans own (row_offers (pen_of (laid 0 r)) rows constant (corners_of a b c last)) rows)

  triangle_laid : (constant : Bool) (a b c : Vertex) → triangle_offers (pen_of (laid k r)) rows constant a b c ≡ held_by own (triangle_offers (pen_of (laid 0 r)) rows constant a b c)
  unfolding triangle_offers held_by
  triangle_laid constant a b c =
      go (ltb (edge_at a b c.x c.y).minus (edge_at a b c.x c.y).plus) (ltb (edge_at a b c.x c.y).plus (edge_at a b c.x c.y).minus)
    where
      go : (s t : Bool)
          → cond s (turned_offers (pen_of (laid k r)) rows constant (corners_of a b c c)) (cond t (turned_offers (pen_of (laid k r)) rows constant (corners_of a c b c)) [])
          ≡ held_by own (cond s (turned_offers (pen_of (laid 0 r)) rows constant (corners_of a b c c)) (cond t (turned_offers (pen_of (laid 0 r)) rows constant (corners_of a c b c)) []))
      go true t = turned_laid constant a b c c
      go false true = turned_laid constant a c b c
      go false false = refl

  -- ---- a segment

  dash_laid : (kind : Kind) (ground : Bool) (style : Style) (a b : Vertex) (j : ℕ)
      → dash_offers (pen_of (laid k r)) rows kind ground style a b j ≡ held_by own (dash_offers (pen_of (laid 0 r)) rows kind ground style a b j)
  unfolding dash_offers held_by
  dash_laid kind ground style a b j =
      go (is_set style j) ground (offer kind (x_at a b j) (y_at a b j) style.foreground 0) (offer kind (x_at a b j) (y_at a b j) style.background 0)
    where
      go : (s t : Bool) (p q : Offer)
          → cond s (keep (pen_of (laid k r)) rows p) (cond t (keep (pen_of (laid k r)) rows q) [])
          ≡ held_by own (cond s (keep (pen_of (laid 0 r)) rows p) (cond t (keep (pen_of (laid 0 r)) rows q) []))
      go true t p q = keep_laid p
      go false true p q = keep_laid q
      go false false p q = refl

  shade_laid : (a b : Vertex) (j : ℕ) → shade_offers (pen_of (laid k r)) rows a b j ≡ held_by own (shade_offers (pen_of (laid 0 r)) rows a b j)
  unfolding shade_offers
  shade_laid a b j = keep_laid _

  from_laid : (first : ℕ) (f g : ℕ → List Offer) → ((j : ℕ) → f j ≡ held_by own (g j)) → (j : ℕ) → from first f j ≡ held_by own (from first g j)
  unfolding from held_by
  from_laid first f g h j = go (ltb j first)
    where
      go : (t : Bool) → cond t [] (f j) ≡ held_by own (cond t [] (g j))
      go true = refl
      go false = h j

  step_laid : (m : Mode) (style : Style) (a b : Vertex) (j : ℕ) → step_offers (pen_of (laid k r)) rows style m a b j ≡ held_by own (step_offers (pen_of (laid 0 r)) rows style m a b j)
  step_laid Zero style a b j = from_laid (first_of style.joined) _ _ (dash_laid _ _ style a b) j
  step_laid One style a b j = from_laid (first_of style.joined) _ _ (dash_laid _ _ style a b) j
  step_laid Two style a b j = shade_laid a b j

  segment_laid : (style : Style) (a b : Vertex) → segment_offers (pen_of (laid k r)) rows style a b ≡ held_by own (segment_offers (pen_of (laid 0 r)) rows style a b)
  unfolding segment_offers
  segment_laid style a b =
      spans_same (step_offers (pen_of (laid k r)) rows style style.mode a b) (λ j. held_by own (step_offers (pen_of (laid 0 r)) rows style style.mode a b j)) (larger a b + 1)
      (λ j l. step_laid style.mode style a b j)
      ∙ sym (held_spans own (step_offers (pen_of (laid 0 r)) rows style style.mode a b) (larger a b + 1))

  -- ---- a word

  whole_laid : (f : Completed) → whole_offers rows (laid k r) f ≡ held_by own (whole_offers rows (laid 0 r) f)
  unfolding whole_offers held_by
  whole_laid Nothing = refl
  whole_laid (Triangle a b c) = triangle_laid (is_constant r) a b c
  whole_laid (Segment a b) = segment_laid (style_of r) a b

  cut_laid : (f : Completed) → is_cut (laid k r) f ≡ is_cut (laid 0 r) f
  unfolding is_cut
  cut_laid Nothing = refl
  cut_laid (Triangle a b c) = refl
  cut_laid (Segment a b) = refl

  figure_laid : (f : Completed) → figure_offers rows (laid k r) f ≡ held_by own (figure_offers rows (laid 0 r) f)
  unfolding figure_offers held_by
  figure_laid f = ap₂ (λ (b : Bool) (os : List Offer). cond b [] os) (cut_laid f) (whole_laid f) ∙ go (is_cut (laid 0 r) f)
    where
      go : (b : Bool) → cond b [] (held_by own (whole_offers rows (laid 0 r) f)) ≡ held_by own (cond b [] (whole_offers rows (laid 0 r) f))
      go true = refl
      go false = refl

  -- what it offers
  pub offers_laid : (w : Word) → chip.offers rows (laid k r) w ≡ held_by own (chip.offers rows (laid 0 r) w)
  offers_laid w = ap (figure_offers rows (laid k r)) (completed_laid k r w ∙ sym (completed_laid 0 r w)) ∙ figure_laid (completed_by (laid 0 r) w)

  -- and what it stores
  pub stores_laid : (w : Word) → chip.stores rows (laid k r) w ≡ stores_held_by own (chip.stores rows (laid 0 r) w)
  unfolding word_stores stores_held_by
  stores_laid (Init d) = refl
  stores_laid (Aux n) = refl
  stores_laid (Parm v) = refl
  stores_laid (At c n) = refl
  stores_laid (Img d) = refl
  stores_laid (Ptrn v) = within_laid _
  stores_laid Reserved = refl
  stores_laid Unmodelled = refl
  stores_laid Unknown = refl
