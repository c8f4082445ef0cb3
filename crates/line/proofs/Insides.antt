-- Why no step of a segment asks whether it is offered, where both ends are inside the window and the rows in use: these are boxes, and no step
-- leaves the box between the two ends. A unit asks about its columns alone. Assumes nothing.
use Rattle.std.proofs.Common.{◌≡◌, ℕ, ◌+◌, ◌-◌, ◌<◌, ◌≤◌, min, max, Bool, true, false, cond, not, ◌&&◌, ◌||◌, Option, Some, None, eqb, ltb, leb, sym, refl, ap, ◌∙◌, true≢false, arith, ltb-true, lt-ltb, eqb-true, leb-false, leb-true}
use Rattle.picture.specs.declared.Frame.{Frame}
use Rattle.picture.specs.declared.Pen.{Pen}
use Rattle.picture.specs.declared.Vertex.{Vertex}
use Rattle.picture.specs.declared.Kind.{Kind}
use Rattle.picture.specs.Place.{lies_plain, lies_tiled, layout_of, rows_of, is_whole, mine, in_memory}
use Rattle.picture.specs.Offer.{offer, in_window, offered, lets_through, is_masked, shows}
use Rattle.ground.proofs.Truth.{both}
use Rattle.picture.proofs.Places.{rows_whole, plain_mine, tiled_mine}
use Rattle.picture.proofs.Offers.{window_in, window_of}
use Rattle.picture.proofs.Rows.{shows_all}
use Rattle.line.specs.declared.slope.Slope.{Slope}
use Rattle.line.specs.Segment.{distance, towards, larger, side_at, x_at, y_at}
use Rattle.line.specs.Step.{slope_of, OnStep}
use Rattle.line.specs.Field.{is_open, lies_whole, direct_rows, in_field, AllOffered}
use Rattle.line.proofs.Steps.{Lands, lands_level, lands_steep}

-- ---- the box between two points

-- no further than the distance is between the two
towards_between : (from to far : ℕ) → far ≤ distance from to → (min from to ≤ towards from to far) × (towards from to far ≤ max from to)
towards_between from to far h = go (leb from to) refl
  where
    go : (t : Bool) → leb from to ≡ t → (min from to ≤ cond t (from + far) (from - far)) × (cond t (from + far) (from - far) ≤ max from to)
    go true e = let u = leb-true from to e in (omega arith, omega arith)
    go false e = let u = leb-false from to e in (omega arith, omega arith)

-- where step k is, by the slope
lands : (a b : Vertex) (s : Slope) (k : ℕ) → OnStep a b s k → (across : ℕ) × (up : ℕ) × Lands a b k across up
lands a b s k h = go s.level refl
  where
    go : (t : Bool) → s.level ≡ t → (across : ℕ) × (up : ℕ) × Lands a b k across up
    go true e = (k, side_at s.n s.m k, lands_level a b s k _ h refl e)
    go false e = (side_at s.n s.m k, k, lands_steep a b s k _ h refl e)

-- no step leaves the box between the two ends: neither of its coordinates is above both of theirs
pub step_low : (a b : Vertex) (k : ℕ) → k ≤ larger a b → (x_at a b k ≤ max a.x b.x) × (y_at a b k ≤ max a.y b.y)
step_low a b k h =
    let l = lands a b (slope_of a b) k (record { slope = refl; step = h }) in
    (rw (← l.2.x) (towards_between a.x b.x l.0 l.2.across_fits).1, rw (← l.2.y) (towards_between a.y b.y l.1 l.2.up_fits).1)

-- ---- a field where nothing but the window and the memory is asked

-- where the transparency pattern hides nothing it shows each pixel
open_shown : (pen : Pen) (kind : Kind) → is_open pen kind ≡ true → (x y : ℕ) → lets_through pen kind x y ≡ true
open_shown pen kind h x y = go (not (is_masked kind)) h
  where
    go : (m : Bool) → m || eqb pen.transparency 65535 ≡ true → m || shows pen x y ≡ true
    go true e = refl
    go false e = shows_all pen x y (eqb-true _ _ e)

-- inside the window and the rows in use, a column that the memory has is offered
pub open_offered : (pen : Pen) (rows : ℕ) (kind : Kind) (x y : ℕ) → is_open pen kind ≡ true
    → offered pen rows (offer kind x y 0 0) ≡ in_field pen rows x y && mine (layout_of pen.frame) x
unfolding offered in_memory in_field
open_offered pen rows kind x y h =
    rw (open_shown pen kind h x y) (go (in_window pen x y) (ltb x pen.frame.line) (ltb y rows) (mine (layout_of pen.frame) x))
  where
    go : (p q r m : Bool) → p && (q && r && m) && true ≡ p && (q && r) && m
    go true true true true = refl
    go true true true false = refl
    go true true false m = refl
    go true false r m = refl
    go false q r m = refl

-- rows and tiles have every column
pub whole_mine : (frame : Frame) (x : ℕ) → lies_whole frame ≡ true → mine (layout_of frame) x ≡ true
whole_mine frame x h = go (lies_plain frame) refl h
  where
    go : (t : Bool) → lies_plain frame ≡ t → t || lies_tiled frame ≡ true → mine (layout_of frame) x ≡ true
    go true e l = plain_mine frame x e
    go false e l = tiled_mine frame x l

-- so where the memory has every column and the pattern hides nothing, a pixel is offered just where it is inside window, line and rows in use
pub direct_offered : (pen : Pen) (rows : ℕ) (kind : Kind) (x y : ℕ) → lies_whole pen.frame && is_open pen kind ≡ true
    → offered pen rows (offer kind x y 0 0) ≡ in_field pen rows x y
direct_offered pen rows kind x y h =
    let u = both (lies_whole pen.frame) (is_open pen kind) h in
    open_offered pen rows kind x y u.1 ∙ rw (whole_mine pen.frame x u.0) (go (in_field pen rows x y))
  where
    go : (t : Bool) → t && true ≡ t
    go true = refl
    go false = refl

-- by what was computed: where rows are told, they are those in use
pub told_offered : (pen : Pen) (rows : ℕ) (kind : Kind) (x y : ℕ) {told : ℕ} {t : Bool} → Some told ≡ direct_rows pen kind rows
    → t ≡ in_field pen told x y → offered pen rows (offer kind x y 0 0) ≡ t
told_offered pen rows kind x y {told} {t} e w = go (lies_whole pen.frame && is_open pen kind) refl e
  where
    told_or : Option ℕ → ℕ
    told_or (Some n) = n
    told_or None = rows

    is_some : Option ℕ → Bool
    is_some (Some n) = true
    is_some None = false

    go : (d : Bool) → lies_whole pen.frame && is_open pen kind ≡ d → Some told ≡ cond d (Some rows) None → offered pen rows (offer kind x y 0 0) ≡ t
    go true h e = direct_offered pen rows kind x y h ∙ sym (w ∙ ap (λ (o : Option ℕ). in_field pen (told_or o) x y) e)
    go false h e = absurd (true≢false (ap is_some e))

-- ---- a segment whose ends are inside

-- what lies between two pixels that are inside the window and the memory is inside
within_box : (pen : Pen) (rows ax ay bx by x y : ℕ) → in_field pen rows ax ay ≡ true → in_field pen rows bx by ≡ true
    → min ax bx ≤ x → x ≤ max ax bx → min ay by ≤ y → y ≤ max ay by → in_field pen rows x y ≡ true
unfolding in_field
within_box pen rows ax ay bx by x y p q l r b t =
    let v = parts ax ay p in
    let w = parts bx by q in
    rw (
      window_in pen x y (omega (arith, v.0, w.0)) (omega (arith, v.1, w.1)) (omega (arith, v.2, w.2)) (omega (arith, v.3, w.3)),
      lt-ltb x pen.frame.line (omega (arith, v.4, w.4)),
      lt-ltb y rows (omega (arith, v.5, w.5)),
    )
  where
    parts : (cx cy : ℕ) → in_window pen cx cy && (ltb cx pen.frame.line && ltb cy rows) ≡ true
        → (pen.left ≤ cx) × (cx ≤ pen.right) × (pen.bottom ≤ cy) × (cy ≤ pen.top) × (cx < pen.frame.line) × (cy < rows)
    parts cx cy e =
        let m = both (in_window pen cx cy) (ltb cx pen.frame.line && ltb cy rows) e in
        let k = both (ltb cx pen.frame.line) (ltb cy rows) m.1 in
        let w = window_of pen cx cy m.0 in
        (w.0, w.1, w.2, w.3, ltb-true _ _ k.0, ltb-true _ _ k.1)

module _ (pen : Pen) (rows : ℕ) (kind : Kind) (a b : Vertex) where
  -- each step of it is inside
  step_within : (s : Slope) (k : ℕ) → OnStep a b s k → AllOffered pen rows kind a b → in_field pen rows (x_at a b k) (y_at a b k) ≡ true
  step_within s k h i =
      let l = lands a b s k h in
      let x = towards_between a.x b.x l.0 l.2.across_fits in
      let y = towards_between a.y b.y l.1 l.2.up_fits in
      let ends = both (in_field pen rows a.x a.y) (in_field pen rows b.x b.y) i.ends in
      rw (← l.2.x, ← l.2.y) (within_box pen rows a.x a.y b.x b.y _ _ ends.0 ends.1 x.0 x.1 y.0 y.1)

  -- so that it is offered where the memory has its column
  pub step_offered : (s : Slope) (k : ℕ) → OnStep a b s k → AllOffered pen rows kind a b
      → offered pen rows (offer kind (x_at a b k) (y_at a b k) 0 0) ≡ mine (layout_of pen.frame) (x_at a b k)
  step_offered s k h i = open_offered pen rows kind (x_at a b k) (y_at a b k) i.clear ∙ rw (step_within s k h i)

-- its line length suits the layout
pub inside_whole : (pen : Pen) (ni nz : ℕ) (kind : Kind) (a b : Vertex) → AllOffered pen (rows_of pen.frame ni nz) kind a b
    → is_whole (layout_of pen.frame) pen.frame.line ≡ true
unfolding in_field
inside_whole pen ni nz kind a b i =
    let rows = rows_of pen.frame ni nz in
    let first = (both (in_field pen rows a.x a.y) (in_field pen rows b.x b.y) i.ends).0 in
    let memory = (both (in_window pen a.x a.y) (ltb a.x pen.frame.line && ltb a.y rows) first).1 in
    rows_whole pen.frame ni nz a.y (ltb-true _ _ (both (ltb a.x pen.frame.line) (ltb a.y rows) memory).1)
