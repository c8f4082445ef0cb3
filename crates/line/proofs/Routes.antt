-- How a walk goes on along its route: what a way asks of a spot is whether its pixel is offered, and where it is, the place of the spot is the pixel's; a walk
-- of several steps at once stands where the single steps would, and what it leaves out is none of the unit's. Assumes nothing.
use Rattle.std.proofs.Common.{◌≡◌, ℕ, ◌+◌, ◌-◌, ◌*◌, ◌%◌, ◌^◌, ◌<◌, ◌≤◌, Bool, true, false, cond, eqb, ltb, [], sym, refl, ap, ◌∙◌, ap₂, add_assoc, arith}
use native.Mathlib.Nat.{mod-add-mod, add-mod-mod}
use Rattle.picture.specs.declared.Frame.{Frame}
use Rattle.picture.specs.declared.Pen.{Pen}
use Rattle.picture.specs.declared.Vertex.{Vertex}
use Rattle.picture.specs.Place.{lies_plain, lies_tiled, layout_of, rows_of, place_of, mine}
use Rattle.picture.specs.Offer.{offer, offered}
use Rattle.picture.proofs.Places.{plain_mine, tiled_mine, place_plain, place_tiled}
use Rattle.line.specs.declared.Mode.{Mode}
use Rattle.line.specs.declared.Style.{Style}
use Rattle.line.specs.declared.part.Part.{Part}
use Rattle.line.specs.declared.slope.Slope.{Slope}
use Rattle.line.specs.declared.walk.Walk.{Walk}
use Rattle.line.specs.declared.walk.Step.{Step}
use Rattle.line.specs.declared.route.Route.{Route}
use Rattle.line.specs.declared.route.Way.{Way}
use Rattle.line.specs.declared.route.Way.TheVariants.{Rows, Tiles, Shares, Asked}
use Rattle.line.specs.Segment.{kind_of, x_at, y_at, step_offers}
use Rattle.line.specs.Step.{OnStep}
use Rattle.line.specs.Course.{spot_at}
use Rattle.line.specs.Part.{part, part_of, has_place}
use Rattle.line.specs.Walk.{Stands, twice_of, next_of}
use Rattle.line.specs.Field.{ends_within, AllOffered}
use Rattle.line.specs.Route.{lies_of, way_of, spot_width, column_of, row_of, is_here, placed_at, far_of, onward_of, Goes, Traces}
use Rattle.line.proofs.Steps.{steps_apart}
use Rattle.line.proofs.Insides.{step_offered, step_low, direct_offered, inside_whole}
use Rattle.line.proofs.Parts.{part_mine, part_place, part_between}
use Rattle.line.proofs.Loops.{stands_next, hidden_step}

-- ---- the ways

-- each of the four, with what it says of the layout and of the ends
pub data Known (frame : Frame) (inside : Bool) (way : Way) : Type 0 where
  in_rows : way ≡ Rows → inside ≡ true → lies_plain frame ≡ true → Known frame inside way
  in-tiles : way ≡ Tiles → inside ≡ true → lies_tiled frame ≡ true → Known frame inside way
  in-shares : way ≡ Shares → inside ≡ true → lies_plain frame ≡ false → lies_tiled frame ≡ false → Known frame inside way
  in-asked : way ≡ Asked → lies_plain frame ≡ true → Known frame inside way

-- a way is one of them
pub way_known : (pen : Pen) (rows : ℕ) (style : Style) (way : Way) (a b : Vertex) → Goes pen rows style way a b → Known pen.frame (ends_within pen rows a b) way
unfolding way_of lies_of
way_known pen rows style way a b h = go (ends_within pen rows a b) refl (lies_plain pen.frame) refl (lies_tiled pen.frame) refl h.so
  where
    go : (i : Bool) → ends_within pen rows a b ≡ i → (p : Bool) → lies_plain pen.frame ≡ p → (t : Bool) → lies_tiled pen.frame ≡ t
        → way ≡ cond i (cond p Rows (cond t Tiles Shares)) Asked → Known pen.frame (ends_within pen rows a b) way
    go true i true p t l e = in_rows e i p
    go true i false p true t e = in-tiles e i t
    go true i false p false t e = in-shares e i p t
    go false i p q t l e = in-asked e (h.plain i)

spot_column : (x y : ℕ) → x ≤ 65535 → column_of (y * 65536 + x) ≡ x
spot_column x y h = omega (arith, h)

spot_row : (x y : ℕ) → x ≤ 65535 → y ≤ 65535 → row_of (y * 65536 + x) ≡ y
spot_row x y h k = omega (arith, h, k)

-- ---- several steps at once

-- twice as many stand where two do
twice_sum : (m a : ℕ) → (m + (a + a) % 2 ^ 64) % 2 ^ 64 ≡ ((m + a) % 2 ^ 64 + a) % 2 ^ 64
twice_sum m a = add-mod-mod m (a + a) (2 ^ 64) ∙ ap (λ (n : ℕ). n % 2 ^ 64) (sym (add_assoc m a a)) ∙ sym (mod-add-mod (m + a) (2 ^ 64) a)

twice_next : (w : Walk) (p : Step) → next_of (twice_of w) p ≡ next_of w (next_of w p)
twice_next w p = rw (twice_sum p.side w.side.add, twice_sum p.i w.i.add, twice_sum p.z w.z.add, add_assoc p.k w.stride w.stride)

module _ (w : Walk) (single : w.stride ≡ 1) where
  stands_twice : (p : Step) → Stands w p → Stands w (next_of (twice_of w) p)
  stands_twice p h = rw (twice_next w p) (stands_next w (next_of w p) single (stands_next w p single h))

  stands_far : (part : Part) (s : Slope) (p : Step) → Stands w p → Stands w (next_of (far_of part s w) p)
  unfolding far_of
  stands_far part s p h = go s.level (eqb part.shift 1)
    where
      go : (t u : Bool) → Stands w (next_of (cond t (cond u (twice_of w) (twice_of (twice_of w))) w) p)
      go true true = stands_twice p h
      go true false = rw (twice_next (twice_of w) p) (stands_twice (next_of (twice_of w) p) (stands_twice p h))
      go false u = stands_next w p single h

  far_short : (part : Part) (s : Slope) → s.level ≡ false → (far_of part s w).stride ≡ 1
  unfolding far_of
  far_short part s e = rw (e, single)

  far_long : (frame : Frame) (s : Slope) → s.level ≡ true → (far_of (part_of frame) s w).stride ≡ 2 ^ (part_of frame).shift
  unfolding far_of part_of
  far_long frame s e = rw e (go (ltb frame.layout 4))
    where
      go : (t : Bool)
          → let p = cond t (part 1 1 (frame.layout % 2)) (part 2 3 (frame.layout % 4)) in
          (cond (eqb p.shift 1) (twice_of w) (twice_of (twice_of w))).stride ≡ 2 ^ p.shift
      go true = rw single
      go false = rw single

  -- a few
  pub far_few : (part : Part) (s : Slope) → (1 ≤ (far_of part s w).stride) × ((far_of part s w).stride ≤ 4)
  unfolding far_of
  far_few part s = go s.level (eqb part.shift 1)
    where
      go : (t u : Bool) → (1 ≤ (cond t (cond u (twice_of w) (twice_of (twice_of w))) w).stride) × ((cond t (cond u (twice_of w) (twice_of (twice_of w))) w).stride ≤ 4)
      go true true = (omega (arith, single), omega (arith, single))
      go true false = (omega (arith, single), omega (arith, single))
      go false u = (omega (arith, single), omega (arith, single))

-- ---- the next step

-- where p goes on to r nothing is offered between the two
pub record Onward (near : Walk) (p r : Step) (none : ℕ → Type 0) : Type 0 where
  pub stands : Stands near r
  pub further : p.k < r.k
  pub between : (j : ℕ) → p.k < j → j < r.k → none j

-- the coordinates of both ends are 16-bit numbers
pub record Low (a b : Vertex) : Type 0 where
  pub ax : a.x ≤ 65535
  pub ay : a.y ≤ 65535
  pub bx : b.x ≤ 65535
  pub by : b.y ≤ 65535

module _ (pen : Pen) (ni nz : ℕ) (style : Style) (mode : Mode) (way : Way) (r : Route) (h : Traces pen (rows_of pen.frame ni nz) style mode way r) where
  abbrev a : Vertex
  a = r.slope.a

  abbrev b : Vertex
  b = r.slope.b

  abbrev rows_in_use : ℕ
  rows_in_use = rows_of pen.frame ni nz

  abbrev spot : ℕ → ℕ
  spot k = spot_at r.course.width a b k

  known : Known pen.frame (ends_within pen rows_in_use a b) way
  known = way_known pen rows_in_use style way a b h.goes

  all_offered : ends_within pen rows_in_use a b ≡ true → AllOffered pen rows_in_use (kind_of style.mode) a b
  all_offered i = record { ends = i; clear = h.goes.clear }

  -- a spot in a picture of rows, and one from which column and row are read
  spot_line : (k : ℕ) → spot_width way pen.frame ≡ pen.frame.line → spot k ≡ y_at a b k * pen.frame.line + x_at a b k
  spot_line k e = ap (λ (w : ℕ). y_at a b k * w + x_at a b k) (h.route.wide ∙ e)

  spot_read : (k : ℕ) → OnStep a b r.slope k → Low a b → spot_width way pen.frame ≡ 65536 → (column_of (spot k) ≡ x_at a b k) × (row_of (spot k) ≡ y_at a b k)
  spot_read k on l e =
      let low = step_low a b k (rw on.slope at on.step) in
      let is = ap (λ (w : ℕ). y_at a b k * w + x_at a b k) (h.route.wide ∙ e) in
      let x : x_at a b k ≤ 65535 = omega (arith, low.0, l.ax, l.bx) in
      let y : y_at a b k ≤ 65535 = omega (arith, low.1, l.ay, l.by) in
      (ap column_of is ∙ spot_column (x_at a b k) (y_at a b k) x, ap row_of is ∙ spot_row (x_at a b k) (y_at a b k) x y)

  -- a unit has a step where it has its column
  own_mine : (k : ℕ) → way ≡ Shares → ends_within pen rows_in_use a b ≡ true → lies_plain pen.frame ≡ false → lies_tiled pen.frame ≡ false
      → has_place r.part (spot k) ≡ mine (layout_of pen.frame) (x_at a b k)
  own_mine k e i p t =
      ap₂ has_place h.route.shared (spot_line k (ap (λ (w : Way). spot_width w pen.frame) e))
      ∙ part_mine pen.frame p t (x_at a b k) (y_at a b k) (inside_whole pen ni nz (kind_of style.mode) a b (all_offered i))

  -- where both ends are inside, a step is offered whose column the memory has
  inside_offered : (k : ℕ) → OnStep a b r.slope k → ends_within pen rows_in_use a b ≡ true
      → offered pen rows_in_use (offer (kind_of style.mode) (x_at a b k) (y_at a b k) 0 0) ≡ mine (layout_of pen.frame) (x_at a b k)
  inside_offered k on i = step_offered pen rows_in_use (kind_of style.mode) a b r.slope k on (all_offered i)

  -- what a way asks of a step's spot is whether the step is offered
  pub step_here : (k : ℕ) → OnStep a b r.slope k → Low a b
      → offered pen rows_in_use (offer (kind_of style.mode) (x_at a b k) (y_at a b k) 0 0) ≡ is_here pen r.rows way r.part (spot k)
  step_here k on l = go known
    where
      go : Known pen.frame (ends_within pen rows_in_use a b) way
          → offered pen rows_in_use (offer (kind_of style.mode) (x_at a b k) (y_at a b k) 0 0)
          ≡ is_here pen r.rows way r.part (spot k)
      go (in_rows e i p) = rw (e, inside_offered k on i) (plain_mine pen.frame (x_at a b k) p)
      go (in-tiles e i t) = rw (e, inside_offered k on i) (tiled_mine pen.frame (x_at a b k) t)
      go (in-shares e i p t) = inside_offered k on i ∙ sym (own_mine k e i p t) ∙ rw e
      go (in-asked e p) =
          let at = spot_read k on l (ap (λ (w : Way). spot_width w pen.frame) e) in
          direct_offered pen rows_in_use (kind_of style.mode) (x_at a b k) (y_at a b k) (rw (p, h.goes.clear)) ∙ rw (e, h.route.limited, at.0, at.1)

  -- and its place is the pixel's
  pub step_placed : (k : ℕ) → OnStep a b r.slope k → Low a b → placed_at pen.frame way r.part (spot k) ≡ place_of pen.frame (x_at a b k) (y_at a b k)
  step_placed k on l = go known
    where
      go : Known pen.frame (ends_within pen rows_in_use a b) way → placed_at pen.frame way r.part (spot k) ≡ place_of pen.frame (x_at a b k) (y_at a b k)
      go (in_rows e i p) = rw e (spot_line k (ap (λ (w : Way). spot_width w pen.frame) e) ∙ sym (place_plain pen.frame (x_at a b k) (y_at a b k) p))
      go (in-tiles e i t) =
          let at = spot_read k on l (ap (λ (w : Way). spot_width w pen.frame) e) in
          rw (e, at.0, at.1) (sym (place_tiled pen.frame (x_at a b k) (y_at a b k) t))
      go (in-shares e i p t) =
          rw (e, h.route.shared, spot_line k (ap (λ (w : Way). spot_width w pen.frame) e))
          (part_place pen.frame p t (x_at a b k) (y_at a b k) (inside_whole pen ni nz (kind_of style.mode) a b (all_offered i)))
      go (in-asked e p) =
          let at = spot_read k on l (ap (λ (w : Way). spot_width w pen.frame) e) in
          rw (e, at.0, at.1) (sym (place_plain pen.frame (x_at a b k) (y_at a b k) p))

  -- by what was computed
  module _ (k : ℕ) (on : OnStep a b r.slope k) (l : Low a b) {at : ℕ} (is : at ≡ spot k) where
    -- what was asked of a step's spot tells whether the step's pixel is offered
    pub here_offered : {t : Bool} → t ≡ is_here pen r.rows way r.part at
        → offered pen rows_in_use (offer (kind_of style.mode) (x_at a b k) (y_at a b k) 0 0) ≡ t
    here_offered e = step_here k on l ∙ sym (e ∙ ap (is_here pen r.rows way r.part) is)

    -- the place that was found for a step's spot is that of the step's pixel
    pub here_placed : {p : ℕ} → p ≡ placed_at pen.frame way r.part at → p ≡ place_of pen.frame (x_at a b k) (y_at a b k)
    here_placed e = e ∙ ap (placed_at pen.frame way r.part) is ∙ step_placed k on l

  -- a step that the memory does not have offers nothing
  pub not_here : (k : ℕ) → offered pen rows_in_use (offer (kind_of style.mode) (x_at a b k) (y_at a b k) 0 0) ≡ false
      → step_offers pen rows_in_use style style.mode a b k ≡ []
  not_here k e = hidden_step pen rows_in_use style a b style.mode k e

  -- from its column to the next, where x leads
  skipped : (k j : ℕ) → OnStep a b r.slope k → OnStep a b r.slope j → ends_within pen rows_in_use a b ≡ true → lies_plain pen.frame ≡ false
      → lies_tiled pen.frame ≡ false → r.slope.level ≡ true → mine (layout_of pen.frame) (x_at a b k) ≡ true → k < j
      → j < k + 2 ^ (part_of pen.frame).shift → step_offers pen rows_in_use style style.mode a b j ≡ []
  skipped k j onk onj i p t v m l u =
      not_here j
      (inside_offered j onj i ∙ part_between pen.frame p t (x_at a b k) (x_at a b j) (j - k) (omega arith) (omega arith) (steps_apart a b r.slope k j onk onj v l) m)

  -- a loop that goes on from a step comes to a later one where its walk stands, and no step of the segment between the two offers anything
  pub goes_on : {p q : Step} → Stands r.near p → OnStep a b r.slope p.k → q ≡ onward_of way r (spot p.k) p
      → Onward r.near p q (λ j. j ≤ r.slope.n → step_offers pen rows_in_use style style.mode a b j ≡ [])
  goes_on {p} {q} st on e = rw e (by_way known)
    where
      single : r.near.stride ≡ 1
      single = h.route.carries.single

      far_on : ends_within pen rows_in_use a b ≡ true → lies_plain pen.frame ≡ false → lies_tiled pen.frame ≡ false
          → mine (layout_of pen.frame) (x_at a b p.k) ≡ true → (t : Bool) → r.slope.level ≡ t → (j : ℕ) → p.k < j
          → j < p.k + (far_of (part_of pen.frame) r.slope r.near).stride → j ≤ r.slope.n → step_offers pen rows_in_use style style.mode a b j ≡ []
      far_on i f g m true t j u v n =
          skipped p.k j on (record { slope = on.slope; step = n }) i f g t m u (rw (far_long r.near single pen.frame r.slope t) at v)
      far_on i f g m false t j u v n = absurd (omega (arith, u, v, far_short r.near single (part_of pen.frame) r.slope t))

      far_is : r.far ≡ far_of (part_of pen.frame) r.slope r.near
      far_is = h.route.further ∙ ap (λ (part : Part). far_of part r.slope r.near) h.route.shared

      step : (w : Way) → onward_of w r (spot p.k) p ≡ next_of r.near p
          → Onward r.near p (onward_of w r (spot p.k) p) (λ j. j ≤ r.slope.n → step_offers pen rows_in_use style style.mode a b j ≡ [])
      step w e =
          rw e
          (record {
            stands = stands_next r.near p single st;
            further = omega (arith, single);
            between = λ j u v n. absurd (omega (arith, u, v, single));
          })

      by_way : Known pen.frame (ends_within pen rows_in_use a b) way
          → Onward r.near p (onward_of way r (spot p.k) p) (λ j. j ≤ r.slope.n → step_offers pen rows_in_use style style.mode a b j ≡ [])
      by_way (in_rows e i l) = step way (rw e)
      by_way (in-tiles e i t) = step way (rw e)
      by_way (in-asked e l) = step way (rw e)
      by_way (in-shares e i l t) = rw e (share (has_place r.part (spot p.k)) refl)
        where
          share : (t : Bool) → has_place r.part (spot p.k) ≡ t
              → Onward r.near p (cond t (next_of r.far p) (next_of r.near p)) (λ j. j ≤ r.slope.n → step_offers pen rows_in_use style style.mode a b j ≡ [])
          share true o =
              rw far_is
              (record {
                stands = stands_far r.near single (part_of pen.frame) r.slope p st;
                further = omega (arith, (far_few r.near single (part_of pen.frame) r.slope).0);
                between = λ j u v n. far_on i l t (sym (own_mine p.k e i l t) ∙ o) r.slope.level refl j u v n;
              })
          share false o =
              record {
                stands = stands_next r.near p single st;
                further = omega (arith, single);
                between = λ j u v n. absurd (omega (arith, u, v, single));
              }
