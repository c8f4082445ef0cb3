-- No record that reset and words left on the former card lay beyond the former limits: INIT and reset set what is within them, and any other word
-- replaced a part by numbers that were. Assumes nothing.
use mathlib.Core.Path.{◌≡◌, refl}
use mathlib.Core.Bool.{Bool, true}
use mathlib.Core.List.{List, [], ◌∷◌}
use Prim.Native.Nat.{ℕ, ◌+◌, ◌-◌, ◌≤◌, ◌<◌}
use native.Mathlib.Omega.{arith}
use lib.Dec.{ltb, eqb}
use lib.ListN.{set}
use borrow.Author.Tests.{ltb-true, ltb-false, le-leb, leb-true}
use Rattle.picture.specs.declared.Frame.{Frame}
use Rattle.picture.specs.declared.Vertex.{Vertex}
use Rattle.registers.specs.declared.Modes.{Modes}
use Rattle.registers.specs.declared.Window.{Window}
use Rattle.registers.specs.declared.Dash.{Dash}
use Rattle.registers.specs.declared.Latch.{Latch}
use Rattle.registers.specs.declared.Figure.{Figure}
use Rattle.registers.specs.declared.Parked.{Parked}
use Rattle.registers.specs.declared.Region.{Region}
use Rattle.registers.specs.declared.Registers.{Registers}
use Rattle.registers.specs.declared.word.Word.{Word}
use Rattle.registers.specs.declared.word.Word.TheVariants.{Init, Aux, Parm, At, Img, Ptrn, Reserved, Unmodelled, Unknown}
use Rattle.registers.specs.declared.word.Coordinate.{Coordinate}
use Rattle.registers.specs.declared.word.Coordinate.TheVariants.{I, Z, Y, X, T1x, T2x, Lx, Px}
use Rattle.registers.specs.declared.subcommand.Subcommand.{Subcommand}
use Rattle.registers.specs.declared.subcommand.Subcommand.TheVariants.{Nothing, Pmode, Lmode, Zcontrol, Hcontrol, Tpattern, Window as Win, Section, Color, Lpattern, Mask, Lstatus, Imode, Load, Save}
use Rattle.registers.specs.declared.shape.Shape.{Shape}
use Rattle.registers.specs.declared.shape.Shape.TheVariants.{Closed, Strip, Fan, Line}
use Rattle.registers.specs.Record.{no_vertex, nothing_awaited, region_of, settings, reset_of, window, with_modes, with_window, with_dash, with_latch, with_figure, with_parked, with_region}
use Rattle.registers.specs.Region.{toward, moved, next_pixel}
use Rattle.registers.specs.Subcommand.{wants}
use Rattle.registers.specs.Figure.{shape_of, vertex_of, is_pair, grown_of}
use Rattle.registers.specs.Next.{value, awaited, effect_of, parm_of, coordinate_of, transferred_of, record_after}
use Rattle.ground.proofs.Truth.{and_both, either}
use Rattle.refusals.proofs.Chains.{All, chain_all, all_chain}
use Rattle.refusals.proofs.Came.{came_each, came_more}
use Rattle.former.specs.Former.{former_coordinate, former_window, was_coordinate, was_border, was_value, was_number, was_word, was_window, was_vertex, was_parked, was_region, was_record, was_after}

-- ---- a record, part by part

-- each part lies within the former limits
pub record Inside (r : Registers) : Type 0 where
  pub window : was_window r.window ≡ true
  pub y : was_coordinate r.latch.y ≡ true
  pub first : was_vertex r.figure.first ≡ true
  pub second : was_vertex r.figure.second ≡ true
  pub parked : was_parked r.parked ≡ true
  pub region : was_region r.region ≡ true

module _ (r : Registers) where
  abbrev tests : List Bool
  tests = was_coordinate r.latch.y ∷ was_vertex r.figure.first ∷ was_vertex r.figure.second ∷ was_parked r.parked ∷ was_region r.region ∷ []

  -- a record within them has each part there
  pub inside_parts : was_record r ≡ true → Inside r
  unfolding was_record
  inside_parts e =
      let q = chain_all (was_window r.window) tests e in
      record { window = q.0; y = q.1.0; first = q.1.1.0; second = q.1.1.1.0; parked = q.1.1.1.1.0; region = q.1.1.1.1.1.0 }

  -- and a record of parts within them lies there
  pub inside_whole : Inside r → was_record r ≡ true
  unfolding was_record
  inside_whole s = all_chain (was_window r.window) tests (s.window, (s.y, (s.first, (s.second, (s.parked, (s.region, tt))))))

-- a part is replaced
module _ {r : Registers} (s : Inside r) where
  in-modes : (m : Modes) → Inside (with_modes r m)
  in-modes m = record { window = s.window; y = s.y; first = s.first; second = s.second; parked = s.parked; region = s.region }

  in_window_lem : (w : Window) → was_window w ≡ true → Inside (with_window r w)
  in_window_lem w h = record { window = h; y = s.y; first = s.first; second = s.second; parked = s.parked; region = s.region }

  in-dash : (d : Dash) → Inside (with_dash r d)
  in-dash d = record { window = s.window; y = s.y; first = s.first; second = s.second; parked = s.parked; region = s.region }

  in-latch : (l : Latch) → was_coordinate l.y ≡ true → Inside (with_latch r l)
  in-latch l h = record { window = s.window; y = h; first = s.first; second = s.second; parked = s.parked; region = s.region }

  in-figure : (f : Figure) → (was_vertex f.first ≡ true) × (was_vertex f.second ≡ true) → Inside (with_figure r f)
  in-figure f h = record { window = s.window; y = s.y; first = h.0; second = h.1; parked = s.parked; region = s.region }

  in-parked : (p : Parked) → was_parked p ≡ true → Inside (with_parked r p)
  in-parked p h = record { window = s.window; y = s.y; first = s.first; second = s.second; parked = h; region = s.region }

  in-region : (g : Region) → was_region g ≡ true → Inside (with_region r g)
  in-region g h = record { window = s.window; y = s.y; first = s.first; second = s.second; parked = s.parked; region = h }

-- ---- parameters

-- 0 lay within them, as each parameter
zero_was : (s : Subcommand) → was_value s 0 ≡ true
zero_was Nothing = refl
zero_was Pmode = refl
zero_was Lmode = refl
zero_was Zcontrol = refl
zero_was Hcontrol = refl
zero_was Tpattern = refl
zero_was Win = refl
zero_was Section = refl
zero_was Color = refl
zero_was Lpattern = refl
zero_was Mask = refl
zero_was Lstatus = refl
zero_was Imode = refl
zero_was Load = refl
zero_was Save = refl

borders_were : (left top right bottom : ℕ) → All (was_border left ∷ was_border top ∷ was_border right ∷ was_border bottom ∷ []) → was_window (window left top right bottom) ≡ true
unfolding was_window
borders_were left top right bottom = all_chain (was_border left) (was_border top ∷ was_border right ∷ was_border bottom ∷ [])

corners_were : (way x0 y0 x1 y1 : ℕ) → All (was_coordinate x0 ∷ was_coordinate y0 ∷ was_coordinate x1 ∷ was_coordinate y1 ∷ []) → was_region (region_of way x0 y0 x1 y1) ≡ true
unfolding was_region
corners_were way x0 y0 x1 y1 q =
    all_chain (was_coordinate x0) (was_coordinate x1 ∷ was_coordinate y1 ∷ was_coordinate x0 ∷ was_coordinate y0 ∷ [])
    (q.0, (q.1.1.0, (q.1.1.1.0, (q.0, (q.1.0, tt)))))

effect_in : (r : Registers) (s : Subcommand) (l : List ℕ) → Inside r → ((k : ℕ) → k < wants s → was_value s (value l k) ≡ true) → Inside (effect_of r s l)
unfolding effect_of
effect_in r Nothing l h a = h
effect_in r Pmode l h a = in-modes h _
effect_in r Lmode l h a = in-modes h _
effect_in r Zcontrol l h a = in-modes h _
effect_in r Hcontrol l h a = in-modes h _
effect_in r Tpattern l h a = in-modes h _
effect_in r Win l h a = in_window_lem h _ (borders_were _ _ _ _ (a 0 (omega arith), (a 1 (omega arith), (a 2 (omega arith), (a 3 (omega arith), tt)))))
effect_in r Section l h a = in-modes h _
effect_in r Color l h a = in-dash h _
effect_in r Lpattern l h a = in-dash h _
effect_in r Mask l h a = in-modes h _
effect_in r Lstatus l h a = in-modes h _
effect_in r Imode l h a = h
effect_in r Load l h a = in-region h _ (corners_were 1 _ _ _ _ (a 0 (omega arith), (a 1 (omega arith), (a 2 (omega arith), (a 3 (omega arith), tt)))))
effect_in r Save l h a = in-region h _ (corners_were 2 _ _ _ _ (a 0 (omega arith), (a 1 (omega arith), (a 2 (omega arith), (a 3 (omega arith), tt)))))

parm_in : (r : Registers) (v : ℕ) → Inside r → was_value (awaited r) v ≡ true → Inside (parm_of r v)
unfolding parm_of
parm_in r v s a =
    let test : ℕ → ℕ → Bool = λ k. was_value (awaited r) in
    let l = set r.parked.values r.parked.came v in
    let q = came_more test r.parked.values r.parked.came v (zero_was (awaited r)) a s.parked in
    either Inside (ltb (r.parked.came + 1) (wants (awaited r))) (λ t. in-parked s _ q)
    (λ t.
    let last = ltb-false (r.parked.came + 1) (wants (awaited r)) t in
    in-parked (effect_in r (awaited r) l s (λ k h. came_each test l (r.parked.came + 1) q k (omega (arith, h, last)))) nothing_awaited refl)

-- ---- coordinates

no_vertex_lem : was_vertex no_vertex ≡ true
unfolding was_vertex
no_vertex_lem = refl

module _ (r : Registers) (s : Inside r) where
  vertex_was : (x : ℕ) → was_coordinate x ≡ true → was_vertex (vertex_of r x) ≡ true
  unfolding was_vertex
  vertex_was x h = and_both h s.y

  abbrev Both : Figure → Type 0
  Both f = (was_vertex f.first ≡ true) × (was_vertex f.second ≡ true)

  grown_was : (shape : Shape) (end dashed : Bool) (v : Vertex) → was_vertex v ≡ true → Both (grown_of shape end dashed r.figure v)
  unfolding grown_of
  grown_was Closed end dashed v k = (s.first, s.second)
  grown_was Strip end dashed v k = either Both (is_pair r.figure) (λ t. (s.second, k)) (λ t. (s.first, k))
  grown_was Fan end dashed v k = (s.first, k)
  grown_was Line end dashed v k = either Both end (λ t. (no_vertex_lem, no_vertex_lem)) (λ t. (k, no_vertex_lem))

  coordinate_in : (c : Coordinate) (n : ℕ) → was_number c n ≡ true → Inside (coordinate_of r c n)
  unfolding coordinate_of
  coordinate_in I n h = in-latch s _ s.y
  coordinate_in Z n h = in-latch s _ s.y
  coordinate_in Y n h = in-latch s _ h
  coordinate_in X n h = in-figure s _ (grown_was (shape_of r.figure.shape) _ _ (vertex_of r n) (vertex_was n h))
  coordinate_in T1x n h = in-figure s _ (vertex_was n h, no_vertex_lem)
  coordinate_in T2x n h = in-figure s _ (vertex_was n h, no_vertex_lem)
  coordinate_in Lx n h = in-figure (in-modes s _) _ (vertex_was n h, no_vertex_lem)
  coordinate_in Px n h = in-figure s _ (grown_was (shape_of r.figure.shape) _ _ (vertex_of r n) (vertex_was n h))

-- ---- regions

toward_was : (a b : ℕ) → was_coordinate a ≡ true → was_coordinate b ≡ true → was_coordinate (toward a b) ≡ true
unfolding toward
toward_was a b h k =
    let p : a ≤ former_coordinate = leb-true a former_coordinate h in
    let q : b ≤ former_coordinate = leb-true b former_coordinate k in
    either (λ (n : ℕ). was_coordinate n ≡ true) (ltb a b) {x = a + 1} {y = a - 1}
    (λ t. let l : a + 1 ≤ former_coordinate = omega (arith, ltb-true a b t, q) in le-leb _ _ l) (λ t. let l : a - 1 ≤ former_coordinate = omega (arith, p) in le-leb _ _ l)

abbrev region_tests : Region → List Bool
region_tests g = was_coordinate g.x1 ∷ was_coordinate g.y1 ∷ was_coordinate g.x ∷ was_coordinate g.y ∷ []

-- a region within them, number by number
pub region_each : (g : Region) → was_region g ≡ true → All (was_coordinate g.x0 ∷ region_tests g)
unfolding was_region
region_each g = chain_all (was_coordinate g.x0) (region_tests g)

pixel_was : (g : Region) → was_region g ≡ true → was_region (next_pixel g) ≡ true
unfolding was_region next_pixel
pixel_was g h =
    let q = region_each g h in
    let away : (x y : ℕ) → was_coordinate x ≡ true → was_coordinate y ≡ true → was_region (moved g x y) ≡ true = λ x y k l.
    all_chain (was_coordinate g.x0) (region_tests (moved g x y)) (q.0, (q.1.0, (q.1.1.0, (k, (l, tt))))) in
    either (λ (k : Region). was_region k ≡ true) (eqb g.x g.x1)
    (λ t. either (λ (k : Region). was_region k ≡ true) (eqb g.y g.y1) (λ u. refl)
    (λ u. away g.x0 (toward g.y g.y1) q.0 (toward_was g.y g.y1 q.1.1.1.1.0 q.1.1.0)))
    (λ t. away (toward g.x g.x1) g.y (toward_was g.x g.x1 q.1.1.1.0 q.1.0) q.1.1.1.1.0)

-- a read, or PTRN, moves the region on
pub transferred_in : (r : Registers) → Inside r → Inside (transferred_of r)
transferred_in r s = in-region s _ (pixel_was r.region s.region)

-- ---- words

-- what INIT and reset set, with the former window
first_in : (started : ℕ) (frame : Frame) → Inside (with_window (settings started frame) former_window)
unfolding settings was_window was_vertex was_region
first_in started frame = record { window = refl; y = refl; first = refl; second = refl; parked = refl; region = refl }

-- so the record after reset lies within them
pub reset_in : Inside (with_window reset_of former_window)
reset_in = first_in 0 _

-- the record after a word within the former limits lies within them, if the one before it did
pub after_in_lem : (r : Registers) (w : Word) → Inside r → was_word r w ≡ true → Inside (was_after r w)
unfolding was_after record_after
after_in_lem r (Init d) s h = first_in 1 _
after_in_lem r (Aux n) s h = in-parked s _ refl
after_in_lem r (Parm v) s h = parm_in r v s h
after_in_lem r (At c n) s h = coordinate_in r s c n h
after_in_lem r (Img d) s h = in-parked s _ refl
after_in_lem r (Ptrn v) s h = transferred_in r s
after_in_lem r Reserved s h = s
after_in_lem r Unmodelled s h = s
after_in_lem r Unknown s h = s
