-- No record that reset, words and reads leave breaks a bound (document 01, number 2). Reset and INIT set what is in bounds; any other accepted word
-- replaces one part of the record, by values that were allowed. Assumes nothing.
use mathlib.Core.Path.{◌≡◌, refl, sym, ◌∙◌}
use mathlib.Core.Bool.{Bool, true, false, not, ◌||◌, or-true, false≢true, true≢false}
use mathlib.Core.List.{List, [], ◌∷◌}
use Prim.Native.Nat.{ℕ, zero, suc, ◌+◌, ◌-◌, ◌≤◌, ◌<◌, ◌%◌}
use native.Mathlib.Omega.{arith}
use lib.Dec.{leb, ltb, eqb, leb-zero}
use lib.ListN.{set}
use borrow.Author.Tests.{lt-ltb, ltb-true, ltb-false, le-leb, leb-true, eq-eqb, ne_eqb, eqb-true, eqb-false, not-true}
use Rattle.picture.specs.declared.Frame.{Frame}
use Rattle.picture.specs.declared.Vertex.{Vertex}
use Rattle.picture.specs.Limits.{largest_coordinate}
use Rattle.picture.specs.Place.{frame_of}
use Rattle.registers.specs.declared.word.Word.{Word}
use Rattle.registers.specs.declared.word.Word.TheVariants.{Init, Aux, Parm, At, Img, Ptrn, Reserved, Unmodelled, Unknown}
use Rattle.registers.specs.declared.word.Coordinate.{Coordinate}
use Rattle.registers.specs.declared.word.Coordinate.TheVariants.{I, Z, Y, X, T1x, T2x, Lx, Px}
use Rattle.registers.specs.declared.subcommand.Subcommand.{Subcommand}
use Rattle.registers.specs.declared.subcommand.Subcommand.TheVariants.{Nothing, Pmode, Lmode, Zcontrol, Hcontrol, Tpattern, Window as Win, Section, Color, Lpattern, Mask, Lstatus, Imode, Load, Save}
use Rattle.registers.specs.declared.shape.Shape.{Shape}
use Rattle.registers.specs.declared.shape.Shape.TheVariants.{Closed, Strip, Fan, Line}
use Rattle.registers.specs.declared.Modes.{Modes}
use Rattle.registers.specs.declared.Window.{Window}
use Rattle.registers.specs.declared.Dash.{Dash}
use Rattle.registers.specs.declared.Latch.{Latch}
use Rattle.registers.specs.declared.Figure.{Figure}
use Rattle.registers.specs.declared.Parked.{Parked}
use Rattle.registers.specs.declared.Region.{Region}
use Rattle.registers.specs.declared.Registers.{Registers}
use Rattle.registers.specs.Lines.{shortest_line, largest_page, chips_in, unit_in, page_in, code_in, line_of}
use Rattle.registers.specs.Record.{no_number, load_number, pattern_length, no_vertex, opened, awaiting, nothing_awaited, region_of, no_region, window}
use Rattle.registers.specs.Record.{with_pmode, with_lmode, with_zcontrol, with_hcontrol, with_lstatus, with_transparency, with_planes, with_section}
use Rattle.registers.specs.Record.{with_modes, with_window, with_dash, with_latch, with_figure, with_parked, with_region}
use Rattle.registers.specs.Record.{settings, reset_as, reset_of, init_of}
use Rattle.registers.specs.Region.{toward, moved, next_pixel}
use Rattle.registers.specs.Subcommand.{largest_aux, subcommands, subcommand_of, wants}
use Rattle.registers.specs.Figure.{shape_of, vertex_of, is_pair, advanced, grown_of, figure_after}
use Rattle.registers.specs.Next.{value, awaited, joined_of, counted, effect_of, parm_of, coordinate_of, img_number, transferred_of, record_after}
use Rattle.refusals.specs.Allowed.{is_coordinate, is_border, init_allowed, parameter_allowed, coordinate_allowed, allowed}
use Rattle.refusals.specs.Bounds.{largest_layout, frame_fits, modes_fit, window_fits, vertex_fits, figure_fits, each_came, parked_fits, region_fits, in_bounds}
use Rattle.refusals.specs.Refusal.{is_unmodelled, is_above, table, lowest, is_unfit, refusal_of, next, read_refusal_of}
use Rattle.ground.proofs.Truth.{and_both, either}
use Rattle.refusals.proofs.Chains.{All, chain_all, all_chain}
use Rattle.registers.proofs.Table.{everywhere}
use Rattle.refusals.proofs.Came.{came_each, came_more}
use Rattle.refusals.proofs.Frames.{line_fits, frame_laid}
use Rattle.refusals.proofs.Refusals.{Accepted, accepted_when, given_2, read_when, read_2}

-- ---- the bounds, part by part

-- each part breaks no bound
pub record Sound (r : Registers) : Type 0 where
  pub started : leb r.started 1 ≡ true
  pub frame : frame_fits r.frame ≡ true
  pub modes : modes_fit r.modes ≡ true
  pub window : window_fits r.window ≡ true
  pub y : is_coordinate r.latch.y ≡ true
  pub figure : figure_fits r.figure ≡ true
  pub parked : parked_fits r.parked ≡ true
  pub region : region_fits r.region ≡ true

module _ (r : Registers) where
  abbrev tests : List Bool
  tests = frame_fits r.frame ∷ modes_fit r.modes ∷ window_fits r.window ∷ is_coordinate r.latch.y ∷ figure_fits r.figure ∷ parked_fits r.parked ∷ region_fits r.region ∷ []

  -- a record in bounds has each part in bounds
  pub parts : in_bounds r ≡ true → Sound r
  unfolding in_bounds
  parts e =
      let q = chain_all (leb r.started 1) tests e in
      record {
        started = q.0;
        frame = q.1.0;
        modes = q.1.1.0;
        window = q.1.1.1.0;
        y = q.1.1.1.1.0;
        figure = q.1.1.1.1.1.0;
        parked = q.1.1.1.1.1.1.0;
        region = q.1.1.1.1.1.1.1.0;
      }

  -- and a record of parts in bounds is in bounds
  pub whole : Sound r → in_bounds r ≡ true
  unfolding in_bounds
  whole s = all_chain (leb r.started 1) tests (s.started, (s.frame, (s.modes, (s.window, (s.y, (s.figure, (s.parked, (s.region, tt))))))))

-- a part is replaced by one that breaks no bound
module _ {r : Registers} (s : Sound r) where
  sound_modes : (m : Modes) → modes_fit m ≡ true → Sound (with_modes r m)
  sound_modes m h = record { started = s.started; frame = s.frame; modes = h; window = s.window; y = s.y; figure = s.figure; parked = s.parked; region = s.region }

  -- a record that breaks no bound breaks none with another window, each number of which is a border
  pub sound_window : (w : Window) → window_fits w ≡ true → Sound (with_window r w)
  sound_window w h = record { started = s.started; frame = s.frame; modes = s.modes; window = h; y = s.y; figure = s.figure; parked = s.parked; region = s.region }

  sound_dash : (d : Dash) → Sound (with_dash r d)
  sound_dash d = record { started = s.started; frame = s.frame; modes = s.modes; window = s.window; y = s.y; figure = s.figure; parked = s.parked; region = s.region }

  sound_latch : (l : Latch) → is_coordinate l.y ≡ true → Sound (with_latch r l)
  sound_latch l h = record { started = s.started; frame = s.frame; modes = s.modes; window = s.window; y = h; figure = s.figure; parked = s.parked; region = s.region }

  sound_figure : (f : Figure) → figure_fits f ≡ true → Sound (with_figure r f)
  sound_figure f h = record { started = s.started; frame = s.frame; modes = s.modes; window = s.window; y = s.y; figure = h; parked = s.parked; region = s.region }

  sound_parked : (p : Parked) → parked_fits p ≡ true → Sound (with_parked r p)
  sound_parked p h = record { started = s.started; frame = s.frame; modes = s.modes; window = s.window; y = s.y; figure = s.figure; parked = h; region = s.region }

  sound_region : (g : Region) → region_fits g ≡ true → Sound (with_region r g)
  sound_region g h = record { started = s.started; frame = s.frame; modes = s.modes; window = s.window; y = s.y; figure = s.figure; parked = s.parked; region = h }

-- ---- the modes, one of them replaced

abbrev rest : Modes → List Bool
rest m = parameter_allowed Lmode 0 m.lmode ∷ parameter_allowed Zcontrol 0 m.zcontrol ∷ parameter_allowed Hcontrol 0 m.hcontrol ∷ parameter_allowed Lstatus 0 m.lstatus ∷ []

modes_fit_lem : (m : Modes) → All (parameter_allowed Pmode 0 m.pmode ∷ rest m) → modes_fit m ≡ true
unfolding modes_fit
modes_fit_lem m = all_chain (parameter_allowed Pmode 0 m.pmode) (rest m)

module _ (m : Modes) (h : modes_fit m ≡ true) where
  each : All (parameter_allowed Pmode 0 m.pmode ∷ rest m)
  unfolding modes_fit
  each = chain_all (parameter_allowed Pmode 0 m.pmode) (rest m) h

  pmode_fits : (v : ℕ) → parameter_allowed Pmode 0 v ≡ true → modes_fit (with_pmode m v) ≡ true
  pmode_fits v e = modes_fit_lem (with_pmode m v) (e, each.1)

  lmode_fits : (v : ℕ) → parameter_allowed Lmode 0 v ≡ true → modes_fit (with_lmode m v) ≡ true
  lmode_fits v e = modes_fit_lem (with_lmode m v) (each.0, (e, each.1.1))

  zcontrol_fits : (v : ℕ) → parameter_allowed Zcontrol 0 v ≡ true → modes_fit (with_zcontrol m v) ≡ true
  zcontrol_fits v e = modes_fit_lem (with_zcontrol m v) (each.0, (each.1.0, (e, each.1.1.1)))

  hcontrol_fits : (v : ℕ) → parameter_allowed Hcontrol 0 v ≡ true → modes_fit (with_hcontrol m v) ≡ true
  hcontrol_fits v e = modes_fit_lem (with_hcontrol m v) (each.0, (each.1.0, (each.1.1.0, (e, each.1.1.1.1))))

  lstatus_fits : (v : ℕ) → parameter_allowed Lstatus 0 v ≡ true → modes_fit (with_lstatus m v) ≡ true
  lstatus_fits v e = modes_fit_lem (with_lstatus m v) (each.0, (each.1.0, (each.1.1.0, (each.1.1.1.0, (e, tt)))))

  -- the three that any number may be
  transparency_fits : (v : ℕ) → modes_fit (with_transparency m v) ≡ true
  transparency_fits v = modes_fit_lem (with_transparency m v) each

  planes_fits : (v : ℕ) → modes_fit (with_planes m v) ≡ true
  planes_fits v = modes_fit_lem (with_planes m v) each

  section_fits : (v : ℕ) → modes_fit (with_section m v) ≡ true
  section_fits v = modes_fit_lem (with_section m v) each

-- ---- parameters

-- 0 is allowed of each parameter
zero_allowed : (s : Subcommand) (k : ℕ) → parameter_allowed s k 0 ≡ true
zero_allowed Nothing k = refl
zero_allowed Pmode k = refl
zero_allowed Lmode k = refl
zero_allowed Zcontrol k = refl
zero_allowed Hcontrol k = refl
zero_allowed Tpattern k = refl
zero_allowed Win k = either (λ (b : Bool). b ≡ true) (ltb k 4) {x = is_border 0} {y = eqb 0 0} (λ t. refl) (λ t. refl)
zero_allowed Section k = refl
zero_allowed Color k = refl
zero_allowed Lpattern k = refl
zero_allowed Mask k = refl
zero_allowed Lstatus k = refl
zero_allowed Imode k = refl
zero_allowed Load k = refl
zero_allowed Save k = refl

-- borders make a window
borders_fit : (left top right bottom : ℕ) → All (is_border left ∷ is_border top ∷ is_border right ∷ is_border bottom ∷ []) → window_fits (window left top right bottom) ≡ true
unfolding window_fits
borders_fit left top right bottom = all_chain (is_border left) (is_border top ∷ is_border right ∷ is_border bottom ∷ [])

-- corners make a region, whatever its way
corners_fit : (way x0 y0 x1 y1 : ℕ) → leb way 2 ≡ true → All (is_coordinate x0 ∷ is_coordinate y0 ∷ is_coordinate x1 ∷ is_coordinate y1 ∷ [])
    → region_fits (region_of way x0 y0 x1 y1) ≡ true
unfolding region_fits
corners_fit way x0 y0 x1 y1 w q =
    all_chain (leb way 2) (is_coordinate x0 ∷ is_coordinate x1 ∷ is_coordinate y1 ∷ is_coordinate x0 ∷ is_coordinate y0 ∷ [])
    (w, (q.0, (q.1.1.0, (q.1.1.1.0, (q.0, (q.1.0, tt))))))

-- parameters that are allowed, each for its place, take effect within the bounds
effect_sound : (r : Registers) (s : Subcommand) (l : List ℕ) → Sound r → ((k : ℕ) → k < wants s → parameter_allowed s k (value l k) ≡ true) → Sound (effect_of r s l)
unfolding effect_of
effect_sound r Nothing l h a = h
effect_sound r Pmode l h a = sound_modes h _ (pmode_fits r.modes h.modes (value l 0) (a 0 (omega arith)))
effect_sound r Lmode l h a = sound_modes h _ (lmode_fits r.modes h.modes (value l 0) (a 0 (omega arith)))
effect_sound r Zcontrol l h a = sound_modes h _ (zcontrol_fits r.modes h.modes (value l 0) (a 0 (omega arith)))
effect_sound r Hcontrol l h a = sound_modes h _ (hcontrol_fits r.modes h.modes (value l 0) (a 0 (omega arith)))
effect_sound r Tpattern l h a = sound_modes h _ (transparency_fits r.modes h.modes (value l 0))
effect_sound r Win l h a = sound_window h _ (borders_fit _ _ _ _ (a 0 (omega arith), (a 1 (omega arith), (a 2 (omega arith), (a 3 (omega arith), tt)))))
effect_sound r Section l h a = sound_modes h _ (section_fits r.modes h.modes (value l 0))
effect_sound r Color l h a = sound_dash h _
effect_sound r Lpattern l h a = sound_dash h _
effect_sound r Mask l h a = sound_modes h _ (planes_fits r.modes h.modes (value l 0))
effect_sound r Lstatus l h a = sound_modes h _ (lstatus_fits r.modes h.modes (value l 0) (a 0 (omega arith)))
effect_sound r Imode l h a = h
effect_sound r Load l h a = sound_region h _ (corners_fit 1 _ _ _ _ refl (a 0 (omega arith), (a 1 (omega arith), (a 2 (omega arith), (a 3 (omega arith), tt)))))
effect_sound r Save l h a = sound_region h _ (corners_fit 2 _ _ _ _ refl (a 0 (omega arith), (a 1 (omega arith), (a 2 (omega arith), (a 3 (omega arith), tt)))))

-- ---- what is awaited

-- AUX up to 12 has a subcommand with parameters just where it is modelled
aux_takes : (n : ℕ) → is_above (Aux n) ≡ false → ltb 0 (wants (subcommand_of n)) ≡ not (is_unmodelled (Aux n))
unfolding subcommand_of
aux_takes =
    everywhere (λ n s. is_above (Aux n) ≡ false → ltb 0 (wants s) ≡ not (is_unmodelled (Aux n))) Nothing subcommands
    (same, (same, (same, (same, (same, (same, (same, (same, (same, (same, (same, (same, (same, (never, (never, (never, tt))))))))))))))))
    (λ n h a. absurd (omega (arith, h, ltb-false largest_aux n a)))
  where
    same : {a b : Bool} → a ≡ false → b ≡ b
    same e = refl

    never : {b c : Bool} → true ≡ false → b ≡ c
    never e = absurd (true≢false e)

-- no parameter has come
awaiting_fits : (n : ℕ) → eqb n no_number || ltb 0 (wants (subcommand_of n)) ≡ true → parked_fits (awaiting n) ≡ true
unfolding parked_fits
awaiting_fits n e = and_both (and_both e (leb-zero (wants (subcommand_of n) - 1))) refl

nothing_fits : parked_fits nothing_awaited ≡ true
unfolding subcommand_of
nothing_fits = awaiting_fits no_number refl

aux_fits : (n : ℕ) → is_unmodelled (Aux n) ≡ false → is_above (Aux n) ≡ false → parked_fits (awaiting n) ≡ true
aux_fits n m a =
    let takes : ltb 0 (wants (subcommand_of n)) ≡ true = rw (aux_takes n a, m) in
    awaiting_fits n (rw (takes, or-true))

-- IMG's parameters, to memory and from memory
img_fits : (d : ℕ) → parked_fits (awaiting (img_number d)) ≡ true
unfolding subcommand_of
img_fits d = go (d % 2) (omega arith)
  where
    go : (k : ℕ) → k < 2 → parked_fits (awaiting (load_number + k)) ≡ true
    go zero h = awaiting_fits load_number refl
    go (suc zero) h = awaiting_fits (load_number + 1) refl
    go (suc (suc k)) h = absurd (omega (arith, h))

-- one more has come
module _ (p : Parked) (h : parked_fits p ≡ true) (v : ℕ) (a : parameter_allowed (subcommand_of p.subcommand) p.came v ≡ true) where
  abbrev kind : Subcommand
  kind = subcommand_of p.subcommand

  each_parked : All ((eqb p.subcommand no_number || ltb 0 (wants kind)) ∷ leb p.came (wants kind - 1) ∷ each_came (parameter_allowed kind) p.values p.came ∷ [])
  unfolding parked_fits
  each_parked = chain_all (eqb p.subcommand no_number || ltb 0 (wants kind)) (_ ∷ _ ∷ []) h

  joined_came : each_came (parameter_allowed kind) (set p.values p.came v) (p.came + 1) ≡ true
  joined_came = came_more (parameter_allowed kind) p.values p.came v (zero_allowed kind p.came) a each_parked.1.1.0

  counted_fits : p.came + 1 < wants kind → parked_fits (counted (joined_of p v)) ≡ true
  unfolding parked_fits
  counted_fits l =
      let room : p.came + 1 ≤ wants kind - 1 = omega (arith, l) in
      and_both (and_both each_parked.0 (le-leb _ _ room)) joined_came

  -- with the last all are allowed
  last_allowed : wants kind ≤ p.came + 1 → (k : ℕ) → k < wants kind → parameter_allowed kind k (value (set p.values p.came v) k) ≡ true
  last_allowed l k h = came_each (parameter_allowed kind) (set p.values p.came v) (p.came + 1) joined_came k (omega (arith, l, h))

parm_sound : (r : Registers) (v : ℕ) → Sound r → allowed r (Parm v) ≡ true → Sound (parm_of r v)
unfolding parm_of
parm_sound r v s a =
    either Sound (ltb (r.parked.came + 1) (wants (awaited r)))
    (λ t. sound_parked s _ (counted_fits r.parked s.parked v a (ltb-true _ _ t)))
    (λ t. sound_parked (effect_sound r (awaited r) _ s (last_allowed r.parked s.parked v a (ltb-false _ _ t))) nothing_awaited nothing_fits)

-- ---- coordinates

two_fit : (shape pair : ℕ) (a b : Vertex) → leb shape 3 ≡ true → leb pair 1 ≡ true → vertex_fits a ≡ true → vertex_fits b ≡ true
    → figure_fits (record { shape = shape; pair = pair; first = a; second = b; steps = 0; dashed = 0 }) ≡ true
unfolding figure_fits
two_fit shape pair a b s p u v = and_both (and_both (and_both (and_both (and_both s p) u) v) refl) refl

no_vertex_lem : vertex_fits no_vertex ≡ true
unfolding vertex_fits
no_vertex_lem = refl

open_fits : (shape : ℕ) (v : Vertex) → leb shape 3 ≡ true → vertex_fits v ≡ true → figure_fits (opened shape v) ≡ true
open_fits shape v s h = two_fit shape 0 v no_vertex s refl h no_vertex_lem

-- the vertices of an open figure
pub vertices : (f : Figure) → figure_fits f ≡ true → (vertex_fits f.first ≡ true) × (vertex_fits f.second ≡ true)
unfolding figure_fits
vertices f h =
    let q = chain_all (leb f.shape 3) (leb f.pair 1 ∷ vertex_fits f.first ∷ vertex_fits f.second ∷ ltb f.steps pattern_length ∷ leb f.dashed 1 ∷ []) h in
    (q.1.1.0, q.1.1.1.0)

-- a line after a segment: its steps are counted modulo 32
advanced_fits : (dashed : Bool) (f : Figure) (v : Vertex) → vertex_fits v ≡ true → figure_fits (advanced dashed f v) ≡ true
unfolding figure_fits
advanced_fits dashed f v h =
    let low : (advanced dashed f v).steps < pattern_length = omega arith in
    and_both (and_both (and_both (and_both (and_both refl refl) h) no_vertex_lem) (lt-ltb _ _ low)) (either (λ (n : ℕ). leb n 1 ≡ true) dashed {x = 1} {y = 0} (λ t. refl) (λ t. refl))

grown_fits : (shape : Shape) (end dashed : Bool) (f : Figure) (v : Vertex) → figure_fits f ≡ true → vertex_fits v ≡ true → figure_fits (grown_of shape end dashed f v) ≡ true
unfolding grown_of
grown_fits Closed end dashed f v h k = h
grown_fits Strip end dashed f v h k =
    let q = vertices f h in
    either (λ g. figure_fits g ≡ true) (is_pair f) (λ t. two_fit 1 1 f.second v refl refl q.1 k) (λ t. two_fit 1 1 f.first v refl refl q.0 k)
grown_fits Fan end dashed f v h k = two_fit 2 1 f.first v refl refl (vertices f h).0 k
grown_fits Line end dashed f v h k = either (λ g. figure_fits g ≡ true) end (λ t. open_fits 0 no_vertex refl no_vertex_lem) (λ t. advanced_fits dashed f v k)

module _ (r : Registers) (s : Sound r) where
  -- the vertex that an allowed x makes
  pub vertex_fits_lem : (x : ℕ) → is_coordinate x ≡ true → vertex_fits (vertex_of r x) ≡ true
  unfolding vertex_fits
  vertex_fits_lem x h = and_both h s.y

  grown_sound : (x : ℕ) → is_coordinate x ≡ true → Sound (with_figure r (figure_after r x))
  grown_sound x h = sound_figure s _ (grown_fits (shape_of r.figure.shape) _ _ r.figure (vertex_of r x) s.figure (vertex_fits_lem x h))

  coordinate_sound : (c : Coordinate) (n : ℕ) → coordinate_allowed c n ≡ true → Sound (coordinate_of r c n)
  unfolding coordinate_of
  coordinate_sound I n h = sound_latch s _ s.y
  coordinate_sound Z n h = sound_latch s _ s.y
  coordinate_sound Y n h = sound_latch s _ h
  coordinate_sound X n h = grown_sound n h
  coordinate_sound T1x n h = sound_figure s _ (open_fits 1 (vertex_of r n) refl (vertex_fits_lem n h))
  coordinate_sound T2x n h = sound_figure s _ (open_fits 2 (vertex_of r n) refl (vertex_fits_lem n h))
  coordinate_sound Lx n h = sound_figure (sound_modes s _ (lstatus_fits r.modes s.modes 0 refl)) _ (open_fits 3 (vertex_of r n) refl (vertex_fits_lem n h))
  coordinate_sound Px n h = grown_sound n h

-- ---- regions

-- a step towards a coordinate stays among coordinates
toward_fits : (a b : ℕ) → is_coordinate a ≡ true → is_coordinate b ≡ true → is_coordinate (toward a b) ≡ true
unfolding toward
toward_fits a b h k =
    let p : a ≤ largest_coordinate = leb-true a largest_coordinate h in
    let q : b ≤ largest_coordinate = leb-true b largest_coordinate k in
    either (λ (n : ℕ). is_coordinate n ≡ true) (ltb a b) {x = a + 1} {y = a - 1}
    (λ t. let l : a + 1 ≤ largest_coordinate = omega (arith, ltb-true a b t, q) in le-leb _ _ l) (λ t. let l : a - 1 ≤ largest_coordinate = omega (arith, p) in le-leb _ _ l)

region_tests : Region → List Bool
region_tests g = is_coordinate g.x0 ∷ is_coordinate g.x1 ∷ is_coordinate g.y1 ∷ is_coordinate g.x ∷ is_coordinate g.y ∷ []

no_region_lem : region_fits no_region ≡ true
unfolding region_fits
no_region_lem = refl

-- a transfer keeps a region within its bounds
pixel_fits : (g : Region) → region_fits g ≡ true → region_fits (next_pixel g) ≡ true
unfolding region_fits next_pixel region_tests
pixel_fits g h =
    let q = chain_all (leb g.way 2) (region_tests g) h in
    let away : (x y : ℕ) → is_coordinate x ≡ true → is_coordinate y ≡ true → region_fits (moved g x y) ≡ true = λ x y k l.
    all_chain (leb g.way 2) (region_tests (moved g x y)) (q.0, (q.1.0, (q.1.1.0, (q.1.1.1.0, (k, (l, tt)))))) in
    either (λ (k : Region). region_fits k ≡ true) (eqb g.x g.x1)
    (λ t. either (λ (k : Region). region_fits k ≡ true) (eqb g.y g.y1) (λ u. refl)
    (λ u. away g.x0 (toward g.y g.y1) q.1.0 (toward_fits g.y g.y1 q.1.1.1.1.1.0 q.1.1.1.0)))
    (λ t. away (toward g.x g.x1) g.y (toward_fits g.x g.x1 q.1.1.1.1.0 q.1.1.0) q.1.1.1.1.1.0)

transferred_sound : (r : Registers) → Sound r → Sound (transferred_of r)
transferred_sound r s = sound_region s _ (pixel_fits r.region s.region)

-- ---- reset and INIT

settings_sound : (started : ℕ) (frame : Frame) → leb started 1 ≡ true → frame_fits frame ≡ true → Sound (settings started frame)
unfolding settings modes_fit window_fits
settings_sound started frame s f = record { started = s; frame = f; modes = refl; window = refl; y = refl; figure = open_fits 0 no_vertex refl no_vertex_lem; parked = nothing_fits; region = no_region_lem }

init_sound : (r : Registers) → Sound r → (d : ℕ) → init_allowed d ≡ true → Sound (init_of r d)
unfolding init_allowed
init_sound r s d a =
    let q = chain_all (eqb (chips_in d) 0) (eqb (unit_in d) 0 ∷ leb (page_in d) largest_page ∷ not (eqb (line_of (code_in d)) 0) ∷ []) a in
    settings_sound 1 (frame_of (line_of (code_in d)) r.frame.layout) refl
    (frame_laid (line_of (code_in d)) r.frame (line_fits (code_in d) (omega arith) (eqb-false _ _ (not-true _ q.1.1.1.0))) s.frame)

-- the record after reset breaks no bound, in any layout
pub reset_kept_as : (layout : ℕ) → layout ≤ largest_layout → in_bounds (reset_as layout) ≡ true
unfolding frame_fits
reset_kept_as layout h = whole (reset_as layout) (settings_sound 0 (frame_of shortest_line layout) refl (le-leb layout largest_layout h))

-- nor does it with rows one after the other
pub reset_kept : in_bounds reset_of ≡ true
reset_kept = reset_kept_as 0 (omega arith)

-- ---- words

module _ (ni nz : ℕ) (r : Registers) where
  after_sound : (w : Word) → Accepted ni nz r w → Sound (record_after r w)
  unfolding record_after
  after_sound (Init d) a = init_sound r (parts r a.sound) d a.valued
  after_sound (Aux n) a = sound_parked (parts r a.sound) _ (aux_fits n a.modelled a.listed)
  after_sound (Parm v) a = parm_sound r v (parts r a.sound) a.valued
  after_sound (At c n) a = coordinate_sound r (parts r a.sound) c n a.valued
  after_sound (Img d) a = sound_parked (parts r a.sound) _ (img_fits d)
  after_sound (Ptrn v) a = transferred_sound r (parts r a.sound)
  after_sound Reserved a = parts r a.sound
  after_sound Unmodelled a = parts r a.sound
  after_sound Unknown a = parts r a.sound

  module _ (w : Word) where
    -- no accepted word leaves a record that breaks a bound
    pub after_kept : refusal_of ni nz r w ≡ 0 → in_bounds (record_after r w) ≡ true
    after_kept e = whole (record_after r w) (after_sound w ((accepted_when ni nz r w).0 e))

    -- an accepted word leaves the record after it
    pub next_accepted : refusal_of ni nz r w ≡ 0 → next ni nz r w ≡ record_after r w
    unfolding next
    next_accepted e = rw (e)

    -- a refused word leaves the record as it was
    pub next_refused : (refusal_of ni nz r w ≡ 0 → ⊥) → next ni nz r w ≡ r
    unfolding next
    next_refused ne = rw (ne_eqb _ _ ne)

    -- no word makes a record that breaks no bound break one
    pub next_kept : in_bounds r ≡ true → in_bounds (next ni nz r w) ≡ true
    unfolding next
    next_kept h = either (λ k. in_bounds k ≡ true) (eqb (refusal_of ni nz r w) 0) {x = record_after r w} {y = r} (λ t. after_kept (eqb-true _ _ t)) (λ t. h)

-- over memories of one length a record that breaks no bound never gets 2
pub kept_fit : (n : ℕ) (r : Registers) (w : Word) → in_bounds r ≡ true → refusal_of n n r w ≡ 2 → ⊥
kept_fit n r w h e = false≢true (sym fit ∙ ((given_2 n n r w).0 e).0)
  where
    fit : is_unfit n n r ≡ false
    fit = rw (eq-eqb n n refl, h)

-- and so a word gets what the rest of the table says
pub kept_judged : (ni nz : ℕ) (r : Registers) (w : Word) → in_bounds r ≡ true → ni ≡ nz → lowest 1 (table false r w) ≡ refusal_of ni nz r w
unfolding refusal_of
kept_judged ni nz r w h e = rw (eq-eqb ni nz e, h)

-- ---- the read call

-- an accepted read leaves a record that breaks no bound
pub read_kept : (ni nz : ℕ) (r : Registers) → read_refusal_of ni nz r ≡ 0 → in_bounds (transferred_of r) ≡ true
read_kept ni nz r e = whole (transferred_of r) (transferred_sound r (parts r ((read_when ni nz r).0 e).sound))

-- over memories of one length a record that breaks no bound never gets 2
pub read_fit : (n : ℕ) (r : Registers) → in_bounds r ≡ true → read_refusal_of n n r ≡ 2 → ⊥
read_fit n r h e = false≢true (sym fit ∙ (read_2 n n r).0 e)
  where
    fit : is_unfit n n r ≡ false
    fit = rw (eq-eqb n n refl, h)
