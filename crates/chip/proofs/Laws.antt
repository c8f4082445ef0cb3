-- What words and runs keep: bounds, places where nothing is drawn, the Z memory under lines of the modes 0 and 1, and both memories while the
-- enables are off; and that no triangle divides for its pixels. Assumes nothing.
use Rattle.std.proofs.Common.{◌≡◌, ℕ, zero, suc, ◌+◌, ◌*◌, ◌%◌, ◌^◌, ◌<◌, ◌≤◌, true, false, ◌&&◌, eqb, leb, List, [], length, sym, refl, ap, ◌∙◌, subst, true≢false, mul-le-mul, arith, eqb-true, leb-true}
use mathlib.Core.List.Memᴰ
use mathlib.Core.List.{Memᴰ}
use Rattle.picture.specs.declared.Vertex.{Vertex}
use Rattle.picture.specs.Limits.{largest_coordinate, most_rows}
use Rattle.picture.specs.Place.{layout_of, width_of, in_memory}
use Rattle.picture.specs.Offer.{Offer, offered}
use Rattle.picture.specs.Picture.{is_deep, Picture, picture, drawn}
use Rattle.picture.specs.Store.{Store}
use Rattle.picture.proofs.Fold.{drawn_nil}
use Rattle.picture.proofs.Stores.{filled_passed, within_inside}
use Rattle.picture.proofs.Places.{rows_low}
use Rattle.picture.proofs.Members.{Member, offered_at_lem}
use Rattle.triangle.specs.Offers.{kind_of as triangleKind, corners_of}
use Rattle.triangle.specs.Loops.{Large}
use Rattle.triangle.proofs.Members.{triangle_member, triangle_counts}
use Rattle.triangle.proofs.Sizes.{Below, never_large}
use Rattle.line.specs.Segment.{mode_of, kind_of, larger}
use Rattle.line.proofs.Members.{segment_member, segment_counts}
use Rattle.registers.specs.declared.Registers.{Registers}
use Rattle.registers.specs.declared.word.Word.{Word}
use Rattle.registers.specs.declared.word.Word.TheVariants.{Init, Aux, Parm, At, Img, Ptrn, Reserved, Unmodelled, Unknown}
use Rattle.registers.specs.declared.shape.Completed.{Completed}
use Rattle.registers.specs.declared.shape.Completed.TheVariants.{Nothing, Triangle, Segment}
use Rattle.registers.specs.declared.shape.Shape.TheVariants.{Line}
use Rattle.registers.specs.declared.subcommand.Subcommand.TheVariants.{Hcontrol}
use Rattle.registers.specs.Record.{is_on, inv_bit, i_bit, z_bit, reset_as}
use Rattle.registers.specs.Figure.{shape_of, vertex_of, completes, vertex_completes}
use Rattle.registers.specs.Next.{awaited, record_after, completed_by, pen_of}
use Rattle.registers.specs.Lines.{shortest_line, longest_line, line_unit}
use Rattle.refusals.specs.Bounds.{largest_layout, frame_fits, in_bounds}
use Rattle.refusals.specs.Refusal.{is_init, is_parm, is_ptrn, refusal_of}
use Rattle.ground.proofs.Truth.{both, either}
use Rattle.refusals.proofs.Kept.{parts, reset_kept_as, after_kept}
use Rattle.refusals.proofs.Refusals.{accepted_when}
use Rattle.refusals.proofs.Enables.{hcontrol_alone, hcontrol_init}
use Rattle.registers.proofs.Completing.{only_x_and_px, AllVertices}
use Rattle.refusals.proofs.Vertices.{Near, completed_near}
use Rattle.machine.specs.Run.{Ran, run_from, run_of}
use Rattle.machine.specs.Along.{Along}
use Rattle.machine.specs.Machine.{Memories, rows_in, step_of}
use Rattle.machine.specs.Promises.{StaysInside, Above, Off}
use Rattle.machine.proofs.Runs.{along_with}
use Rattle.machine.proofs.Steps.{step_either}
use Rattle.machine.specs.Touched.{cell_in}
use Rattle.machine.proofs.Touched.{step_above, run_above}
use Rattle.machine.proofs.Kept.{step_shallow, run_off, run_invariant}
use Rattle.chip.specs.Chip.{is_constant, style_of, whole_offers, is_cut, figure_offers, word_stores, chip}
use Rattle.chip.proofs.Figures.{offers_held}

-- ---- bounds

-- a word leaves the record within its bounds if it was within them
pub step_kept : (r : Registers) (w : Word) (m : Memories) → in_bounds r ≡ true → in_bounds (step_of chip r w m).registers ≡ true
step_kept r w m h = step_either chip r w m (λ o. in_bounds o.registers ≡ true) (λ e. after_kept (length m.i) (length m.z) r w e) (λ e. h)

-- so does a run; from reset in any layout, no record breaks a bound
pub run_kept : (layout : ℕ) → layout ≤ largest_layout → (ws : List Word) (m : Memories) → in_bounds (run_of (step_of chip) (reset_as layout) ws m).registers ≡ true
run_kept layout low ws m =
    run_invariant chip ws _ (λ r. in_bounds r ≡ true) (λ r w k e h. after_kept (length k.i) (length k.z) r w e) (reset_kept_as layout low)

-- ---- where pixels lie

-- each offer of a triangle, and of a segment; its numbers are no greater than all of theirs together
triangle_offer : (rows : ℕ) (r : Registers) (a b c : Vertex) (o : Offer) → Memᴰ o (whole_offers rows r (Triangle a b c))
    → Member (pen_of r) rows (triangleKind (is_constant r)) (a.i + a.z + (b.i + b.z) + (c.i + c.z)) o
unfolding whole_offers
triangle_offer rows r a b c =
    triangle_member (pen_of r) rows (is_constant r) a b c _ (record { i = omega arith; z = omega arith }) (record { i = omega arith; z = omega arith })
    (record { i = omega arith; z = omega arith })

segment_offer : (rows : ℕ) (r : Registers) (a b : Vertex) (o : Offer) → Memᴰ o (whole_offers rows r (Segment a b))
    → Member (pen_of r) rows (kind_of (mode_of r.modes.lmode)) (a.i + a.z + (b.i + b.z) + (r.dash.foreground + r.dash.background)) o
unfolding whole_offers
segment_offer rows r a b =
    segment_member (pen_of r) rows (style_of r) a b _ (record { i = omega arith; z = omega arith }) (record { i = omega arith; z = omega arith }) (omega arith) (omega arith)

-- each offer of a completed figure is offered, in document 01's sense
whole_offered : (rows : ℕ) (r : Registers) (f : Completed) (o : Offer) → Memᴰ o (whole_offers rows r f) → offered (pen_of r) rows o ≡ true
unfolding whole_offers
whole_offered rows r Nothing o u = absurd (Memᴰ.not-nil u)
whole_offered rows r (Triangle a b c) o u = (triangle_offer rows r a b c o u).is_offered
whole_offered rows r (Segment a b) o u = (segment_offer rows r a b o u).is_offered

-- each offer of a completed figure, of which a cut one makes none, is offered in document 01's sense
pub figure_offered : (rows : ℕ) (r : Registers) (f : Completed) (o : Offer) → Memᴰ o (figure_offers rows r f) → offered (pen_of r) rows o ≡ true
figure_offered rows r f o u = whole_offered rows r f o (offers_held rows r f o u)

-- nothing completed, nothing offered
pub nothing_offered : (rows : ℕ) (r : Registers) → figure_offers rows r Nothing ≡ []
unfolding figure_offers is_cut whole_offers
nothing_offered rows r = refl

-- only PTRN stores besides
pub word_unstored : (rows : ℕ) (r : Registers) (w : Word) → is_ptrn w ≡ false → word_stores rows r w ≡ []
unfolding word_stores
word_unstored rows r (Init d) e = refl
word_unstored rows r (Aux n) e = refl
word_unstored rows r (Parm v) e = refl
word_unstored rows r (At c n) e = refl
word_unstored rows r (Img d) e = refl
word_unstored rows r (Ptrn v) e = absurd (true≢false e)
word_unstored rows r Reserved e = refl
word_unstored rows r Unmodelled e = refl
word_unstored rows r Unknown e = refl

-- INIT neither completes a figure nor stores a pixel
pub init_quiet : (r : Registers) (w : Word) → is_init w ≡ true → (completed_by r w ≡ Nothing) × (is_ptrn w ≡ false)
unfolding completed_by
init_quiet r (Init d) e = (refl, refl)
init_quiet r (Aux n) e = absurd (true≢false (sym e))
init_quiet r (Parm v) e = absurd (true≢false (sym e))
init_quiet r (At c n) e = absurd (true≢false (sym e))
init_quiet r (Img d) e = absurd (true≢false (sym e))
init_quiet r (Ptrn v) e = absurd (true≢false (sym e))
init_quiet r Reserved e = absurd (true≢false (sym e))
init_quiet r Unmodelled e = absurd (true≢false (sym e))
init_quiet r Unknown e = absurd (true≢false (sym e))

-- what PTRN stores lies inside the memory
word_inside : (rows : ℕ) (r : Registers) (w : Word) (s : Store) → Memᴰ s (word_stores rows r w) → in_memory r.frame rows s.x s.y ≡ true
unfolding word_stores
word_inside rows r (Init d) s u = absurd (Memᴰ.not-nil u)
word_inside rows r (Aux n) s u = absurd (Memᴰ.not-nil u)
word_inside rows r (Parm v) s u = absurd (Memᴰ.not-nil u)
word_inside rows r (At c n) s u = absurd (Memᴰ.not-nil u)
word_inside rows r (Img d) s u = absurd (Memᴰ.not-nil u)
word_inside rows r (Ptrn v) s u = within_inside (pen_of r) rows _ s u
word_inside rows r Reserved s u = absurd (Memᴰ.not-nil u)
word_inside rows r Unmodelled s u = absurd (Memᴰ.not-nil u)
word_inside rows r Unknown s u = absurd (Memᴰ.not-nil u)

-- every pixel that the chip offers or stores lies inside the memory
pub inside : StaysInside chip
inside = record { at = λ rows r w o u. offered_at_lem (pen_of r) rows o (figure_offered rows r (completed_by r w) o u); stores = word_inside }

-- a word leaves both numbers at every place from the rows in use times the places of a row on
pub step_beyond : (r : Registers) (w : Word) (m : Memories) (at : ℕ) → rows_in chip r m * width_of (layout_of r.frame) r.frame.line ≤ at → cell_in (step_of chip r w m).memories at ≡ cell_in m at
step_beyond r w m at h = step_above chip r w m inside at h

-- and so does a run, where that is so at each of its words
pub run_beyond : (ws : List Word) (a : Ran Registers Memories) (at : ℕ) → Along (step_of chip) (Above chip at) a ws
    → cell_in (run_from (step_of chip) a ws).memories at ≡ cell_in a.memories at
run_beyond ws a at = run_above chip ws a at inside

-- ---- lines of the modes 0 and 1

-- while a line is open, a word completes a segment of it or nothing
pub line_completes : (P : Completed → Type 0) (r : Registers) → shape_of r.figure.shape ≡ Line → P Nothing → ((a b : Vertex) → P (Segment a b)) → (w : Word)
    → P (completed_by r w)
unfolding completes
line_completes P r line none some =
    let segment : (n : ℕ) → P (vertex_completes r n) = λ n.
    rw line (either P (is_on inv_bit r.modes.lstatus) {x = Nothing} {y = Segment r.figure.first (vertex_of r n)} (λ t. none) (λ t. some _ _)) in
    only_x_and_px (λ w f. P (f r)) (λ w. none) segment segment

-- the modes 0 and 1 have no depth
flat_mode : (n : ℕ) → n ≤ 1 → is_deep (kind_of (mode_of n)) ≡ false
unfolding mode_of
flat_mode zero h = refl
flat_mode (suc zero) h = refl
flat_mode (suc (suc n)) h = absurd (omega arith)

flat_segment : (rows : ℕ) (r : Registers) → r.modes.lmode ≤ 1 → (a b : Vertex) (o : Offer) → Memᴰ o (figure_offers rows r (Segment a b)) → is_deep o.kind ≡ false
flat_segment rows r h a b o u = ap is_deep (segment_offer rows r a b o (offers_held rows r (Segment a b) o u)).of_kind ∙ flat_mode r.modes.lmode h

-- with a line open in line mode 0 or 1 every word but PTRN leaves the Z memory whole
pub flat_lines : (r : Registers) (w : Word) (m : Memories) → shape_of r.figure.shape ≡ Line → r.modes.lmode ≤ 1 → is_ptrn w ≡ false
    → (step_of chip r w m).memories.z ≡ m.z
unfolding figure_offers whole_offers is_cut
flat_lines r w m line flat other =
    step_shallow chip r w m (
      (line_completes (λ f. (o : Offer) → Memᴰ o (figure_offers (rows_in chip r m) r f) → is_deep o.kind ≡ false) r line
          (λ o u. absurd (Memᴰ.not-nil u)) (flat_segment (rows_in chip r m) r flat) w),
      λ s u. absurd (Memᴰ.not-nil (rw (word_unstored (rows_in chip r m) r w other) at u)),
    )

-- ---- while the enables are off

-- both write enables are off
abbrev pub Disabled : Registers → Type 0
Disabled r = (is_on i_bit r.modes.hcontrol ≡ false) × (is_on z_bit r.modes.hcontrol ≡ false)

-- the word is no parameter of HCONTROL
abbrev pub Unset : Registers → Word → Memories → Type 0
Unset r w m = is_parm w ≡ true → awaited r ≡ Hcontrol → ⊥

-- after INIT both are off
pub init_disables : (r : Registers) (d : ℕ) → Disabled (record_after r (Init d))
init_disables r d = rw (hcontrol_init r d) (refl, refl)

-- any other word but a parameter of HCONTROL leaves them
disabled_kept : (r : Registers) (w : Word) → Disabled r → (is_parm w ≡ true → awaited r ≡ Hcontrol → ⊥) → is_init w ≡ false → Disabled (record_after r w)
disabled_kept r w off unset other =
    subst (λ (h : ℕ). (is_on i_bit h ≡ false) × (is_on z_bit h ≡ false)) (sym (hcontrol_alone r w unset other)) off

disabled_after : (r : Registers) (w : Word) → Disabled r → (is_parm w ≡ true → awaited r ≡ Hcontrol → ⊥) → Disabled (record_after r w)
disabled_after r (Init d) off unset = init_disables r d
disabled_after r (Aux n) off unset = disabled_kept r (Aux n) off unset refl
disabled_after r (Parm v) off unset = disabled_kept r (Parm v) off unset refl
disabled_after r (At c n) off unset = disabled_kept r (At c n) off unset refl
disabled_after r (Img d) off unset = disabled_kept r (Img d) off unset refl
disabled_after r (Ptrn v) off unset = disabled_kept r (Ptrn v) off unset refl
disabled_after r Reserved off unset = disabled_kept r Reserved off unset refl
disabled_after r Unmodelled off unset = disabled_kept r Unmodelled off unset refl
disabled_after r Unknown off unset = disabled_kept r Unknown off unset refl

-- so nothing is stored after INIT until an enable is set: a run that begins with both off, and in which no parameter of HCONTROL comes,
-- leaves both memories whole
pub unstored : (ws : List Word) (a : Ran Registers Memories) → Disabled a.registers → Along (step_of chip) Unset a ws → (run_from (step_of chip) a ws).memories ≡ a.memories
unstored ws a off unset =
    run_off chip ws a
    (along_with (step_of chip) Disabled Unset (Off chip) (λ r w m p k. p)
    (λ r w m p k e. step_either chip r w m (λ o. Disabled o.registers) (λ n. disabled_after r w p k) (λ n. p)) ws a off unset)

-- ---- how many pixels pass

larger_low : (a b : Vertex) → Near a → Near b → larger a b ≤ largest_coordinate
unfolding larger
larger_low a b h k = omega (arith, h.across, h.up, k.across, k.up)

-- the line length, within the bounds
module _ (r : Registers) (h : in_bounds r ≡ true) where
  line_parts : (leb shortest_line r.frame.line && leb r.frame.line longest_line ≡ true) × (eqb (r.frame.line % line_unit) 0 ≡ true)
  unfolding frame_fits
  line_parts =
      both (leb shortest_line r.frame.line && leb r.frame.line longest_line) (eqb (r.frame.line % line_unit) 0)
      (both (leb shortest_line r.frame.line && leb r.frame.line longest_line && eqb (r.frame.line % line_unit) 0) (leb r.frame.layout largest_layout) (parts r h).frame).0

  -- a record within its bounds has a line length of at most the longest that is listed
  pub line_low : r.frame.line ≤ longest_line
  line_low = leb-true _ _ (both (leb shortest_line r.frame.line) (leb r.frame.line longest_line) line_parts.0).1

  -- a record within its bounds has a line length that is a multiple of `line_unit`
  pub line_whole : r.frame.line % line_unit ≡ 0
  line_whole = eqb-true _ _ line_parts.1

-- no more than the rows in use have
whole_counts : (rows : ℕ) (r : Registers) (f : Completed) (p : Picture) → AllVertices Near f → rows ≤ most_rows → r.frame.line ≤ longest_line
    → (drawn (pen_of r) (whole_offers rows r f) p).passed ≤ p.passed + most_rows * longest_line
unfolding whole_offers
whole_counts rows r Nothing p near h k = rw (drawn_nil (pen_of r) p) (omega arith)
whole_counts rows r (Triangle a b c) p near h k =
    omega (arith, triangle_counts (pen_of r) rows (is_constant r) a b c p, mul-le-mul {n₁ = rows} {m₁ = r.frame.line} {n₂ = most_rows} {m₂ = longest_line} h k)
whole_counts rows r (Segment a b) p near h k = omega (arith, segment_counts (pen_of r) rows (style_of r) a b p, larger_low a b near.0 near.1)

-- within the limits of coordinates, rows and line length a completed figure adds at most `most_rows` times `longest_line` to the count
pub figure_counts : (rows : ℕ) (r : Registers) (f : Completed) (p : Picture) → AllVertices Near f → rows ≤ most_rows → r.frame.line ≤ longest_line
    → (drawn (pen_of r) (figure_offers rows r f) p).passed ≤ p.passed + most_rows * longest_line
unfolding figure_offers
figure_counts rows r f p near h k =
    either (λ (os : List Offer). (drawn (pen_of r) os p).passed ≤ p.passed + most_rows * longest_line) (is_cut r f) {x = []} {y = whole_offers rows r f}
    (λ t. rw (drawn_nil (pen_of r) p) (omega arith)) (λ t. whole_counts rows r f p near h k)

-- the count of one word is below 2 ^ 32
pub count_low : (r : Registers) (w : Word) (m : Memories) → (step_of chip r w m).passed < 2 ^ 32
count_low r w m =
    step_either chip r w m (λ o. o.passed < 2 ^ 32)
    (λ e.
    let fits = (accepted_when (length m.i) (length m.z) r w).0 e in
    omega (
      arith,
      filled_passed (pen_of r) (word_stores (rows_in chip r m) r w) (drawn (pen_of r) (figure_offers (rows_in chip r m) r (completed_by r w)) (picture m.i m.z 0)),
      figure_counts (rows_in chip r m) r (completed_by r w) (picture m.i m.z 0) (completed_near (length m.i) (length m.z) r w e)
          (rows_low r.frame (length m.i) (length m.z)) (line_low r fits.sound),
    ))
    (λ e. omega arith)

-- PTRN's count is 0
pub ptrn_counts : (r : Registers) (v : ℕ) (m : Memories) → (step_of chip r (Ptrn v) m).passed ≡ 0
unfolding completed_by figure_offers whole_offers is_cut
ptrn_counts r v m =
    step_either chip r (Ptrn v) m (λ o. o.passed ≡ 0)
    (λ e. filled_passed (pen_of r) (word_stores (rows_in chip r m) r (Ptrn v)) (drawn (pen_of r) [] (picture m.i m.z 0)) ∙ ap (λ (p : Picture). p.passed) (drawn_nil (pen_of r) (picture m.i m.z 0)))
    (λ e. refl)

-- ---- divisions

near_below : {v : Vertex} → Near v → Below largest_coordinate v
near_below h = record { across = omega (arith, h.across); up = omega (arith, h.up) }

-- no triangle that an accepted word completes is too large for carried numbers, whichever way its corners turn; and only such triangles may be
-- drawn with divisions a pixel (`divided_row` of `triangle` asks for `Large`)
pub undivided : (ni nz : ℕ) (r : Registers) (w : Word) (a b c : Vertex) → refusal_of ni nz r w ≡ 0 → completed_by r w ≡ Triangle a b c
    → (Large (corners_of a b c c) → ⊥) × (Large (corners_of a c b c) → ⊥)
undivided ni nz r w a b c e is =
    let near = subst (λ (f : Completed). AllVertices Near f) is (completed_near ni nz r w e) in
    let p = near_below near.0 in
    let q = near_below near.1 in
    let s = near_below near.2 in
    (never_large (corners_of a b c c) p q s, never_large (corners_of a c b c) p s q)
