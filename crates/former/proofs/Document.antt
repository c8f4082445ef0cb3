-- The former card is document 01's, with the requests that landed before [12]. Assumes nothing.
use mathlib.Core.Path.{◌≡◌, refl, ap, ◌∙◌}
use mathlib.Core.Bool.{Bool, true, false, cond, not, ◌||◌, or-true}
use mathlib.Core.List.{[], ◌∷◌}
use Prim.Native.Nat.{ℕ, ◌≤◌, ◌/◌, min}
use native.Mathlib.Omega.{arith}
use lib.Dec.{leb, ltb, eqb}
use borrow.Author.Tests.{le-leb, leb-true, eq-eqb, eqb-true}
use Rattle.picture.specs.Limits.{largest_coordinate, largest_border, most_rows}
use Rattle.picture.specs.Place.{plain_frame, layout_of, is_whole, rows_in, rows_of}
use Rattle.registers.specs.declared.Registers.{Registers}
use Rattle.registers.specs.declared.word.Word.{Word}
use Rattle.registers.specs.declared.word.Word.TheVariants.{Init, Aux, Parm, At}
use Rattle.registers.specs.declared.word.Coordinate.{Coordinate}
use Rattle.registers.specs.declared.word.Coordinate.TheVariants.{I, Z, Y, X, T1x, T2x, Lx, Px}
use Rattle.registers.specs.declared.subcommand.Subcommand.{Subcommand}
use Rattle.registers.specs.declared.subcommand.Subcommand.TheVariants.{Window, Load, Save}
use Rattle.registers.specs.Lines.{line_of}
use Rattle.registers.specs.Record.{window, settings, reset_of, with_window, init_of}
use Rattle.registers.specs.Subcommand.{subcommand_of}
use Rattle.registers.specs.Figure.{shape_of}
use Rattle.registers.specs.Next.{awaited, transferred_of, record_after}
use Rattle.refusals.specs.Allowed.{is_border, parameter_allowed, allowed}
use Rattle.refusals.specs.Bounds.{frame_fits, modes_fit, window_fits, vertex_fits, figure_fits, parked_fits, region_fits, in_bounds}
use Rattle.refusals.specs.Refusal.{is_init}
use Rattle.refusals.proofs.Refusals.{accepted_when, read_when}
use Rattle.refusals.proofs.Kept.{parts, whole, sound_window, reset_kept, after_kept, read_kept}
use Rattle.former.specs.Former.{former_coordinate, former_border, former_rows, was_coordinate, was_border, was_value, was_number, was_word, was_window, was_vertex, was_region, was_record, was_unfit, was_barred, was_refused, former_window, former_reset, was_after, was_rows, former, was_read_refused}
use Rattle.former.specs.Document.{number_after, Document01}
use Rattle.former.specs.Request.{kept}
use Rattle.former.proofs.Words.{was_taken, read_taken}
use Rattle.former.proofs.Kept.{inside_parts, inside_whole, transferred_in, reset_in, after_in_lem}

-- ---- rows

rows : (line ni nz : ℕ) → was_rows (rows_of (plain_frame line) ni nz) ≡ cond (eqb line 0) 0 (min (min ni nz / line) former_rows)
unfolding rows_of layout_of is_whole rows_in
rows line ni nz = go (eqb line 0) (min ni nz / line)
  where
    go : (t : Bool) (whole : ℕ) → min (cond (not t) (min whole most_rows) 0) former_rows ≡ cond t 0 (min whole former_rows)
    go true whole = refl
    go false whole = omega arith

-- ---- number 9

-- of two limits the lower one decides
lower : (n low high : ℕ) → low ≤ high → not (leb n high) || not (leb n low) ≡ not (leb n low)
lower n low high h = go (leb n low) refl
  where
    go : (t : Bool) → leb n low ≡ t → not (leb n high) || not t ≡ not t
    go true e = let k : n ≤ high = omega (arith, h, leb-true n low e) in rw (le-leb n high k)
    go false e = or-true (not (leb n high))

coordinate_lower : (n : ℕ) → not (leb n largest_coordinate) || not (was_coordinate n) ≡ not (was_coordinate n)
coordinate_lower n = lower n former_coordinate largest_coordinate (omega arith)

coordinates : (r : Registers) (c : Coordinate) (n : ℕ) → was_barred r (At c n) ≡ not (was_number c n)
coordinates r I n = refl
coordinates r Z n = refl
coordinates r Y n = coordinate_lower n
coordinates r X n = coordinate_lower n
coordinates r T1x n = coordinate_lower n
coordinates r T2x n = coordinate_lower n
coordinates r Lx n = coordinate_lower n
coordinates r Px n = coordinate_lower n

-- by the subcommand that is awaited
by_awaited : (r : Registers) (v : ℕ) (s : Subcommand) → awaited r ≡ s → was_barred r (Parm v) ≡ not (parameter_allowed s r.parked.came v) || not (was_value s v)
by_awaited r v s e = ap (λ (k : Subcommand). not (parameter_allowed k r.parked.came v) || not (was_value k v)) e

borders : (r : Registers) (v : ℕ) → awaited r ≡ Window → was_barred r (Parm v) ≡ not (cond (ltb r.parked.came 4) (was_border v) (eqb v 0))
borders r v e = by_awaited r v Window e ∙ go (ltb r.parked.came 4)
  where
    nothing : (t : Bool) → eqb v 0 ≡ t → not t || not (was_border v) ≡ not t
    nothing true k = rw (eqb-true v 0 k)
    nothing false k = refl

    go : (t : Bool) → not (cond t (is_border v) (eqb v 0)) || not (was_border v) ≡ not (cond t (was_border v) (eqb v 0))
    go true = lower v former_border largest_border (omega arith)
    go false = nothing (eqb v 0) refl

others : (r : Registers) (w : Word) → was_word r w ≡ true → was_barred r w ≡ not (allowed r w)
others r w e = ap (λ (t : Bool). not (allowed r w) || not t) e ∙ go (allowed r w)
  where
    go : (t : Bool) → not t || false ≡ not t
    go true = refl
    go false = refl

-- ---- number 2

fit : (ni nz : ℕ) (r : Registers) → ni ≡ nz → in_bounds r ≡ true → was_record r ≡ true → was_unfit ni nz r ≡ false
fit ni nz r e h k = rw (eq-eqb ni nz e, h, k)

-- a record in bounds is so with the former window
narrowed : (r : Registers) → in_bounds r ≡ true → in_bounds (with_window r former_window) ≡ true
unfolding window_fits
narrowed r h = whole (with_window r former_window) (sound_window (parts r h) former_window refl)

begun : (n : ℕ) → was_unfit n n former_reset ≡ false
begun n = fit n n former_reset refl (narrowed reset_of reset_kept) (inside_whole former_reset reset_in)

word_leaves : (ni nz : ℕ) (r : Registers) (w : Word) → former.refusal ni nz r w ≡ 0 → was_unfit ni nz (former.next r w) ≡ false
unfolding was_after
word_leaves ni nz r w e =
    let t = was_taken ni nz r w e in
    let h = after_kept ni nz r w t.now in
    fit ni nz (former.next r w) ((accepted_when ni nz r w).0 t.now).same (go h (is_init w)) (inside_whole (former.next r w) (after_in_lem r w (inside_parts r t.bounds) t.word))
  where
    go : in_bounds (record_after r w) ≡ true → (b : Bool) → in_bounds (cond b (with_window (record_after r w) former_window) (record_after r w)) ≡ true
    go h true = narrowed (record_after r w) h
    go h false = h

read_leaves : (ni nz : ℕ) (r : Registers) → was_read_refused ni nz r ≡ 0 → was_unfit ni nz (transferred_of r) ≡ false
read_leaves ni nz r e =
    let t = read_taken ni nz r r.window (kept refl) e in
    fit ni nz (transferred_of r) ((read_when ni nz r).0 t.0).same (read_kept ni nz r t.0) (inside_whole (transferred_of r) (transferred_in r (inside_parts r t.1)))

-- ---- document 01's cases

cases : (n : ℕ)
    → (number_after n (Init 0 ∷ []) (At Y 8191) ≡ 0) × (number_after n (Init 0 ∷ []) (At Y 8192) ≡ 9)
    × (number_after n (Init 0 ∷ Aux 6 ∷ []) (Parm 8192) ≡ 0) × (number_after n (Init 0 ∷ Aux 6 ∷ []) (Parm 8193) ≡ 9)
    × (number_after n (Init 0 ∷ []) (At X 9000) ≡ 9)
unfolding was_refused was_after record_after settings line_of subcommand_of shape_of was_record was_window was_vertex was_region in_bounds frame_fits modes_fit window_fits vertex_fits figure_fits parked_fits region_fits
cases n = let like = eq-eqb n n refl in (rw like, rw like, rw like, rw like, rw like)

-- ---- all of it

init : (r : Registers) (d : ℕ) → former.next r (Init d) ≡ with_window (init_of r d) (window 0 former_border former_border 0)
unfolding was_after record_after
init r d = refl

next : (r : Registers) (w : Word) → is_init w ≡ false → former.next r w ≡ record_after r w
unfolding was_after
next r w e = rw e

-- what `Document01` says of the former card is so, sentence by sentence
pub document_01 : Document01
document_01 =
    record {
      limits = (refl, refl, refl);
      rows = rows;
      reset = refl;
      init = init;
      next = next;
      coordinates = coordinates;
      borders = borders;
      loads = λ r v e. by_awaited r v Load e ∙ coordinate_lower v;
      saves = λ r v e. by_awaited r v Save e ∙ coordinate_lower v;
      others = others;
      begun = begun;
      kept = word_leaves;
      read_kept = read_leaves;
      cases = cases;
    }
