-- Why the pattern runs on: the words of a line complete its segments, each in the style that the steps before it leave, and other words touch
-- neither the line nor the picture. By induction on the words; after the one that closes the line, none completes a segment. Assumes nothing.
use Rattle.std.proofs.Common.{◌≡◌, ℕ, zero, suc, ◌≤◌, Bool, true, false, cond, not, eqb, leb, ◌≢◌, ◌⊎◌, List, [], ◌∷◌, ◌++◌, refl, ap, ◌∙◌, ap₂, inl, inr, ⊎_elim, arith, eq-eqb, ne_eqb, leb-true}
use mathlib.Core.Bool.{false≢true}
use borrow.Author.Tests.{not-true}
use Rattle.picture.specs.Place.{rows_of}
use Rattle.picture.specs.Offer.{Offer}
use Rattle.line.specs.declared.Mode.TheVariants.{Zero, One}
use Rattle.line.specs.declared.Style.{Style}
use Rattle.line.specs.Segment.{mode_of, segment_offers}
use Rattle.line.specs.Polyline.{Leg, styled, segments_offers}
use Rattle.line.proofs.Polylines.{line_whole}
use Rattle.registers.specs.declared.Registers.{Registers}
use Rattle.registers.specs.declared.Figure.{Figure}
use Rattle.registers.specs.declared.word.Word.{Word}
use Rattle.registers.specs.declared.word.Word.TheVariants.{Init, Aux, Parm, At, Img, Ptrn, Reserved, Unmodelled, Unknown}
use Rattle.registers.specs.declared.word.Coordinate.{Coordinate}
use Rattle.registers.specs.declared.word.Coordinate.TheVariants.{I, Z, Y, X, T1x, T2x, Lx, Px}
use Rattle.registers.specs.declared.shape.Shape.{Shape}
use Rattle.registers.specs.declared.shape.Shape.TheVariants.{Closed}
use Rattle.registers.specs.declared.shape.Completed.TheVariants.{Nothing, Segment}
use Rattle.registers.specs.Record.{is_on, inv_bit, end_bit}
use Rattle.registers.specs.Figure.{shape_of, vertex_of, is_dashed, advanced, grown_of, completes, figure_after, vertex_completes}
use Rattle.registers.specs.Next.{coordinate_of, coordinate_completes, record_after, completed_by, pen_of}
use Rattle.refusals.specs.Allowed.{x_fits, px_fits, fits}
use Rattle.refusals.specs.Refusal.{refusal_of}
use Rattle.ground.proofs.Truth.{both}
use Rattle.refusals.proofs.Refusals.{accepted_when}
use Rattle.registers.proofs.Effects.{parm_leaves}
use Rattle.registers.proofs.Begun.{end_closes}
use Rattle.machine.specs.Offers.{next_in, each_in}
use Rattle.machine.proofs.Runs.{zero_or_not}
use Rattle.machine.proofs.Offers.{next_accepted, offers_accepted, next_refused, offers_refused}
use Rattle.chip.specs.Chip.{style_of, whole_offers, is_cut, figure_offers, chip}
use Rattle.chip.specs.Dashes.{offers_along, leg_of, legs_in, legs_along, coordinate_dashes, is_dashing, InLine, Begun, Advanced, Closes, RunsOn, Dashes}

-- ---- a segment

-- figures that are equal have one shape
same_shape : {f g : Figure} → f ≡ g → shape_of f.shape ≡ shape_of g.shape
same_shape e = ap (λ (f : Figure). shape_of f.shape) e

-- the modes 0 and 1 have a ground or none
flat_ground : (n : ℕ) → n ≤ 1 → mode_of n ≡ cond (eqb n 0) Zero One
unfolding mode_of
flat_ground zero h = refl
flat_ground (suc zero) h = refl
flat_ground (suc (suc n)) h = absurd (omega arith)

module _ (r : Registers) (n : ℕ) (line : InLine r) where
  -- a visible segment is completed
  shown_completes : is_on inv_bit r.modes.lstatus ≡ false → vertex_completes r n ≡ Segment r.figure.first (vertex_of r n)
  unfolding completes
  shown_completes shown = rw (line, shown)

  -- and a dashed one is drawn in the style of its leg, by the steps before it
  dashed_style : (rows : ℕ) → r.modes.lmode ≤ 1 → style_of r ≡ styled (leg_of rows r (vertex_of r n)) r.figure.steps (eqb r.figure.dashed 1)
  dashed_style rows flat = rw (flat_ground r.modes.lmode flat)

  -- where it does not end the line, the next one is joined to it
  dashed_advances : is_dashed r ≡ true → is_on end_bit r.modes.lstatus ≡ false → figure_after r n ≡ advanced true r.figure (vertex_of r n)
  unfolding grown_of
  dashed_advances dashed goes_on = rw (line, goes_on, dashed)

-- ---- a word

module _ (r : Registers) where
  -- it leaves the figure and completes nothing
  record Still (w : Word) : Type 0 where
    figure : (record_after r w).figure ≡ r.figure
    completed : completed_by r w ≡ Nothing

  -- it ends a dashed segment at x
  record Ends (w : Word) : Type 0 where
    x : ℕ
    figure : (record_after r w).figure ≡ figure_after r x
    completed : completed_by r w ≡ vertex_completes r x
    dashed : is_dashed r ≡ true
    unclosed : shape_of r.figure.shape ≢ Closed

  -- X and PX fit open figures alone
  x_unclosed : (shape : Shape) → x_fits shape r.modes.lmode ≡ true → shape ≢ Closed
  x_unclosed shape f c = false≢true (rw c at f)

  px_unclosed : (shape : Shape) → px_fits shape r.modes.lmode ≡ true → shape ≢ Closed
  px_unclosed shape f c = false≢true (rw c at f)

  coordinate_either : (c : Coordinate) (n : ℕ) → coordinate_dashes r c ≡ true → fits r (At c n) ≡ true → Still (At c n) ⊎ Ends (At c n)
  unfolding record_after completed_by coordinate_of coordinate_completes
  coordinate_either I n t f = inl (record { figure = refl; completed = refl })
  coordinate_either Z n t f = inl (record { figure = refl; completed = refl })
  coordinate_either Y n t f = inl (record { figure = refl; completed = refl })
  coordinate_either X n t f = inr (record { x = n; figure = refl; completed = refl; dashed = t; unclosed = x_unclosed (shape_of r.figure.shape) f })
  coordinate_either T1x n t f = absurd (false≢true t)
  coordinate_either T2x n t f = absurd (false≢true t)
  coordinate_either Lx n t f = absurd (false≢true t)
  coordinate_either Px n t f = inr (record { x = n; figure = refl; completed = refl; dashed = t; unclosed = px_unclosed (shape_of r.figure.shape) f })

  -- a word of a dashed line does one or the other, if it fits
  word_either : (w : Word) → is_dashing r w ≡ true → fits r w ≡ true → Still w ⊎ Ends w
  unfolding record_after completed_by
  word_either (Init d) t f = absurd (false≢true t)
  word_either (Aux n) t f = inl (record { figure = refl; completed = refl })
  word_either (Parm v) t f = inl (record { figure = (parm_leaves r v).figure; completed = refl })
  word_either (At c n) t f = coordinate_either c n t f
  word_either (Img d) t f = inl (record { figure = refl; completed = refl })
  word_either (Ptrn v) t f = inl (record { figure = refl; completed = refl })
  word_either Reserved t f = inl (record { figure = refl; completed = refl })
  word_either Unmodelled t f = inl (record { figure = refl; completed = refl })
  word_either Unknown t f = inl (record { figure = refl; completed = refl })

-- ---- one word more

-- what is offered of legs from where a line stands
abbrev legs_from : Figure → List Leg → List Offer
legs_from f legs = segments_offers f.steps (eqb f.dashed 1) f.first legs

module _ (ni nz : ℕ) where
  -- each accepted word is one of a dashed line
  abbrev AllDashing : Registers → List Word → Type 0
  AllDashing r ws = each_in chip is_dashing ni nz r ws ≡ true

  -- the words offer what their segments do, from where the line stands
  abbrev Drawn : Figure → Registers → List Word → Type 0
  Drawn f r ws = offers_along ni nz r ws ≡ legs_from f (legs_along ni nz r ws)

  module _ (r : Registers) (w : Word) (ws : List Word) where
    -- the test of all words is that of the first, where it is accepted, and that of the rest
    each_parts : AllDashing r (w ∷ ws) → (cond (eqb (refusal_of ni nz r w) 0) (is_dashing r w) true ≡ true) × AllDashing (next_in chip ni nz r w) ws
    unfolding each_in
    each_parts = both (cond (eqb (refusal_of ni nz r w) 0) (is_dashing r w) true) (each_in chip is_dashing ni nz (next_in chip ni nz r w) ws)

    -- an accepted word comes before what the rest offers and completes
    module _ (e : refusal_of ni nz r w ≡ 0) where
      offers_more : offers_along ni nz r (w ∷ ws) ≡ figure_offers (rows_of r.frame ni nz) r (completed_by r w) ++ offers_along ni nz (record_after r w) ws
      unfolding offers_along
      offers_more = rw (offers_accepted chip ni nz r w e, next_accepted chip ni nz r w e)

      legs_more : legs_along ni nz r (w ∷ ws) ≡ legs_in (rows_of r.frame ni nz) r (completed_by r w) ++ legs_along ni nz (record_after r w) ws
      unfolding legs_along
      legs_more = rw (eq-eqb _ _ e, next_accepted chip ni nz r w e)

      each_more : AllDashing r (w ∷ ws) → (is_dashing r w ≡ true) × AllDashing (record_after r w) ws
      each_more t = ((rw (eq-eqb _ _ e) at each_parts t).0, (rw (next_accepted chip ni nz r w e) at each_parts t).1)

    -- a refused one leaves the rest
    module _ (e : refusal_of ni nz r w ≢ 0) where
      offers_passed : offers_along ni nz r (w ∷ ws) ≡ offers_along ni nz r ws
      unfolding offers_along
      offers_passed = rw (offers_refused chip ni nz r w e, next_refused chip ni nz r w e)

      legs_passed : legs_along ni nz r (w ∷ ws) ≡ legs_along ni nz r ws
      unfolding legs_along
      legs_passed = rw (ne_eqb _ _ e, next_refused chip ni nz r w e)

      each_passed : AllDashing r (w ∷ ws) → AllDashing r ws
      each_passed t = (rw (next_refused chip ni nz r w e) at each_parts t).1

    -- so a word is refused, or leaves the figure, or ends a segment
    word_cases : {A : Type 0} → AllDashing r (w ∷ ws)
        → (refusal_of ni nz r w ≢ 0 → AllDashing r ws → A)
        → (refusal_of ni nz r w ≡ 0 → AllDashing (record_after r w) ws → Still r w → A)
        → (refusal_of ni nz r w ≡ 0 → AllDashing (record_after r w) ws → Ends r w → A) → A
    word_cases t refused still ends =
        zero_or_not (refusal_of ni nz r w)
        (λ e. let k = each_more e t in ⊎_elim (still e k.1) (ends e k.1) (word_either r w k.0 ((accepted_when ni nz r w).0 e).fitting))
        (λ e. refused e (each_passed e t))

  -- ---- some words

  -- with no figure open, they complete nothing
  closed_none : (ws : List Word) (r : Registers) → shape_of r.figure.shape ≡ Closed → AllDashing r ws
      → (offers_along ni nz r ws ≡ []) × (legs_along ni nz r ws ≡ [])
  unfolding offers_along legs_along figure_offers is_cut whole_offers
  closed_none [] r c t = (refl, refl)
  closed_none (w ∷ ws) r c t =
      word_cases r w ws t (λ e u. rw (offers_passed r w ws e, legs_passed r w ws e) (closed_none ws r c u))
      (λ e u s. rw (offers_more r w ws e, legs_more r w ws e, s.completed) (closed_none ws (record_after r w) (same_shape s.figure ∙ c) u))
      (λ e u d. absurd (d.unclosed c))

  -- a word that ends a dashed segment of an open line, and some words after it
  module _ (r : Registers) (w : Word) (ws : List Word) (line : InLine r) (d : Ends r w) (u : AllDashing (record_after r w) ws) where
    -- the segment is visible
    ends_shown : is_on inv_bit r.modes.lstatus ≡ false
    ends_shown = not-true _ (both (not (is_on inv_bit r.modes.lstatus)) (leb r.modes.lmode 1) d.dashed).0

    -- and of mode 0 or 1, so in the style of its leg
    ends_style : style_of r ≡ styled (leg_of (rows_of r.frame ni nz) r (vertex_of r d.x)) r.figure.steps (eqb r.figure.dashed 1)
    ends_style =
        dashed_style r d.x line (rows_of r.frame ni nz)
        (leb-true _ _ (both (not (is_on inv_bit r.modes.lstatus)) (leb r.modes.lmode 1) d.dashed).1)

    -- those behind it are joined to it; where it ends the line there are none
    ends_rest : (InLine (record_after r w) → Drawn (record_after r w).figure (record_after r w) ws) → Drawn (advanced true r.figure (vertex_of r d.x)) (record_after r w) ws
    unfolding segments_offers shape_of
    ends_rest on = go (is_on end_bit r.modes.lstatus) refl
      where
        go : (end : Bool) → is_on end_bit r.modes.lstatus ≡ end → Drawn (advanced true r.figure (vertex_of r d.x)) (record_after r w) ws
        go true e = let k = closed_none ws (record_after r w) (same_shape (d.figure ∙ end_closes r d.x line e)) u in rw (k.0, k.1) refl
        go false e =
            let f = d.figure ∙ dashed_advances r d.x line d.dashed e in
            on (same_shape f) ∙ ap (λ (f : Figure). legs_from f (legs_along ni nz (record_after r w) ws)) f

  -- the words of a line offer its segments, one after the other
  along : (ws : List Word) (r : Registers) → InLine r → AllDashing r ws → Drawn r.figure r ws
  unfolding offers_along legs_along segments_offers figure_offers is_cut whole_offers
  along [] r line t = refl
  along (w ∷ ws) r line t =
      word_cases r w ws t (λ e u. rw (offers_passed r w ws e, legs_passed r w ws e) (along ws r line u))
      (λ e u s.
      rw (offers_more r w ws e, legs_more r w ws e, s.completed)
      (along ws (record_after r w) (same_shape s.figure ∙ line) u ∙ ap (λ (f : Figure). legs_from f (legs_along ni nz (record_after r w) ws)) s.figure))
      (λ e u d.
      rw (offers_more r w ws e, legs_more r w ws e, d.completed, shown_completes r d.x line (ends_shown r w ws line d u))
      (ap₂ (λ (a b : List Offer). a ++ b)
      (ap (λ (s : Style). segment_offers (pen_of r) (rows_of r.frame ni nz) s r.figure.first (vertex_of r d.x)) (ends_style r w ws line d u))
      (ends_rest r w ws line d u (λ l. along ws (record_after r w) l u))))

-- ---- a line

lx_begins : (r : Registers) (n : ℕ) → Begun (record_after r (At Lx n))
unfolding record_after coordinate_of
lx_begins r n = record { steps = refl; dashed = refl }

-- a segment advances the position, whatever it offers
segment_advances : (r : Registers) (n : ℕ) → InLine r → is_on end_bit r.modes.lstatus ≡ false → Advanced r n (record_after r (At Px n)) × Advanced r n (record_after r (At X n))
unfolding record_after coordinate_of grown_of
segment_advances r n line goes_on = rw (line, goes_on) (refl, refl)

-- one that ends the line is completed
segment_closes : (r : Registers) (n : ℕ) → InLine r → is_on inv_bit r.modes.lstatus ≡ false → is_on end_bit r.modes.lstatus ≡ true
    → Closes r n (At Px n) × Closes r n (At X n)
unfolding record_after completed_by coordinate_of coordinate_completes
segment_closes r n line shown ends =
    let closes : Closes r n (At Px n) = (shown_completes r n line shown, end_closes r n line ends) in
    (closes, closes)

-- from LX on, they are a whole line
runs_on : (ni nz : ℕ) (r : Registers) (n : ℕ) (ws : List Word) → AllDashing ni nz (record_after r (At Lx n)) ws → RunsOn ni nz (vertex_of r n) (record_after r (At Lx n)) ws
unfolding record_after coordinate_of shape_of
runs_on ni nz r n ws t = along ni nz ws (record_after r (At Lx n)) refl t ∙ line_whole (vertex_of r n) (legs_along ni nz (record_after r (At Lx n)) ws)

-- the pattern runs on through the bends of a line
pub dashes : Dashes
dashes = record { begins = lx_begins; advances = segment_advances; closes = segment_closes; whole = runs_on }
