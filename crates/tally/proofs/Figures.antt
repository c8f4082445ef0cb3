-- A figure counted: drawn with the depth test and both write enables off, all its pixels pass and none is stored. Assumes nothing.
use Rattle.std.proofs.Common.{◌≡◌, ℕ, ◌+◌, ◌*◌, ◌/◌, ◌%◌, ◌≤◌, Bool, false, cond, not, ◌&&◌, eqb, ltb, List, [], length, sym, refl, ap, ◌∙◌, ap₂, zero-add, arith}
use lib.Bits.{bit_and, and_comm, and_mask, and_high, and_shifted, mask_lt}
use Rattle.picture.specs.declared.Pen.{Pen}
use Rattle.picture.specs.Place.{rows_of, in_memory}
use Rattle.picture.specs.Offer.{Offer, in_window, shows, offered, keep}
use Rattle.picture.specs.Picture.{Picture, picture, drawn}
use Rattle.picture.specs.Draw.{spans}
use Rattle.picture.proofs.Passed.{drawn_leaves_i, drawn_leaves_z}
use Rattle.picture.proofs.Places.{rows_low}
use Rattle.picture.proofs.Spans.{spans_same}
use Rattle.triangle.specs.Offers.{kind_of as triangleKind, pixel_offers, triangle_offers}
use Rattle.picture.specs.declared.Vertex.{Vertex}
use Rattle.line.specs.declared.Mode.{Mode}
use Rattle.line.specs.declared.Mode.TheVariants.{Zero, One, Two}
use Rattle.line.specs.declared.Style.{Style}
use Rattle.line.specs.Segment.{kind_of as linedKind, mode_of, larger, from, dash_offers, shade_offers, step_offers, segment_offers}
use Rattle.registers.specs.declared.Registers.{Registers}
use Rattle.registers.specs.declared.word.Word.{Word}
use Rattle.registers.specs.declared.shape.Completed.{Completed}
use Rattle.registers.specs.declared.shape.Completed.TheVariants.{Nothing, Triangle, Segment}
use Rattle.registers.specs.Record.{is_on, section_bit}
use Rattle.registers.specs.Next.{completed_by, pen_of}
use Rattle.refusals.proofs.Refusals.{accepted_when}
use Rattle.refusals.proofs.Vertices.{completed_near}
use Rattle.machine.specs.Machine.{Memories, rows_in, number_of}
use Rattle.chip.specs.Chip.{is_constant, style_of, whole_offers, is_cut, figure_offers, chip}
use Rattle.chip.proofs.Laws.{figure_counts, line_low}
use Rattle.tally.specs.declared.Count.{Count}
use Rattle.tally.specs.Hidden.{offered_of}
use Rattle.tally.specs.Tally.{Balanced, Within, EachBalanced, EachWithin, figures_in, passed_in}
use Rattle.tally.specs.Overdraw.{line_kind, figure_tally, count_of, figures_of, pixels_of, picture_of, muted_of}
use Rattle.tally.proofs.HiddenLaws.{drawn_hidden, figure_balanced, untested_hidden}
use Rattle.tally.proofs.Adding.{none_balanced, only_balanced, none_each, only_each, figures_only, passed_only}

-- ---- how many pixels a figure offers

-- what a figure offers asks neither for the depth test nor for the write enables
muted_step : (rows : ℕ) (r : Registers) (style : Style) (mode : Mode) (a b : Vertex) (k : ℕ)
    → step_offers (pen_of (muted_of r)) rows style mode a b k ≡ step_offers (pen_of r) rows style mode a b k
unfolding from dash_offers shade_offers keep offered in_window in_memory shows
muted_step rows r style Zero a b k = refl
muted_step rows r style One a b k = refl
muted_step rows r style Two a b k = refl

muted_whole : (rows : ℕ) (r : Registers) (f : Completed) → whole_offers rows (muted_of r) f ≡ whole_offers rows r f
unfolding whole_offers triangle_offers pixel_offers segment_offers spans keep offered in_window in_memory shows
muted_whole rows r Nothing = refl
muted_whole rows r (Triangle a b c) = refl
muted_whole rows r (Segment a b) = spans_same _ _ (larger a b + 1) (λ k h. muted_step rows r (style_of r) (mode_of r.modes.lmode) a b k)

-- and the section's bit stays, so that what is cut stays cut
muted_section : (z : ℕ) → is_on section_bit (bit_and z 63) ≡ is_on section_bit z
muted_section z =
    let same : bit_and z 63 / 32 % 2 ≡ z / 32 % 2 = omega (arith, and_mask z 6) in
    ap (λ (n : ℕ). not (eqb n 0)) (and_high (bit_and z 63) 1 5 ∙ ap (λ (n : ℕ). n * 32) same ∙ sym (and_high z 1 5))

muted_cut : (r : Registers) (f : Completed) → is_cut (muted_of r) f ≡ is_cut r f
unfolding is_cut
muted_cut r Nothing = refl
muted_cut r (Triangle a b c) = ap (λ (s : Bool). is_constant r && s && ltb r.modes.section c.z) (muted_section r.modes.zcontrol)
muted_cut r (Segment a b) = refl

muted_offers : (rows : ℕ) (r : Registers) (f : Completed) → figure_offers rows (muted_of r) f ≡ figure_offers rows r f
unfolding figure_offers
muted_offers rows r f = ap₂ (λ (b : Bool) (os : List Offer). cond b [] os) (muted_cut r f) (muted_whole rows r f)

-- the depth test is off: its bit stands above those that stay
muted_untested : (r : Registers) → (pen_of (muted_of r)).depth ≡ false
muted_untested r =
    ap (λ (n : ℕ). not (eqb n 0)) (and_comm (bit_and r.modes.zcontrol 63) 64 ∙ and_shifted 1 6 (bit_and r.modes.zcontrol 63) (mask_lt r.modes.zcontrol 6))

-- so all of it passes
muted_passed : (rows : ℕ) (r : Registers) (f : Completed) (p : Picture)
    → (drawn (pen_of (muted_of r)) (figure_offers rows (muted_of r) f) p).passed ≡ p.passed + offered_of (figure_offers rows r f)
muted_passed rows r f p =
    let os = figure_offers rows (muted_of r) f in
    omega (
      arith,
      drawn_hidden (pen_of (muted_of r)) os p,
      untested_hidden (pen_of (muted_of r)) os p (muted_untested r),
      ap (λ (us : List Offer). length us) (muted_offers rows r f),
    )

module _ (r : Registers) (f : Completed) (i z : List ℕ) {q : Registers} {i' z' : List ℕ} {n : ℕ} (is : q ≡ muted_of r)
    (drew : picture i' z' n ≡ drawn (pen_of q) (figure_offers (rows_of q.frame (length i) (length z)) q f) (picture i z 0)) where
  muted_drew : picture i' z' n ≡ drawn (pen_of (muted_of r)) (figure_offers (rows_of r.frame (length i) (length z)) (muted_of r) f) (picture i z 0)
  muted_drew = drew ∙ ap (λ (s : Registers). drawn (pen_of s) (figure_offers (rows_of s.frame (length i) (length z)) s f) (picture i z 0)) is

  -- a figure drawn with muted registers tells as many pixels passed as it offers with its own
  pub muted_count : n ≡ offered_of (figure_offers (rows_of r.frame (length i) (length z)) r f)
  muted_count = ap (λ (p : Picture). p.passed) muted_drew ∙ muted_passed (rows_of r.frame (length i) (length z)) r f (picture i z 0) ∙ zero-add _

  -- and it leaves the I memory as it was
  pub muted_i : i' ≡ i
  muted_i = ap (λ (p : Picture). p.i) muted_drew ∙ drawn_leaves_i (pen_of (muted_of r)) _ (picture i z 0) refl

  -- and it leaves the Z memory as it was
  pub muted_z : z' ≡ z
  muted_z = ap (λ (p : Picture). p.z) muted_drew ∙ drawn_leaves_z (pen_of (muted_of r)) _ (picture i z 0) refl

-- an accepted word offers no more than 2^28 pixels
pub offered_low : (r : Registers) (w : Word) (m : Memories) → number_of chip r w m ≡ 0 → offered_of (pixels_of r w m) ≤ 268435456
offered_low r w m e =
    let fits = (accepted_when (length m.i) (length m.z) r w).0 e in
    omega (
      arith,
      muted_passed (rows_in chip r m) r (completed_by r w) (picture_of m),
      figure_counts (rows_in chip r m) (muted_of r) (completed_by r w) (picture_of m) (completed_near (length m.i) (length m.z) r w e)
          (rows_low r.frame (length m.i) (length m.z)) (line_low r fits.sound),
    )

-- ---- a figure's count, by its kind

-- the kind of a line is that of its pixels
pub kind_same : (m : Mode) → linedKind m ≡ line_kind m
kind_same Zero = refl
kind_same One = refl
kind_same Two = refl

module _ (r : Registers) (c : Count) where
  -- a count within what n words can come to stays so as the tally of a figure
  pub figure_each : (n : ℕ) (f : Completed) → Within n c → EachWithin n (figure_tally r f c)
  unfolding figure_tally
  figure_each n Nothing h = none_each n
  figure_each n (Triangle a b d) h = only_each n (triangleKind (is_constant r)) c h
  figure_each n (Segment a b) h = only_each n (line_kind (mode_of r.modes.lmode)) c h

  -- a balanced count makes a tally of a figure that is balanced in every kind
  pub figure_tally_balanced : (f : Completed) → Balanced c → EachBalanced (figure_tally r f c)
  unfolding figure_tally
  figure_tally_balanced Nothing h = none_balanced
  figure_tally_balanced (Triangle a b d) h = only_balanced (triangleKind (is_constant r)) c h
  figure_tally_balanced (Segment a b) h = only_balanced (line_kind (mode_of r.modes.lmode)) c h

  -- a figure is counted if one is completed
  pub figure_counted : (f : Completed) → c.figures ≡ 1 → figures_in (figure_tally r f c) ≡ figures_of f
  unfolding figure_tally
  figure_counted Nothing h = refl
  figure_counted (Triangle a b d) h = figures_only (triangleKind (is_constant r)) c ∙ h
  figure_counted (Segment a b) h = figures_only (line_kind (mode_of r.modes.lmode)) c ∙ h

  -- what passed of it: nothing where nothing is completed
  pub figure_passed : (f : Completed) → (f ≡ Nothing → c.passed ≡ 0) → passed_in (figure_tally r f c) ≡ c.passed
  unfolding figure_tally
  figure_passed Nothing h = sym (h refl)
  figure_passed (Triangle a b d) h = passed_only (triangleKind (is_constant r)) c
  figure_passed (Segment a b) h = passed_only (line_kind (mode_of r.modes.lmode)) c

-- a figure's count is what a word can come to
pub count_within : (pen : Pen) (os : List Offer) (i z : List ℕ) → offered_of os ≤ 268435456 → Within 1 (count_of pen os (picture i z 0))
count_within pen os i z low =
    let b = figure_balanced pen os i z in
    record { figures = omega arith; offered = omega (arith, low); passed = omega (arith, b, low); hidden = omega (arith, b, low) }
