-- What SECTION changes of a word: where no figure is cut the offers are those of before, and a cut triangle offers nothing. Assumes nothing.
use Rattle.std.proofs.Common.{◌≡◌, ℕ, ◌≤◌, Bool, true, false, ◌&&◌, ltb, refl, le-ltb}
use mathlib.Core.Bool.{false≢true}
use Rattle.picture.specs.declared.Vertex.{Vertex}
use Rattle.picture.specs.Picture.{picture}
use Rattle.picture.proofs.Fold.{drawn_nil}
use Rattle.picture.proofs.Stores.{filled_nil}
use Rattle.registers.specs.declared.Registers.{Registers}
use Rattle.registers.specs.declared.word.Word.{Word}
use Rattle.registers.specs.declared.shape.Shape.{Shape}
use Rattle.registers.specs.declared.shape.Shape.TheVariants.{Closed, Strip, Fan, Line}
use Rattle.registers.specs.declared.shape.Completed.{Completed}
use Rattle.registers.specs.declared.shape.Completed.TheVariants.{Nothing, Triangle, Segment}
use Rattle.registers.specs.Record.{is_on, section_bit, inv_bit}
use Rattle.registers.specs.Figure.{shape_of, vertex_of, is_pair, completes, vertex_completes}
use Rattle.registers.specs.Next.{completed_by, pen_of}
use Rattle.refusals.specs.Refusal.{is_ptrn}
use Rattle.ground.proofs.Truth.{either}
use Rattle.registers.proofs.Completing.{only_x_and_px}
use Rattle.machine.specs.Machine.{Memories, rows_in, step_of}
use Rattle.machine.proofs.Steps.{step_accepted, step_refused, step_either}
use Rattle.chip.specs.Chip.{is_constant, is_cut, figure_offers, chip}
use Rattle.chip.specs.Section.{uncut, AsBefore, Sectioned}
use Rattle.chip.proofs.Laws.{word_unstored, line_completes}

-- ---- which figures are cut

-- of three tests the second fails, or the last
second_fails : (a b c : Bool) → b ≡ false → a && b && c ≡ false
second_fails true b c e = rw e
second_fails false b c e = refl

last_fails : (a b c : Bool) → c ≡ false → a && b && c ≡ false
last_fails true true c e = e
last_fails true false c e = refl
last_fails false b c e = refl

module _ (r : Registers) where
  -- with sectioning off, none
  off_uncut : is_on section_bit r.modes.zcontrol ≡ false → (f : Completed) → is_cut r f ≡ false
  unfolding is_cut
  off_uncut e Nothing = refl
  off_uncut e (Triangle a b c) = second_fails (is_constant r) (is_on section_bit r.modes.zcontrol) (ltb r.modes.section c.z) e
  off_uncut e (Segment a b) = refl

  -- while triangles are Gouraud, none
  gouraud_uncut : is_constant r ≡ false → (f : Completed) → is_cut r f ≡ false
  unfolding is_cut
  gouraud_uncut e Nothing = refl
  gouraud_uncut e (Triangle a b c) = rw e
  gouraud_uncut e (Segment a b) = refl

  module _ (h : r.latch.z ≤ r.modes.section) where
    triangle_near : (a b : Vertex) (n : ℕ) → is_cut r (Triangle a b (vertex_of r n)) ≡ false
    unfolding is_cut
    triangle_near a b n = last_fails (is_constant r) (is_on section_bit r.modes.zcontrol) (ltb r.modes.section r.latch.z) (le-ltb _ _ h)

    completes_near : (shape : Shape) (inv : Bool) (n : ℕ) → is_cut r (completes shape inv r.figure (vertex_of r n)) ≡ false
    unfolding completes is_cut
    completes_near Closed inv n = refl
    completes_near Strip inv n = either (λ (f : Completed). is_cut r f ≡ false) (is_pair r.figure) (λ t. triangle_near r.figure.first r.figure.second n) (λ t. refl)
    completes_near Fan inv n = either (λ (f : Completed). is_cut r f ≡ false) (is_pair r.figure) (λ t. triangle_near r.figure.first r.figure.second n) (λ t. refl)
    completes_near Line inv n = either (λ (f : Completed). is_cut r f ≡ false) inv (λ t. refl) (λ t. refl)

    -- where the Z register is not greater than the section depth, none that a word completes
    near_uncut : (w : Word) → is_cut r (completed_by r w) ≡ false
    unfolding is_cut
    near_uncut =
        let new : (n : ℕ) → is_cut r (vertex_completes r n) ≡ false = completes_near (shape_of r.figure.shape) (is_on inv_bit r.modes.lstatus) in
        only_x_and_px (λ w f. is_cut r (f r) ≡ false) (λ w. refl) new new

  -- while a line is open, none that a word completes
  line_uncut : shape_of r.figure.shape ≡ Line → (w : Word) → is_cut r (completed_by r w) ≡ false
  unfolding is_cut
  line_uncut e = line_completes (λ f. is_cut r f ≡ false) r e refl (λ a b. refl)

-- ---- what a word does then

module _ (r : Registers) (w : Word) (m : Memories) where
  -- a word that completes no cut figure does what it did before
  pub as_before : is_cut r (completed_by r w) ≡ false → AsBefore r w m
  unfolding step_of figure_offers
  as_before e = rw e

  -- one that completes a cut figure is not PTRN, which completes none
  cut_other : (w : Word) → is_cut r (completed_by r w) ≡ true → is_ptrn w ≡ false
  unfolding is_cut
  cut_other = only_x_and_px (λ w f. is_cut r (f r) ≡ true → is_ptrn w ≡ false) (λ w e. absurd (false≢true e)) (λ n e. refl) (λ n e. refl)

  -- and passes nothing and changes no place
  pub cut_still : is_cut r (completed_by r w) ≡ true → ((step_of chip r w m).passed ≡ 0) × ((step_of chip r w m).memories ≡ m)
  unfolding figure_offers
  cut_still e =
      step_either chip r w m (λ o. (o.passed ≡ 0) × (o.memories ≡ m))
      (λ k.
      rw (e, drawn_nil (pen_of r) (picture m.i m.z 0), word_unstored (rows_in chip r m) r w (cut_other w e), filled_nil (pen_of r) (picture m.i m.z 0))
      (refl, refl))
      (λ k. (refl, refl))

  -- a word's number and the registers after it do not look at what is cut
  still_completed : ((step_of chip r w m).refusal ≡ (step_of uncut r w m).refusal) × ((step_of chip r w m).registers ≡ (step_of uncut r w m).registers)
  still_completed =
      step_either chip r w m (λ o. (o.refusal ≡ (step_of uncut r w m).refusal) × (o.registers ≡ (step_of uncut r w m).registers))
      (λ k. rw (step_accepted uncut r w m k) (refl, refl)) (λ k. rw (step_refused uncut r w m k) (refl, refl))

  -- all that `Sectioned` says holds of every word, from any registers and over any memories
  pub sectioned : Sectioned r w m
  sectioned =
      record {
        completed = still_completed;
        off = λ e. as_before (off_uncut r e (completed_by r w));
        far = λ e h. as_before (near_uncut r (rw e h) w);
        near = λ h. as_before (near_uncut r h w);
        gouraud = λ e. as_before (gouraud_uncut r e (completed_by r w));
        line = λ e. as_before (line_uncut r e w);
        cut = cut_still;
      }
