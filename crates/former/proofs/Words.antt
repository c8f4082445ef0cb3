-- What the former card accepted, today's accepts, whichever of the two windows stands; and the two records go on alike. Assumes nothing.
use mathlib.Core.Path.{◌≡◌, refl, ap, ◌∙◌}
use mathlib.Core.Bool.{Bool, true, false, cond, not}
use mathlib.Core.List.{List}
use Prim.Native.Nat.{ℕ, ◌+◌}
use lib.Dec.{ltb}
use borrow.Author.Tests.{not-false}
use Rattle.registers.specs.declared.Window.{Window}
use Rattle.registers.specs.declared.Parked.{Parked}
use Rattle.registers.specs.declared.Registers.{Registers}
use Rattle.registers.specs.declared.word.Word.{Word}
use Rattle.registers.specs.declared.word.Word.TheVariants.{Init, Aux, Parm, At, Img, Ptrn, Reserved, Unmodelled, Unknown}
use Rattle.registers.specs.declared.word.Coordinate.{Coordinate}
use Rattle.registers.specs.declared.word.Coordinate.TheVariants.{I, Z, Y, X, T1x, T2x, Lx, Px}
use Rattle.registers.specs.declared.subcommand.Subcommand.{Subcommand}
use Rattle.registers.specs.Record.{nothing_awaited, settings, with_window, with_parked}
use Rattle.registers.specs.Subcommand.{wants}
use Rattle.registers.specs.Next.{awaited, joined_of, counted, effect_of, parm_of, coordinate_of, record_after}
use Rattle.refusals.specs.Allowed.{allowed, fits}
use Rattle.refusals.specs.Bounds.{window_fits}
use Rattle.refusals.specs.Refusal.{table_of, table, is_unfit, refusal_of, read_table, read_refusal_of}
use Rattle.ground.proofs.Truth.{neither}
use Rattle.registers.proofs.Effects.{effect_has}
use Rattle.refusals.proofs.Refusals.{accepted_when, read_when, lowest_none}
use Rattle.refusals.proofs.Kept.{parts, whole, sound_window}
use Rattle.former.specs.Former.{was_word, was_record, was_unfit, was_barred, was_refused, was_after, was_read_refused}
use Rattle.former.specs.Request.{Widened, kept, first, Alike}

-- ---- what was accepted

-- today's card accepts it, and word and record lie within the former limits
pub record Taken (ni nz : ℕ) (r : Registers) (w : Word) : Type 0 where
  pub now : refusal_of ni nz r w ≡ 0
  pub bounds : was_record r ≡ true
  pub word : was_word r w ≡ true

-- no row of the former table applied, so none of today's does
pub was_taken : (ni nz : ℕ) (r : Registers) (w : Word) → was_refused ni nz r w ≡ 0 → Taken ni nz r w
unfolding was_refused refusal_of
was_taken ni nz r w e =
    let q = (lowest_none 0 (table_of (was_unfit ni nz r) (was_barred r w) r w)).0 e in
    let fit = neither (is_unfit ni nz r) (not (was_record r)) q.1.0 in
    let rest = q.1.1.1.1.1.1 in
    let valued = neither (not (allowed r w)) (not (was_word r w)) rest.1.1.0 in
    record {
      now =
          (lowest_none 0 (table (is_unfit ni nz r) r w)).1
          (q.0, (fit.0, (q.1.1.0, (q.1.1.1.0, (q.1.1.1.1.0, (q.1.1.1.1.1.0, (rest.0, (rest.1.0, (valued.0, rest.1.1.1)))))))));
      bounds = not-false _ fit.1;
      word = not-false _ valued.1;
    }

-- ---- whichever window stands

module _ (r : Registers) (v : Window) where
  word_same : (w : Word) → (allowed (with_window r v) w ≡ allowed r w) × (fits (with_window r v) w ≡ fits r w)
  word_same (Init d) = (refl, refl)
  word_same (Aux n) = (refl, refl)
  word_same (Parm n) = (refl, refl)
  word_same (At c n) = (refl, refl)
  word_same (Img d) = (refl, refl)
  word_same (Ptrn n) = (refl, refl)
  word_same Reserved = (refl, refl)
  word_same Unmodelled = (refl, refl)
  word_same Unknown = (refl, refl)

-- today's window of a record that breaks no bound breaks none
window_fits_lem : (w v : Window) → Widened w v → window_fits w ≡ true → window_fits v ≡ true
unfolding window_fits
window_fits_lem w v (kept e) h = ap window_fits e ∙ h
window_fits_lem w v (first e f) h = ap window_fits f

-- a word that is accepted is so with today's window
pub wider_taken : (ni nz : ℕ) (r : Registers) (v : Window) (w : Word) → Widened r.window v → refusal_of ni nz r w ≡ 0 → refusal_of ni nz (with_window r v) w ≡ 0
wider_taken ni nz r v w h e =
    let a = (accepted_when ni nz r w).0 e in
    let s = parts r a.sound in
    (accepted_when ni nz (with_window r v) w).1
    (record {
      known = a.known;
      same = a.same;
      sound = whole (with_window r v) (sound_window s v (window_fits_lem r.window v h s.window));
      begun = a.begun;
      assigned = a.assigned;
      modelled = a.modelled;
      expected = a.expected;
      wanted = a.wanted;
      listed = a.listed;
      valued = (word_same r v w).0 ∙ a.valued;
      fitting = (word_same r v w).1 ∙ a.fitting;
      placed = a.placed;
    })

-- ---- the read call

-- a read that was accepted is accepted with today's window, and the record lies within the former limits
pub read_taken : (ni nz : ℕ) (r : Registers) (v : Window) → Widened r.window v → was_read_refused ni nz r ≡ 0
    → (read_refusal_of ni nz (with_window r v) ≡ 0) × (was_record r ≡ true)
unfolding was_read_refused read_refusal_of
read_taken ni nz r v h e =
    let q = (lowest_none 1 (read_table (was_unfit ni nz r) r)).0 e in
    let fit = neither (is_unfit ni nz r) (not (was_record r)) q.0 in
    let a = (read_when ni nz r).0 ((lowest_none 1 (read_table (is_unfit ni nz r) r)).1 (fit.0, q.1)) in
    let s = parts r a.sound in
    let sound = whole (with_window r v) (sound_window s v (window_fits_lem r.window v h s.window)) in
    ((read_when ni nz (with_window r v)).1 (record { same = a.same; sound = sound; begun = a.begun; idle = a.idle; outward = a.outward }), not-false _ fit.1)

-- ---- the record after a word

module _ (r : Registers) (v : Window) (h : Widened r.window v) where
  effect_alike : (s : Subcommand) (p : List ℕ) → Alike (with_parked (effect_of r s p) nothing_awaited) (with_parked (effect_of (with_window r v) s p) nothing_awaited)
  effect_alike s p =
      effect_has (λ u. Alike (with_parked (u r) nothing_awaited) (with_parked (u (with_window r v)) nothing_awaited)) s p
      (record {
        none = record { window = h; rest = refl };
        modes = λ f k. record { window = h; rest = refl };
        window = λ w. record { window = kept refl; rest = refl };
        dash = λ f. record { window = h; rest = refl };
        region = λ g k. record { window = h; rest = refl };
      })

  parm_alike : (n : ℕ) → Alike (parm_of r n) (parm_of (with_window r v) n)
  unfolding parm_of
  parm_alike n = go (ltb (r.parked.came + 1) (wants (awaited r)))
    where
      p : Parked
      p = joined_of r.parked n

      go : (t : Bool)
          → Alike (cond t (with_parked r (counted p)) (with_parked (effect_of r (awaited r) p.values) nothing_awaited))
          (cond t (with_parked (with_window r v) (counted p)) (with_parked (effect_of (with_window r v) (awaited r) p.values) nothing_awaited))
      go true = record { window = h; rest = refl }
      go false = effect_alike (awaited r) p.values

  coordinate_alike : (c : Coordinate) (n : ℕ) → Alike (coordinate_of r c n) (coordinate_of (with_window r v) c n)
  unfolding coordinate_of
  coordinate_alike I n = record { window = h; rest = refl }
  coordinate_alike Z n = record { window = h; rest = refl }
  coordinate_alike Y n = record { window = h; rest = refl }
  coordinate_alike X n = record { window = h; rest = refl }
  coordinate_alike T1x n = record { window = h; rest = refl }
  coordinate_alike T2x n = record { window = h; rest = refl }
  coordinate_alike Lx n = record { window = h; rest = refl }
  coordinate_alike Px n = record { window = h; rest = refl }

  -- the two records go on alike
  pub after_alike : (w : Word) → Alike (was_after r w) (record_after (with_window r v) w)
  unfolding was_after record_after settings
  after_alike (Init d) = record { window = first refl refl; rest = refl }
  after_alike (Aux n) = record { window = h; rest = refl }
  after_alike (Parm n) = parm_alike n
  after_alike (At c n) = coordinate_alike c n
  after_alike (Img d) = record { window = h; rest = refl }
  after_alike (Ptrn n) = record { window = h; rest = refl }
  after_alike Reserved = record { window = h; rest = refl }
  after_alike Unmodelled = record { window = h; rest = refl }
  after_alike Unknown = record { window = h; rest = refl }
