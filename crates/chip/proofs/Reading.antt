-- The read call: what it tells and leaves, and the bounds that words and reads keep. Assumes nothing.
use Rattle.std.proofs.Common.{◌≡◌, ℕ, ◌≤◌, true, ◌≢◌, List, [], ◌∷◌, length, sym, ap, ◌∙◌, subst, eq-eqb, ne_eqb, arith}
use Rattle.std.specs.Prelude.{Result, Ok, Err}
use Rattle.ground.specs.declared.Refusal.{Refusal}
use Rattle.ground.proofs.Numbers.{number_positive, number_injective}
use mathlib.Core.List.{foldl}
use Rattle.registers.specs.declared.Registers.{Registers}
use Rattle.registers.specs.Record.{reset_as}
use Rattle.registers.specs.Next.{transferred_of}
use Rattle.refusals.specs.Bounds.{largest_layout, in_bounds}
use Rattle.refusals.proofs.Kept.{reset_kept_as, read_kept}
use Rattle.machine.specs.Machine.{Memories}
use Rattle.machine.specs.Offers.{State, state}
use Rattle.machine.proofs.Runs.{zero_or_not}
use Rattle.chip.specs.declared.transfer.Reading.{Reading}
use Rattle.chip.specs.Read.{ReadOutcome, read_as, read_told, pixel_of, read_number, reading, Call, word, strobe, called}
use Rattle.chip.proofs.Laws.{step_kept}

module _ (r : Registers) (m : Memories) where
  -- accepted, it tells the pixel and moves the region on
  pub read_accepted : read_number r m ≡ 0 → reading r m ≡ read_as 0 (pixel_of r m) (transferred_of r)
  unfolding reading
  read_accepted e = rw (eq-eqb _ _ e)

  -- refused, it gives pixel 0 and changes nothing
  pub read_refused : read_number r m ≢ 0 → reading r m ≡ read_as (read_number r m) 0 r
  unfolding reading
  read_refused e = rw (ne_eqb _ _ e)

  -- its number is the lowest that applies
  pub read_number_lem : (reading r m).refusal ≡ read_number r m
  read_number_lem = zero_or_not (read_number r m) (λ e. ap (λ (a : ReadOutcome). a.refusal) (read_accepted e) ∙ sym e) (λ e. ap (λ (a : ReadOutcome). a.refusal) (read_refused e))

  -- it leaves the record within its bounds if it was within them
  pub reading_kept : in_bounds r ≡ true → in_bounds (reading r m).registers ≡ true
  reading_kept h =
      zero_or_not (read_number r m)
      (λ e. subst (λ (a : ReadOutcome). in_bounds a.registers ≡ true) (sym (read_accepted e)) (read_kept (length m.i) (length m.z) r e))
      (λ e. subst (λ (a : ReadOutcome). in_bounds a.registers ≡ true) (sym (read_refused e)) h)

-- from reset, in any layout, no words and reads leave a record that breaks a bound
pub calls_kept : (layout : ℕ) → layout ≤ largest_layout → (cs : List Call) (m : Memories) → in_bounds (foldl called (state (reset_as layout) m) cs).registers ≡ true
calls_kept layout low cs m = go cs (state (reset_as layout) m) (reset_kept_as layout low)
  where
    go : (cs : List Call) (a : State Registers Memories) → in_bounds a.registers ≡ true → in_bounds (foldl called a cs).registers ≡ true
    go [] a h = h
    go (word w ∷ cs) a h = go cs (called a (word w)) (step_kept a.registers w a.memories h)
    go (strobe ∷ cs) a h = go cs (called a strobe) (reading_kept a.registers a.memories h)

-- any two answers that the promise of `read` allows are the same
pub read_settled : (r : Registers) {value : ReadOutcome} {a a' : Result Reading Refusal} → read_told r a ≡ value → read_told r a' ≡ value → a ≡ a'
read_settled r {a = a} {a' = a'} p q = go a a' (p ∙ sym q)
  where
    reading_of : ReadOutcome → Reading
    reading_of o = record { pixel = o.pixel; registers = o.registers }

    go : (a a' : Result Reading Refusal) → read_told r a ≡ read_told r a' → a ≡ a'
    go (Ok x) (Ok y) e = ap (λ (o : ReadOutcome). Ok (reading_of o)) e
    go (Ok x) (Err y) e = absurd (omega (arith, number_positive y, ap (λ (o : ReadOutcome). o.refusal) e))
    go (Err x) (Ok y) e = absurd (omega (arith, number_positive x, ap (λ (o : ReadOutcome). o.refusal) e))
    go (Err x) (Err y) e = ap Err (number_injective (ap (λ (o : ReadOutcome). o.refusal) e))
