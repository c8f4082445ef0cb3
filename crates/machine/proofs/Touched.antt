-- What words leave at a place: a place where no pixel passes keeps both its numbers, as does every place above the rows in use, and a
-- run's sum is the number of passed pixels modulo 2 ^ 64. Assumes nothing.
use mathlib.Core.Path.{◌≡◌, sym, ap, ◌∙◌}
use mathlib.Core.Logic.{◌≢◌, ⊎_elim}
use mathlib.Core.List.Memᴰ
use mathlib.Core.List.{List, [], ◌∷◌, map, Memᴰ}
use Prim.Native.Nat.{ℕ, ◌+◌, ◌*◌, ◌%◌, ◌^◌, ◌<◌}
use native.Mathlib.Nat.{add_assoc, add-zero, zero-add, mod-add-mod, mod-eq_of_lt, mod-lt}
use native.Mathlib.Omega.{arith}
use lib.ListN.{length, length-append}
use borrow.Author.Tests.{eq-eqb, ne_eqb}
use Rattle.picture.specs.Place.{layout_of, width_of}
use Rattle.picture.specs.Picture.{picture, drawn}
use Rattle.picture.specs.Store.{site}
use Rattle.picture.proofs.Stores.{filled_passed, filled_away, sites_low}
use Rattle.picture.specs.Passed.{passed_at}
use Rattle.picture.proofs.Passed.{drawn_counts, drawn_away, passed_low}
use Rattle.machine.specs.Run.{Ran, ran, advance, run_from, run_of}
use Rattle.machine.specs.Machine.{Machine, Memories, rows_in, number_of, step_of}
use Rattle.machine.specs.Along.{Along}
use Rattle.machine.specs.Touched.{cell_in, passed_by, stored_by, touched_by, touched_next, passed_next, touched_from, passed_from, passed_of}
use Rattle.machine.specs.Promises.{StaysInside, Above}
use Rattle.machine.proofs.Runs.{zero_or_not, Comes, took, halted, stood, comes, advance_accepted, advance_refused, advance_stays, run_leaves}
use Rattle.machine.proofs.Steps.{step_either, step_number}
use Rattle.machine.proofs.Kept.{step_leaves}

-- ---- a word

module _ (M : Machine) (r : M.Registers) (w : M.Word) (m : Memories) where
  -- an accepted word's pixels pass where its offers do
  touched_accepted : number_of M r w m ≡ 0 → passed_by M r w m ≡ passed_at (M.pen r) (M.offers (rows_in M r m) r w) (picture m.i m.z 0)
  unfolding passed_by
  touched_accepted e = rw (eq-eqb _ _ e)

  -- a refused word's nowhere
  touched_refused : number_of M r w m ≢ 0 → passed_by M r w m ≡ []
  unfolding passed_by
  touched_refused e = rw (ne_eqb _ _ e)

  -- the same of what it stores besides
  sites_accepted : number_of M r w m ≡ 0 → stored_by M r w m ≡ map (site (M.pen r)) (M.stores (rows_in M r m) r w)
  unfolding stored_by
  sites_accepted e = rw (eq-eqb _ _ e)

  sites_refused : number_of M r w m ≢ 0 → stored_by M r w m ≡ []
  unfolding stored_by
  sites_refused e = rw (ne_eqb _ _ e)

  -- a word's count is the number of places where its pixels pass
  pub step_counts : (step_of M r w m).passed ≡ length (passed_by M r w m)
  step_counts =
      step_either M r w m (λ o. o.passed ≡ length (passed_by M r w m))
      (λ e. omega (arith, filled_passed (M.pen r) (M.stores (rows_in M r m) r w) (drawn (M.pen r) (M.offers (rows_in M r m) r w) (picture m.i m.z 0)), drawn_counts (M.pen r) (M.offers (rows_in M r m) r w) (picture m.i m.z 0), ap length (touched_accepted e)))
      (λ e. ap length (sym (touched_refused e)))

  -- a place where none passes keeps both its numbers
  pub step_untouched : (at : ℕ) → (Memᴰ at (touched_by M r w m) → ⊥) → cell_in (step_of M r w m).memories at ≡ cell_in m at
  step_untouched at h =
      step_leaves M r w m (λ (c : Memories). cell_in c at)
      (λ e.
      filled_away (M.pen r) (M.stores (rows_in M r m) r w) _ at (λ u. h (Memᴰ.append_right (passed_by M r w m) (rw (sites_accepted e) u)))
      ∙ drawn_away (M.pen r) (M.offers (rows_in M r m) r w) (picture m.i m.z 0) at (λ u. h (Memᴰ.append_left {s = passed_by M r w m} _ (rw (touched_accepted e) u))))

  module _ (inside : StaysInside M) where
    -- a machine that draws inside passes pixels of the rows in use only
    pub touched_low : (at : ℕ) → Memᴰ at (touched_by M r w m) → at < rows_in M r m * width_of (layout_of (M.pen r).frame) (M.pen r).frame.line
    touched_low at u =
        zero_or_not (number_of M r w m)
        (λ e. ⊎_elim
        (λ v. passed_low (M.pen r) (length m.i) (length m.z) (M.offers (rows_in M r m) r w) (picture m.i m.z 0) (inside.at (rows_in M r m) r w) at (rw (touched_accepted e) at v))
        (λ v. sites_low (M.pen r) (length m.i) (length m.z) (M.stores (rows_in M r m) r w) (inside.stores (rows_in M r m) r w) at (rw (sites_accepted e) at v))
        (Memᴰ.append_cases (passed_by M r w m) u))
        (λ e. absurd (Memᴰ.not-nil (rw (touched_refused e, sites_refused e) at u)))

    -- so every place above them keeps both its numbers
    pub step_above : (at : ℕ) → Above M at r w m → cell_in (step_of M r w m).memories at ≡ cell_in m at
    step_above at h = step_untouched at (λ u. omega (arith, touched_low at u))

-- ---- one word of a run

module _ (M : Machine) (a : Ran M.Registers Memories) (w : M.Word) where
  next_goes : a.refusal ≡ 0 → touched_next M a w ≡ touched_by M a.registers w a.memories
  unfolding touched_next
  next_goes e = rw (eq-eqb _ _ e)

  next_passes : a.refusal ≡ 0 → passed_next M a w ≡ passed_by M a.registers w a.memories
  unfolding passed_next
  next_passes e = rw (eq-eqb _ _ e)

  next_stood : a.refusal ≢ 0 → passed_next M a w ≡ []
  unfolding passed_next
  next_stood e = rw (ne_eqb _ _ e)

  -- a sum to which nothing is added stays
  sum_stays : a.sum < 2 ^ 64 → passed_next M a w ≡ [] → a.sum ≡ (a.sum + length (passed_next M a w)) % 2 ^ 64
  sum_stays h e = rw (e, add-zero) (sym (mod-eq_of_lt h))

  -- a word adds the number of its passed pixels
  next_sum : a.sum < 2 ^ 64 → (advance (step_of M) a w).sum ≡ (a.sum + length (passed_next M a w)) % 2 ^ 64
  next_sum h = go (comes (step_of M) a w)
    where
      go : Comes (step_of M) a w → (advance (step_of M) a w).sum ≡ (a.sum + length (passed_next M a w)) % 2 ^ 64
      go (took e f) =
          ap (λ (b : Ran M.Registers Memories). b.sum) (advance_accepted (step_of M) a w e f)
          ∙ ap (λ (n : ℕ). (a.sum + n) % 2 ^ 64) (step_counts M a.registers w a.memories ∙ ap length (sym (next_passes e)))
      go (halted e f) =
          ap (λ (b : Ran M.Registers Memories). b.sum) (advance_refused (step_of M) a w e f)
          ∙ sum_stays h (next_passes e ∙ touched_refused M a.registers w a.memories (λ z. f (step_number M a.registers w a.memories ∙ z)))
      go (stood e) = ap (λ (b : Ran M.Registers Memories). b.sum) (advance_stays (step_of M) a w e) ∙ sum_stays h (next_stood e)

-- ---- a run

module _ (M : Machine) where
  -- a run's sum is what it began with and the number of places where its pixels pass, modulo 2 ^ 64
  pub run_counts : (ws : List M.Word) (a : Ran M.Registers Memories) → a.sum < 2 ^ 64
      → (run_from (step_of M) a ws).sum ≡ (a.sum + length (passed_from M a ws)) % 2 ^ 64
  unfolding passed_from
  run_counts [] a h = rw add-zero (sym (mod-eq_of_lt h))
  run_counts (w ∷ ws) a h =
      let next = next_sum M a w h in
      let rest = length (passed_from M (advance (step_of M) a w) ws) in
      run_counts ws (advance (step_of M) a w) (rw next (mod-lt _ (omega arith)))
      ∙ ap (λ (n : ℕ). (n + rest) % 2 ^ 64) next
      ∙ mod-add-mod (a.sum + length (passed_next M a w)) (2 ^ 64) rest
      ∙ ap (λ (n : ℕ). n % 2 ^ 64) (add_assoc a.sum (length (passed_next M a w)) rest ∙ ap (λ (n : ℕ). a.sum + n) (sym (length-append (passed_next M a w) _)))

  -- where no pixel of a run passes, no pixel of one of its words does
  untouched_along : (at : ℕ) (ws : List M.Word) (a : Ran M.Registers Memories) → (Memᴰ at (touched_from M a ws) → ⊥)
      → Along (step_of M) (λ r w m. Memᴰ at (touched_by M r w m) → ⊥) a ws
  unfolding touched_from
  untouched_along at [] a h = tt
  untouched_along at (w ∷ ws) a h = (
    λ goes u. h (Memᴰ.append_left {s = touched_next M a w} _ (rw (next_goes M a w goes) u)),
    untouched_along at ws (advance (step_of M) a w) (λ u. h (Memᴰ.append_right (touched_next M a w) u)),
  )

  module _ (ws : List M.Word) (a : Ran M.Registers Memories) (at : ℕ) where
    -- a place where no pixel of a run passes keeps both its numbers
    pub run_untouched : (Memᴰ at (touched_from M a ws) → ⊥) → cell_in (run_from (step_of M) a ws).memories at ≡ cell_in a.memories at
    run_untouched h =
        run_leaves (step_of M) (λ (c : Memories). cell_in c at) (λ r w m. Memᴰ at (touched_by M r w m) → ⊥) (λ r w m. step_untouched M r w m at) ws a
        (untouched_along at ws a h)

    -- of a machine that draws inside, a place that is above the rows in use at each word keeps both its numbers
    pub run_above : StaysInside M → Along (step_of M) (Above M at) a ws → cell_in (run_from (step_of M) a ws).memories at ≡ cell_in a.memories at
    run_above inside =
        run_leaves (step_of M) (λ (c : Memories). cell_in c at) (Above M at) (λ r w m. step_above M r w m inside at) ws a

  -- from its first word on, a run's sum is the number of places where its pixels pass, modulo 2 ^ 64
  pub start_counts : (r : M.Registers) (ws : List M.Word) (m : Memories) → (run_of (step_of M) r ws m).sum ≡ length (passed_of M r ws m) % 2 ^ 64
  start_counts r ws m = run_counts ws (ran 0 0 0 r m) (omega arith) ∙ ap (λ (n : ℕ). n % 2 ^ 64) (zero-add _)
