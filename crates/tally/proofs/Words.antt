-- Words counted one after the other: what a word is counted as from what `step` told of it, and a run over a stream's words as a loop makes it.
-- Assumes nothing.
use Rattle.std.proofs.Common.{◌≡◌, ℕ, suc, ◌+◌, ◌-◌, ◌%◌, ◌^◌, ◌<◌, ◌≤◌, Bool, true, false, cond, eqb, ◌≢◌, List, length, get_or, drop, sym, refl, ap, ◌∙◌, subst, ap₂, add-one, arith, drop_of_length-le, drop-cons, eq-eqb, ne_eqb, eqb-true}
use native.Mathlib.Nat.{mod-add-mod}
use Rattle.picture.specs.Place.{rows_of}
use Rattle.picture.specs.Picture.{Picture, drawn}
use Rattle.picture.proofs.Fold.{drawn_nil}
use Rattle.picture.proofs.Stores.{filled_passed}
use Rattle.stream.specs.Format.{unpack_of, word_at}
use Rattle.registers.specs.declared.Registers.{Registers}
use Rattle.registers.specs.declared.word.Word.{Word}
use Rattle.registers.specs.declared.shape.Completed.{Completed}
use Rattle.registers.specs.declared.shape.Completed.TheVariants.{Nothing}
use Rattle.registers.specs.Record.{reset_of}
use Rattle.registers.specs.Word.{word_of}
use Rattle.registers.specs.Next.{completed_by, pen_of}
use Rattle.machine.specs.Run.{Outcome, outcome, Ran, run_of}
use Rattle.machine.specs.Machine.{Memories, memories, rows_in, number_of, step_of}
use Rattle.machine.proofs.Steps.{step_number, accepted_leaves}
use Rattle.chip.specs.Chip.{whole_offers, is_cut, figure_offers, chip}
use Rattle.chip.specs.Stream.{words_of}
use Rattle.chip.proofs.Streams.{word_at_lem, words_length, Reached as RunReached, reached_start as run_start, reached_more as run_more, reached_halt as run-halt, reached_end as run_end}
use Rattle.ground.specs.declared.Refusal.{Refusal}
use Rattle.ground.specs.Refusal.{number}
use Rattle.ground.proofs.Numbers.{number_positive}
use Rattle.tally.specs.declared.Tally.{Tally}
use Rattle.tally.specs.Hidden.{offered_of, hidden_of}
use Rattle.tally.specs.Tally.{count, no_tally, added, kept, figures_in, passed_in, EachBalanced, EachWithin}
use Rattle.tally.specs.Overdraw.{figure_tally, count_of, figures_of, pixels_of, picture_of, word_tally, tallied_from, Entered, entry}
use Rattle.tally.proofs.HiddenLaws.{figure_balanced}
use Rattle.tally.proofs.Adding.{none_balanced, none_each, added_each, kept_same, passed_added}
use Rattle.tally.proofs.Figures.{offered_low, figure_each, figure_tally_balanced, figure_counted, figure_passed, count_within}

-- ---- one word

module _ (r : Registers) (w : Word) (m : Memories) where
  -- told by whether it is refused
  word_either : (P : Tally → Type 0) → (number_of chip r w m ≡ 0 → P (figure_tally r (completed_by r w) (count_of (pen_of r) (pixels_of r w m) (picture_of m)))) → P no_tally
      → P (word_tally r w m)
  unfolding word_tally
  word_either P some none = go (eqb (number_of chip r w m) 0) refl
    where
      go : (b : Bool) → eqb (number_of chip r w m) 0 ≡ b → P (cond b (figure_tally r (completed_by r w) (count_of (pen_of r) (pixels_of r w m) (picture_of m))) no_tally)
      go true e = some (eqb-true _ _ e)
      go false e = none

  word_accepted : number_of chip r w m ≡ 0 → word_tally r w m ≡ figure_tally r (completed_by r w) (count_of (pen_of r) (pixels_of r w m) (picture_of m))
  unfolding word_tally
  word_accepted e = rw (eq-eqb (number_of chip r w m) 0 e)

  -- of each kind, what a word offered passed or is hidden
  pub word_balanced : EachBalanced (word_tally r w m)
  word_balanced =
      word_either EachBalanced (λ e. figure_tally_balanced r _ (completed_by r w) (figure_balanced (pen_of r) (pixels_of r w m) m.i m.z)) none_balanced

  -- of each kind, a word comes to no more than one figure of at most 2^28 pixels
  pub word_each : EachWithin 1 (word_tally r w m)
  word_each =
      word_either (EachWithin 1) (λ e. figure_each r _ 1 (completed_by r w) (count_within (pen_of r) (pixels_of r w m) m.i m.z (offered_low r w m e)))
      (none_each 1)

  -- an accepted word is counted as the figure that it completes
  pub word_completes : number_of chip r w m ≡ 0 → figures_in (word_tally r w m) ≡ figures_of (completed_by r w)
  word_completes e =
      ap figures_in (word_accepted e) ∙ figure_counted r (count_of (pen_of r) (pixels_of r w m) (picture_of m)) (completed_by r w) refl

  -- one that completes nothing, as nothing
  pub word_nothing : completed_by r w ≡ Nothing → word_tally r w m ≡ no_tally
  unfolding figure_tally
  word_nothing e =
      word_either (λ t. t ≡ no_tally) (λ accepted. ap (λ (f : Completed). figure_tally r f (count_of (pen_of r) (pixels_of r w m) (picture_of m))) e) refl

  module _ {n p : ℕ} {r' : Registers} {m' : Memories} (told : outcome n p r' m' ≡ step_of chip r w m) where
    is_number : n ≡ number_of chip r w m
    is_number = ap (λ (o : Outcome Registers Memories). o.refusal) told ∙ step_number chip r w m

    -- what passed is what the drawing counts
    is_passed : n ≡ 0 → p ≡ (drawn (pen_of r) (pixels_of r w m) (picture_of m)).passed
    is_passed e =
        ap (λ (q : Picture). q.passed) (accepted_leaves chip r w m told e).1
        ∙ filled_passed (pen_of r) (chip.stores (rows_in chip r m) r w) (drawn (pen_of r) (pixels_of r w m) (picture_of m))

    -- no more passed than were offered
    pub passed_low : n ≡ 0 → p ≤ offered_of (pixels_of r w m)
    passed_low e = omega (arith, is_passed e, figure_balanced (pen_of r) (pixels_of r w m) m.i m.z)

    -- a word is counted as its figure, with what was offered, what passed, and the difference hidden
    pub word_counted : {f : Completed} {k : ℕ} → f ≡ completed_by r w → k ≡ offered_of (figure_offers (rows_in chip r m) r f)
        → cond (eqb n 0) (figure_tally r f (count 1 k p (k - p))) no_tally ≡ word_tally r w m
    unfolding word_tally
    word_counted {f} {k} is offers = ap (λ (s : ℕ). cond (eqb s 0) (figure_tally r f (count 1 k p (k - p))) no_tally) is_number ∙ go (eqb (number_of chip r w m) 0) refl
      where
        go : (b : Bool) → eqb (number_of chip r w m) 0 ≡ b
            → cond b (figure_tally r f (count 1 k p (k - p))) no_tally ≡ cond b (figure_tally r (completed_by r w) (count_of (pen_of r) (pixels_of r w m) (picture_of m))) no_tally
        go true e =
            let h : p ≡ (drawn (pen_of r) (pixels_of r w m) (picture_of m)).passed = is_passed (is_number ∙ eqb-true _ _ e) in
            let k' : k ≡ offered_of (pixels_of r w m) = offers ∙ ap (λ (g : Completed). offered_of (figure_offers (rows_in chip r m) r g)) is in
            let d : k - p ≡ hidden_of (pen_of r) (pixels_of r w m) (picture_of m) = omega (arith, h, k', figure_balanced (pen_of r) (pixels_of r w m) m.i m.z) in
            rw (is, h, k') (ap (λ (x : ℕ). figure_tally r (completed_by r w) (count 1 (offered_of (pixels_of r w m)) (drawn (pen_of r) (pixels_of r w m) (picture_of m)).passed x)) (rw (h, k') at d))
        go false e = refl

    -- what passed of it
    pub word_passed : n ≡ 0 → passed_in (word_tally r w m) ≡ p
    unfolding figure_offers whole_offers is_cut
    word_passed e =
        ap passed_in (word_accepted (sym is_number ∙ e))
        ∙ (figure_passed r (count_of (pen_of r) (pixels_of r w m) (picture_of m)) (completed_by r w)
        (λ none.
        ap (λ (f : Completed). (drawn (pen_of r) (figure_offers (rows_in chip r m) r f) (picture_of m)).passed) none
        ∙ ap (λ (q : Picture). q.passed) (drawn_nil (pen_of r) (picture_of m)))
        ∙ sym (is_passed e))

-- ---- a word whose offers are counted first, which leaves the memories as they were

module _ (r : Registers) (w : Word) (i z : List ℕ) {word : Word} {f : Completed} {k : ℕ} {i₁ z₁ : List ℕ} {n p : ℕ} {r' : Registers} {m' : Memories}
    (is : word ≡ w) (completes : f ≡ completed_by r word)
    (before : (k ≡ offered_of (figure_offers (rows_of r.frame (length i) (length z)) r f)) × (i₁ ≡ i) × (z₁ ≡ z))
    (told : outcome n p r' m' ≡ step_of chip r w (memories i₁ z₁)) where
  -- what was told of the word taken after the count is its step over the memories as they were before the count
  pub taken_told : outcome n p r' m' ≡ step_of chip r w (memories i z)
  taken_told = told ∙ ap₂ (λ (a b : List ℕ). step_of chip r w (memories a b)) before.1 before.2

  figure_is : f ≡ completed_by r w
  figure_is = completes ∙ ap (completed_by r) is

  -- of an accepted word no more pixels pass than were counted as offered
  pub taken_low : n ≡ 0 → p ≤ k
  taken_low e =
      omega (
        arith,
        passed_low r w (memories i z) taken_told e,
        before.0 ∙ ap (λ (g : Completed). offered_of (figure_offers (rows_of r.frame (length i) (length z)) r g)) figure_is,
      )

  -- the tally made of the offers counted, what passed and the difference is the tally of the word
  pub taken_tally : {t : Tally} → t ≡ cond (eqb n 0) (figure_tally r f (count 1 k p (k - p))) no_tally → t ≡ word_tally r w (memories i z)
  taken_tally e = e ∙ word_counted r w (memories i z) taken_told figure_is before.0

  -- a refused word is counted as nothing
  pub taken_refused : (refusal : Refusal) → n ≡ number refusal → no_tally ≡ word_tally r w (memories i z)
  taken_refused refusal h = taken_tally (rw (h, ne_eqb (number refusal) 0 (λ e. omega (arith, number_positive refusal, e))))

-- ---- one word more, of those that are left

module _ (ws : List Word) (k : ℕ) (d : Word) (r : Registers) (m : Memories) (t : Tally) where
  module _ (left : k < length ws) {n p : ℕ} {r' : Registers} {m' : Memories} (told : outcome n p r' m' ≡ step_of chip r (get_or ws k d) m) where
    one_more : tallied_from r m t (drop k ws) ≡ cond (eqb n 0) (tallied_from r' m' (added t (word_tally r (get_or ws k d) m)) (drop (k + 1) ws)) t
    unfolding tallied_from
    one_more =
        rw (add-one, drop-cons ws k d left)
        (ap
        (λ (o : Outcome Registers Memories).
        cond (eqb o.refusal 0) (tallied_from o.registers o.memories (added t (word_tally r (get_or ws k d) m)) (drop (suc k) ws)) t)
        (sym told))

    tallied_more : n ≡ 0 → tallied_from r m t (drop k ws) ≡ tallied_from r' m' (added t (word_tally r (get_or ws k d) m)) (drop (k + 1) ws)
    tallied_more e = one_more ∙ rw (eq-eqb n 0 e)

    tallied_halt : n ≢ 0 → tallied_from r m t (drop k ws) ≡ t
    tallied_halt e = one_more ∙ rw (ne_eqb n 0 e)

  tallied_none : length ws ≤ k → tallied_from r m t (drop k ws) ≡ t
  unfolding tallied_from
  tallied_none h = rw (drop_of_length-le ws h)

-- ---- the loop

module _ (bytes : List ℕ) (m₀ : Memories) where
  -- the whole count is the count of the words that are left, from where k words came to; what passed so far is what the run has summed
  pub record Reached (m : Memories) (r : Registers) (t : Tally) (k : ℕ) : Type 0 where
    pub same : tallied_from reset_of m₀ no_tally (words_of bytes) ≡ tallied_from r m t (drop k (words_of bytes))
    pub run : RunReached reset_of bytes m₀ m r (passed_in t % 2 ^ 64) k
    pub each : EachWithin k t

  -- before the first word, with the registers of a reset and nothing counted, the loop's claim holds
  pub reached_start : {r : Registers} {t : Tally} → r ≡ reset_of → t ≡ no_tally → Reached m₀ r t 0
  reached_start e f =
      rw (f)
      (record {
        same = ap (λ (q : Registers). tallied_from q m₀ no_tally (words_of bytes)) (sym e);
        run = run_start reset_of bytes m₀ e;
        each = none_each 0;
      })

  module _ {m : Memories} {r : Registers} {t : Tally} {k : ℕ} (so : Reached m r t k) where
    module _ (left : k < length (unpack_of bytes)) {n p : ℕ} {r' : Registers} {m' : Memories} (told : outcome n p r' m' ≡ step_of chip r (word_of (word_at bytes k)) m) where
      below : k < length (words_of bytes)
      below = rw (words_length bytes) left

      here : outcome n p r' m' ≡ step_of chip r (get_or (words_of bytes) k (word_of 0)) m
      here = told ∙ ap (λ (w : Word). step_of chip r w m) (sym (word_at_lem bytes k))

      -- the next word is accepted
      pub reached_more : {u v : Tally} → n ≡ 0 → k ≤ 3276 → u ≡ word_tally r (word_of (word_at bytes k)) m → v ≡ kept (added t u) → Reached m' r' v (k + 1)
      reached_more {u} {v} e low f g =
          let w = word_of (word_at bytes k) in
          let each = added_each k 1 t (word_tally r w m) so.each (word_each r w m) in
          let is : added t (word_tally r w m) ≡ v =
          sym (kept_same (k + 1) (added t (word_tally r w m)) (omega (arith, low)) each) ∙ ap (λ (x : Tally). kept (added t x)) (sym f) ∙ sym g in
          let sum : (passed_in t % 2 ^ 64 + p) % 2 ^ 64 ≡ passed_in v % 2 ^ 64 =
          mod-add-mod (passed_in t) (2 ^ 64) p
          ∙ ap (λ (x : ℕ). x % 2 ^ 64) (ap (λ (x : ℕ). passed_in t + x) (sym (word_passed r w m told e)) ∙ sym (passed_added t (word_tally r w m)) ∙ ap passed_in is) in
          record {
            same =
                so.same
                ∙ tallied_more (words_of bytes) k (word_of 0) r m t below here e
                ∙ ap (λ (x : Word). tallied_from r' m' (added t (word_tally r x m)) (drop (k + 1) (words_of bytes))) (word_at_lem bytes k)
                ∙ ap (λ (x : Tally). tallied_from r' m' x (drop (k + 1) (words_of bytes))) is;
            run = subst (λ (x : ℕ). RunReached reset_of bytes m₀ m' r' x (k + 1)) sum (run_more reset_of bytes m₀ so.run left told e);
            each = subst (EachWithin (k + 1)) is each;
          }

      -- the next word is refused
      pub reached_halt : n ≢ 0 → (tallied_from reset_of m₀ no_tally (words_of bytes) ≡ t) × ((run_of (step_of chip) reset_of (words_of bytes) m₀).refusal ≡ n)
          × ((run_of (step_of chip) reset_of (words_of bytes) m₀).sum ≡ passed_in t % 2 ^ 64)
      reached_halt e =
          let end = sym (run-halt reset_of bytes m₀ so.run left told e) in (
            so.same ∙ tallied_halt (words_of bytes) k (word_of 0) r m t below here e,
            ap (λ (a : Ran Registers Memories). a.refusal) end,
            ap (λ (a : Ran Registers Memories). a.sum) end,
          )

    -- no word is left
    pub reached_end : length (unpack_of bytes) ≤ k → (tallied_from reset_of m₀ no_tally (words_of bytes) ≡ t) × ((run_of (step_of chip) reset_of (words_of bytes) m₀).refusal ≡ 0)
        × ((run_of (step_of chip) reset_of (words_of bytes) m₀).sum ≡ passed_in t % 2 ^ 64)
    reached_end h =
        let end = sym (run_end reset_of bytes m₀ so.run h) in (
          so.same ∙ tallied_none (words_of bytes) k (word_of 0) r m t (rw (words_length bytes) h),
          ap (λ (a : Ran Registers Memories). a.refusal) end,
          ap (λ (a : Ran Registers Memories). a.sum) end,
        )

    -- the entry of a stream that has come so far
    ended : {e : Entered} (n : ℕ) → e ≡ entry false n t
        → (tallied_from reset_of m₀ no_tally (words_of bytes) ≡ t) × ((run_of (step_of chip) reset_of (words_of bytes) m₀).refusal ≡ n)
        × ((run_of (step_of chip) reset_of (words_of bytes) m₀).sum ≡ passed_in t % 2 ^ 64)
        → e ≡ entry false (run_of (step_of chip) reset_of (words_of bytes) m₀).refusal (tallied_from reset_of m₀ no_tally (words_of bytes))
    ended {e} n is h = is ∙ ap₂ (λ (a : ℕ) (b : Tally). entry false a b) (sym h.1) (sym h.0)

    -- where the next word is refused, the entry with its number and the tally so far is the entry of the whole stream
    pub ended_halt : {e : Entered} {n p : ℕ} {r' : Registers} {m' : Memories} → k < length (unpack_of bytes)
        → outcome n p r' m' ≡ step_of chip r (word_of (word_at bytes k)) m → n ≢ 0 → e ≡ entry false n t
        → e ≡ entry false (run_of (step_of chip) reset_of (words_of bytes) m₀).refusal (tallied_from reset_of m₀ no_tally (words_of bytes))
    ended_halt {n} left told some is = ended n is (reached_halt left told some)

    -- where no word is left, the entry with refusal 0 and the tally so far is the entry of the whole stream
    pub ended_whole : {e : Entered} → length (unpack_of bytes) ≤ k → e ≡ entry false 0 t
        → e ≡ entry false (run_of (step_of chip) reset_of (words_of bytes) m₀).refusal (tallied_from reset_of m₀ no_tally (words_of bytes))
    ended_whole past is = ended 0 is (reached_end past)
