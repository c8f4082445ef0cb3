-- Words one after the other, over anything that steps: one turn of a loop over the words, a run in two parts, and where a run stands when
-- it ends. Assumes nothing.
use mathlib.Core.Path.{◌≡◌, refl, sym, ap, ◌∙◌, subst}
use mathlib.Core.Logic.{◌≢◌}
use mathlib.Core.List.{List, [], ◌∷◌, ◌++◌, foldl-append}
use Prim.Native.Nat.{ℕ, suc, ◌+◌, ◌%◌, ◌^◌, ◌≤◌, ◌<◌}
use native.Mathlib.Decide.{ℕ_discrete}
use native.Mathlib.Numerals.{add-one}
use native.Mathlib.Omega.{arith}
use lib.ListN.{length, get_or, take, drop, drop_of_length-le}
use lib.Seq.{drop-cons}
use borrow.Author.Tests.{eq-eqb, ne_eqb}
use Rattle.machine.specs.Run.{Outcome, outcome, Step, Ran, ran, advance, run_from, run_of}
use Rattle.machine.specs.Along.{Along, Stopped}

-- a refusal is 0, or it is not
pub zero_or_not : {A : Type 0} (n : ℕ) → (n ≡ 0 → A) → (n ≢ 0 → A) → A
zero_or_not {A} n yea nay = go (ℕ_discrete n 0)
  where
    go : Dec (n ≡ 0) → A
    go (yes e) = yea e
    go (no e) = nay e

module _ {W R M : Type 0} (step : Step W R M) where
  -- ---- one word

  module _ (a : Ran R M) (w : W) where
    -- an accepted word is taken
    pub advance_accepted : a.refusal ≡ 0 → (step a.registers w a.memories).refusal ≡ 0
        → advance step a w
        ≡ ran 0 (a.index + 1) ((a.sum + (step a.registers w a.memories).passed) % 2 ^ 64) (step a.registers w a.memories).registers
        (step a.registers w a.memories).memories
    unfolding advance
    advance_accepted goes e = rw (eq-eqb _ _ goes, eq-eqb _ _ e)

    -- a refused word stops the run where it stands
    pub advance_refused : a.refusal ≡ 0 → (step a.registers w a.memories).refusal ≢ 0
        → advance step a w ≡ ran (step a.registers w a.memories).refusal a.index a.sum a.registers a.memories
    unfolding advance
    advance_refused goes e = rw (eq-eqb _ _ goes, ne_eqb _ _ e)

    -- a run that has stopped takes no word
    pub advance_stays : a.refusal ≢ 0 → advance step a w ≡ a
    unfolding advance
    advance_stays e = rw (ne_eqb _ _ e)

    -- the three that may come of a word: it is taken, it stops the run, or the run had stopped
    pub data Comes : Type 0 where
      took : a.refusal ≡ 0 → (step a.registers w a.memories).refusal ≡ 0 → Comes
      halted : a.refusal ≡ 0 → (step a.registers w a.memories).refusal ≢ 0 → Comes
      stood : a.refusal ≢ 0 → Comes

    -- one of them comes
    pub comes : Comes
    comes =
        zero_or_not a.refusal
        (λ goes. zero_or_not (step a.registers w a.memories).refusal (λ e. took goes e) (λ e. halted goes e))
        (λ stopped. stood stopped)

  -- ---- several

  -- after a refused word nothing is taken
  pub stays : (ws : List W) (a : Ran R M) → a.refusal ≢ 0 → run_from step a ws ≡ a
  stays [] a e = refl
  stays (w ∷ ws) a e = ap (λ (b : Ran R M). run_from step b ws) (advance_stays a w e) ∙ stays ws a e

  -- a run of two lists is one after the other
  pub run_append : (ws vs : List W) (a : Ran R M) → run_from step a (ws ++ vs) ≡ run_from step (run_from step a ws) vs
  run_append ws vs a = foldl-append (advance step) a ws vs

  -- ---- one turn of a loop that has taken k words, over those that are left

  module _ (ws : List W) (k : ℕ) (d : W) (left : k < length ws) where
    one_more : (a : Ran R M) → run_from step a (drop k ws) ≡ run_from step (advance step a (get_or ws k d)) (drop (k + 1) ws)
    one_more a = rw (add-one, drop-cons ws k d left)

    module _ (s : ℕ) (r : R) (m : M) {r' : R} {m' : M} {n p : ℕ} (told : outcome n p r' m' ≡ step r (get_or ws k d) m) where
      -- the next word is accepted: the run is the run over the rest
      pub turn_accepted : n ≡ 0
          → run_from step (ran 0 k s r m) (drop k ws) ≡ run_from step (ran 0 (k + 1) ((s + p) % 2 ^ 64) r' m') (drop (k + 1) ws)
      turn_accepted e =
          one_more (ran 0 k s r m)
          ∙ ap (λ (b : Ran R M). run_from step b (drop (k + 1) ws))
          (advance_accepted (ran 0 k s r m) (get_or ws k d) refl (sym (ap (λ (o : Outcome R M). o.refusal) told) ∙ e)
          ∙ ap (λ (o : Outcome R M). ran 0 (k + 1) ((s + o.passed) % 2 ^ 64) o.registers o.memories) (sym told))

      -- the next word is refused: the run ends where it stands
      pub turn_refused : n ≢ 0 → run_from step (ran 0 k s r m) (drop k ws) ≡ ran n k s r m
      turn_refused e =
          one_more (ran 0 k s r m)
          ∙ ap (λ (b : Ran R M). run_from step b (drop (k + 1) ws))
          (advance_refused (ran 0 k s r m) (get_or ws k d) refl (λ z. e (ap (λ (o : Outcome R M). o.refusal) told ∙ z))
          ∙ ap (λ (o : Outcome R M). ran o.refusal k s r m) (sym told))
          ∙ stays (drop (k + 1) ws) (ran n k s r m) e

  -- no word is left: the run has ended
  pub turn_none : (ws : List W) (k : ℕ) (a : Ran R M) → length ws ≤ k → run_from step a (drop k ws) ≡ a
  turn_none ws k a h = rw (drop_of_length-le ws h)

  -- ---- where a run stands when it ends

  -- no more words are taken than there are
  pub run_index : (ws : List W) (a : Ran R M) → (run_from step a ws).index ≤ a.index + length ws
  run_index [] a = omega arith
  run_index (w ∷ ws) a = omega (arith, run_index ws (advance step a w), one (comes a w))
    where
      one : Comes a w → (advance step a w).index ≤ a.index + 1
      one (took e f) = omega (arith, ap (λ (b : Ran R M). b.index) (advance_accepted a w e f))
      one (halted e f) = omega (arith, ap (λ (b : Ran R M). b.index) (advance_refused a w e f))
      one (stood e) = omega (arith, ap (λ (b : Ran R M). b.index) (advance_stays a w e))

  -- a run that is not refused was not refused where it began
  pub run_begun : (ws : List W) (a : Ran R M) → (run_from step a ws).refusal ≡ 0 → a.refusal ≡ 0
  run_begun ws a e = zero_or_not a.refusal (λ goes. goes) (λ stopped. sym (ap (λ (b : Ran R M). b.refusal) (stays ws a stopped)) ∙ e)

  -- its first word was accepted
  pub run_first : (w : W) (ws : List W) (a : Ran R M) → (run_from step a (w ∷ ws)).refusal ≡ 0
      → (a.refusal ≡ 0) × ((step a.registers w a.memories).refusal ≡ 0)
  run_first w ws a e = go (comes a w)
    where
      goes : (advance step a w).refusal ≡ 0
      goes = run_begun ws (advance step a w) e

      go : Comes a w → (a.refusal ≡ 0) × ((step a.registers w a.memories).refusal ≡ 0)
      go (took b f) = (b, f)
      go (halted b f) = absurd (f (sym (ap (λ (c : Ran R M). c.refusal) (advance_refused a w b f)) ∙ goes))
      go (stood b) = absurd (b (sym (ap (λ (c : Ran R M). c.refusal) (advance_stays a w b)) ∙ goes))

  -- and it took every word
  pub run_whole : (ws : List W) (a : Ran R M) → (run_from step a ws).refusal ≡ 0 → (run_from step a ws).index ≡ a.index + length ws
  run_whole [] a e = omega arith
  run_whole (w ∷ ws) a e =
      let k = run_first w ws a e in
      omega (arith, run_whole ws (advance step a w) e, ap (λ (b : Ran R M). b.index) (advance_accepted a w k.0 k.1))

  -- a run that is refused was stopped by one of its words
  pub run_stopped : (d : W) (ws : List W) (a : Ran R M) → a.refusal ≡ 0 → (run_from step a ws).refusal ≢ 0 → Stopped step d a ws (run_from step a ws)
  run_stopped d [] a goes e = absurd (e goes)
  run_stopped d (w ∷ ws) a goes e = go (comes a w) (run_stopped d ws (advance step a w))
    where
      go : Comes a w → ((advance step a w).refusal ≡ 0 → (run_from step (advance step a w) ws).refusal ≢ 0 → Stopped step d (advance step a w) ws (run_from step (advance step a w) ws))
          → Stopped step d a (w ∷ ws) (run_from step a (w ∷ ws))
      go (took g f) rest =
          let next = advance_accepted a w g f in
          let s = rest (ap (λ (b : Ran R M). b.refusal) next) e in
          record {
            before = suc s.before;
            below = omega (arith, s.below);
            index = omega (arith, s.index, ap (λ (b : Ran R M). b.index) next);
            until = s.until;
            number = s.number;
          }
      go (halted g f) rest =
          let n = (step a.registers w a.memories).refusal in
          let ends : run_from step (advance step a w) ws ≡ ran n a.index a.sum a.registers a.memories =
          ap (λ (b : Ran R M). run_from step b ws) (advance_refused a w g f) ∙ stays ws (ran n a.index a.sum a.registers a.memories) f in
          subst (Stopped step d a (w ∷ ws)) (sym ends)
          (record {
            before = 0;
            below = omega arith;
            index = omega arith;
            until = ap (λ (k : ℕ). ran k a.index a.sum a.registers a.memories) g;
            number = refl;
          })
      go (stood g) rest = absurd (g goes)

  -- of a run from the first word on
  module _ (r : R) (ws : List W) (m : M) where
    -- its index is at most the number of words
    pub index_low : (run_of step r ws m).index ≤ length ws
    index_low = omega (arith, run_index ws (ran 0 0 0 r m))

    -- not refused, it is their number
    pub index_whole : (run_of step r ws m).refusal ≡ 0 → (run_of step r ws m).index ≡ length ws
    index_whole e = omega (arith, run_whole ws (ran 0 0 0 r m) e)

    module _ (d : W) (e : (run_of step r ws m).refusal ≢ 0) where
      halt : Stopped step d (ran 0 0 0 r m) ws (run_of step r ws m)
      halt = run_stopped d ws (ran 0 0 0 r m) refl e

      at_index : halt.before ≡ (run_of step r ws m).index
      at_index = omega (arith, halt.index)

      -- refused, it is the place of the refused word
      pub index_stopped : (run_of step r ws m).index < length ws
      index_stopped = omega (arith, halt.below, at_index)

      -- the word there is the one that is refused, with the run's number
      pub number_stopped : (step (run_of step r ws m).registers (get_or ws (run_of step r ws m).index d) (run_of step r ws m).memories).refusal ≡ (run_of step r ws m).refusal
      number_stopped = rw at_index at halt.number

      -- and the words before it leave what the run leaves
      pub until_stopped : run_of step r (take (run_of step r ws m).index ws) m
          ≡ ran 0 (run_of step r ws m).index (run_of step r ws m).sum (run_of step r ws m).registers (run_of step r ws m).memories
      until_stopped = rw at_index at halt.until

  -- ---- what holds along a run

  -- a run that is accepted whole is accepted word by word
  pub whole_along : (ws : List W) (a : Ran R M) → (run_from step a ws).refusal ≡ 0 → Along step (λ r w m. (step r w m).refusal ≡ 0) a ws
  whole_along [] a e = tt
  whole_along (w ∷ ws) a e = (λ goes. (run_first w ws a e).1, whole_along ws (advance step a w) e)

  -- what holds of every word at every moment holds along every run
  pub always_along : {ok : R → W → M → Type 0} → ((r : R) (w : W) (m : M) → ok r w m) → (ws : List W) (a : Ran R M) → Along step ok a ws
  always_along h [] a = tt
  always_along h (w ∷ ws) a = (λ goes. h a.registers w a.memories, always_along h ws (advance step a w))

  -- what an accepted word keeps, one word more keeps
  advance_keeps : (P : R → M → Type 0) (a : Ran R M) (w : W)
      → (a.refusal ≡ 0 → (step a.registers w a.memories).refusal ≡ 0 → P (step a.registers w a.memories).registers (step a.registers w a.memories).memories)
      → P a.registers a.memories → P (advance step a w).registers (advance step a w).memories
  advance_keeps P a w each p = go (comes a w)
    where
      moved : (b : Ran R M) → advance step a w ≡ b → P b.registers b.memories → P (advance step a w).registers (advance step a w).memories
      moved b e q = subst (λ (c : Ran R M). P c.registers c.memories) (sym e) q

      go : Comes a w → P (advance step a w).registers (advance step a w).memories
      go (took e f) = moved _ (advance_accepted a w e f) (each e f)
      go (halted e f) = moved _ (advance_refused a w e f) p
      go (stood e) = moved _ (advance_stays a w e) p

  -- what every accepted word keeps, a run keeps
  pub run_keeps : (P : R → M → Type 0) (ok : R → W → M → Type 0)
      → ((r : R) (w : W) (m : M) → ok r w m → (step r w m).refusal ≡ 0 → P r m → P (step r w m).registers (step r w m).memories)
      → (ws : List W) (a : Ran R M) → Along step ok a ws → P a.registers a.memories
      → P (run_from step a ws).registers (run_from step a ws).memories
  run_keeps P ok each [] a h p = p
  run_keeps P ok each (w ∷ ws) a h p =
      run_keeps P ok each ws (advance step a w) h.1 (advance_keeps P a w (λ e f. each a.registers w a.memories (h.0 e) f p) p)

  -- and it may be used at each of its words
  pub along_with : (P : R → Type 0) (ok also : R → W → M → Type 0) → ((r : R) (w : W) (m : M) → P r → ok r w m → also r w m)
      → ((r : R) (w : W) (m : M) → P r → ok r w m → (step r w m).refusal ≡ 0 → P (step r w m).registers)
      → (ws : List W) (a : Ran R M) → P a.registers → Along step ok a ws → Along step also a ws
  along_with P ok also gives keeps [] a p h = tt
  along_with P ok also gives keeps (w ∷ ws) a p h = (
    λ goes. gives a.registers w a.memories p (h.0 goes),
    along_with P ok also gives keeps ws (advance step a w)
        (advance_keeps (λ r m. P r) a w (λ e f. keeps a.registers w a.memories p (h.0 e) f) p) h.1,
  )

  -- what every word leaves of the memories, a run leaves
  pub run_leaves : {A : Type 0} (f : M → A) (ok : R → W → M → Type 0) → ((r : R) (w : W) (m : M) → ok r w m → f (step r w m).memories ≡ f m)
      → (ws : List W) (a : Ran R M) → Along step ok a ws → f (run_from step a ws).memories ≡ f a.memories
  run_leaves f ok each ws a h = run_keeps (λ r m. f m ≡ f a.memories) ok (λ r w m k e same. each r w m k ∙ same) ws a h refl
