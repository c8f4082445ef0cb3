-- Request [11]: every pixel that was offered passed or is hidden, what passed is what a run tells, and totals are sums. Assumes nothing.
use Rattle.std.proofs.Common.{◌≡◌, ℕ, ◌+◌, ◌*◌, ◌%◌, ◌^◌, Bool, true, false, cond, eqb, ltb, List, [], ◌∷◌, map, length, sym, refl, ap, ◌∙◌, subst, arith, ltb-false, eqb-true}
use native.Mathlib.Nat.{mod-add-mod}
use lib.ListN.{length-map}
use borrow.Author.Tests.{eqb-false}
use Rattle.stream.proofs.Stream.{length_unpack}
use Rattle.registers.specs.declared.Registers.{Registers}
use Rattle.registers.specs.declared.word.Word.{Word}
use Rattle.registers.specs.declared.word.Word.TheVariants.{At}
use Rattle.registers.specs.declared.word.Coordinate.{Coordinate}
use Rattle.registers.specs.declared.shape.Shape.TheVariants.{Line}
use Rattle.registers.specs.declared.shape.Completed.TheVariants.{Nothing}
use Rattle.registers.specs.Record.{is_on, inv_bit, reset_of}
use Rattle.registers.specs.Figure.{shape_of, completes, vertex_completes}
use Rattle.registers.specs.Next.{completed_by}
use Rattle.registers.proofs.Completing.{only_x_and_px}
use Rattle.machine.specs.Run.{Outcome, Ran, ran, run_from, run_of}
use Rattle.machine.specs.Machine.{Memories, step_of}
use Rattle.machine.proofs.Runs.{advance_accepted, advance_refused, stays}
use Rattle.chip.specs.Chip.{chip}
use Rattle.chip.specs.Stream.{words_of, flaw_of, running}
use Rattle.tally.specs.declared.Count.{Count}
use Rattle.tally.specs.declared.Tally.{Tally}
use Rattle.chip.proofs.Streams.{words_length}
use Rattle.tally.specs.Tally.{no_tally, added, passed_in, EachBalanced, EachWithin}
use Rattle.chip.specs.Fresh.{fresh}
use Rattle.tally.specs.Overdraw.{Entered, word_tally, tallied_from, tallied_of, entry, entry_of, tally_of, tallies_of, Overdraw}
use Rattle.tally.proofs.HiddenLaws.{figure_balanced}
use Rattle.tally.proofs.Adding.{
  none_balanced,
  added_balanced,
  none_each,
  each_more,
  added_each,
  passed_added,
  kind_sum,
  EveryBalanced,
  total_balanced,
  EveryWithin,
  total_each,
}
use Rattle.tally.proofs.Words.{word_balanced, word_each, word_completes, word_nothing, word_passed}

-- ---- balanced

words_balanced : (ws : List Word) (r : Registers) (m : Memories) (t : Tally) → EachBalanced t → EachBalanced (tallied_from r m t ws)
unfolding tallied_from
words_balanced [] r m t h = h
words_balanced (w ∷ ws) r m t h =
    go (eqb (step_of chip r w m).refusal 0)
    (words_balanced ws (step_of chip r w m).registers (step_of chip r w m).memories (added t (word_tally r w m)) (added_balanced t (word_tally r w m) h (word_balanced r w m)))
  where
    go : (b : Bool) → EachBalanced (tallied_from (step_of chip r w m).registers (step_of chip r w m).memories (added t (word_tally r w m)) ws)
        → EachBalanced (cond b (tallied_from (step_of chip r w m).registers (step_of chip r w m).memories (added t (word_tally r w m)) ws) t)
    go true rest = rest
    go false rest = h

run_balanced : (bytes : List ℕ) (m : Memories) → EachBalanced (tallied_of bytes m)
unfolding tallied_of
run_balanced bytes m = go (eqb (flaw_of bytes m) 0)
  where
    go : (b : Bool) → EachBalanced (cond b (tallied_from reset_of m no_tally (words_of bytes)) no_tally)
    go true = words_balanced (words_of bytes) reset_of m no_tally none_balanced
    go false = none_balanced

stream_balanced : (bytes : List ℕ) → EachBalanced (tally_of bytes)
unfolding entry_of
stream_balanced bytes = go (ltb 8192 (length bytes))
  where
    go : (b : Bool) → EachBalanced (cond {A = Entered} b (entry true 0 no_tally) (entry false (running reset_of bytes (fresh 8192)).refusal (tallied_of bytes (fresh 8192)))).tally
    go true = none_balanced
    go false = run_balanced bytes (fresh 8192)

every_balanced : (streams : List (List ℕ)) → EveryBalanced (map tally_of streams)
every_balanced [] = tt
every_balanced (bytes ∷ streams) = (stream_balanced bytes, every_balanced streams)

-- ---- small

words_each : (ws : List Word) (r : Registers) (m : Memories) (t : Tally) (k : ℕ) → EachWithin k t → EachWithin (k + length ws) (tallied_from r m t ws)
unfolding tallied_from
words_each [] r m t k h = each_more k (k + 0) t (omega arith) h
words_each (w ∷ ws) r m t k h =
    go (eqb (step_of chip r w m).refusal 0)
    (words_each ws (step_of chip r w m).registers (step_of chip r w m).memories (added t (word_tally r w m)) (k + 1) (added_each k 1 t (word_tally r w m) h (word_each r w m)))
  where
    rest : Tally
    rest = tallied_from (step_of chip r w m).registers (step_of chip r w m).memories (added t (word_tally r w m)) ws

    go : (b : Bool) → EachWithin (k + 1 + length ws) rest → EachWithin (k + length (w ∷ ws)) (cond b rest t)
    go true all = each_more (k + 1 + length ws) (k + length (w ∷ ws)) rest (omega arith) all
    go false all = each_more k (k + length (w ∷ ws)) t (omega arith) h

run_each : (bytes : List ℕ) (m : Memories) → EachWithin (length (words_of bytes)) (tallied_of bytes m)
unfolding tallied_of
run_each bytes m = go (eqb (flaw_of bytes m) 0)
  where
    go : (b : Bool) → EachWithin (length (words_of bytes)) (cond b (tallied_from reset_of m no_tally (words_of bytes)) no_tally)
    go true =
        each_more (0 + length (words_of bytes)) (length (words_of bytes)) _ (omega arith) (words_each (words_of bytes) reset_of m no_tally 0 (none_each 0))
    go false = none_each (length (words_of bytes))

-- no stream of 8,192 bytes has more than 3,276 words
pub stream_each : (bytes : List ℕ) → EachWithin 3276 (tally_of bytes)
unfolding entry_of
stream_each bytes = go (ltb 8192 (length bytes)) refl
  where
    go : (b : Bool) → ltb 8192 (length bytes) ≡ b
        → EachWithin 3276 (cond {A = Entered} b (entry true 0 no_tally) (entry false (running reset_of bytes (fresh 8192)).refusal (tallied_of bytes (fresh 8192)))).tally
    go true e = none_each 3276
    go false e =
        each_more (length (words_of bytes)) 3276 (tallied_of bytes (fresh 8192))
        (omega (arith, ltb-false 8192 (length bytes) e, words_length bytes, length_unpack bytes)) (run_each bytes (fresh 8192))

every_within : (streams : List (List ℕ)) → EveryWithin 3276 (map tally_of streams)
every_within [] = tt
every_within (bytes ∷ streams) = (stream_each bytes, every_within streams)

-- the total of some streams is within what 3,276 words for each of them can come to
pub streams_small : (streams : List (List ℕ)) → EachWithin (length streams * 3276) (tallies_of streams)
streams_small streams =
    subst (λ (n : ℕ). EachWithin (n * 3276) (tallies_of streams)) (length-map streams tally_of) (total_each 3276 (map tally_of streams) (every_within streams))

-- ---- figures

-- no coordinate completes a segment of a line while INV is 1
unseen : (r : Registers) (c : Coordinate) (n : ℕ) → shape_of r.figure.shape ≡ Line → is_on inv_bit r.modes.lstatus ≡ true → completed_by r (At c n) ≡ Nothing
unfolding completes
unseen r c n line inv =
    let hidden : (n : ℕ) → vertex_completes r n ≡ Nothing = λ n. rw (line, inv) in
    only_x_and_px (λ w f. f r ≡ Nothing) (λ w. refl) hidden hidden (At c n)

-- ---- what passed

words_passed : (ws : List Word) (r : Registers) (m : Memories) (t : Tally) (k : ℕ)
    → passed_in (tallied_from r m t ws) % 2 ^ 64 ≡ (run_from (step_of chip) (ran 0 k (passed_in t % 2 ^ 64) r m) ws).sum
unfolding tallied_from
words_passed [] r m t k = refl
words_passed (w ∷ ws) r m t k = go (eqb (step_of chip r w m).refusal 0) refl (words_passed ws (step_of chip r w m).registers (step_of chip r w m).memories (added t (word_tally r w m)) (k + 1))
  where
    o : Outcome Registers Memories
    o = step_of chip r w m

    a : Ran Registers Memories
    a = ran 0 k (passed_in t % 2 ^ 64) r m

    sum : o.refusal ≡ 0 → (passed_in t % 2 ^ 64 + o.passed) % 2 ^ 64 ≡ passed_in (added t (word_tally r w m)) % 2 ^ 64
    sum e =
        mod-add-mod (passed_in t) (2 ^ 64) o.passed
        ∙ ap (λ (x : ℕ). x % 2 ^ 64) (ap (λ (x : ℕ). passed_in t + x) (sym (word_passed r w m refl e)) ∙ sym (passed_added t (word_tally r w m)))

    go : (b : Bool) → eqb o.refusal 0 ≡ b
        → passed_in (tallied_from o.registers o.memories (added t (word_tally r w m)) ws) % 2 ^ 64
        ≡ (run_from (step_of chip) (ran 0 (k + 1) (passed_in (added t (word_tally r w m)) % 2 ^ 64) o.registers o.memories) ws).sum
        → passed_in (cond b (tallied_from o.registers o.memories (added t (word_tally r w m)) ws) t) % 2 ^ 64
        ≡ (run_from (step_of chip) a (w ∷ ws)).sum
    go true e rest =
        let zero = eqb-true _ _ e in
        rest
        ∙ ap (λ (x : ℕ). (run_from (step_of chip) (ran 0 (k + 1) x o.registers o.memories) ws).sum) (sym (sum zero))
        ∙ ap (λ (b : Ran Registers Memories). (run_from (step_of chip) b ws).sum) (sym (advance_accepted (step_of chip) a w refl zero))
    go false e rest =
        let some = eqb-false _ _ e in
        let halts = advance_refused (step_of chip) a w refl some in
        sym
        (ap (λ (b : Ran Registers Memories). (run_from (step_of chip) b ws).sum) halts
        ∙ ap (λ (b : Ran Registers Memories). b.sum) (stays (step_of chip) ws (ran o.refusal k (passed_in t % 2 ^ 64) r m) some))

run_passed : (bytes : List ℕ) (m : Memories) → passed_in (tallied_of bytes m) % 2 ^ 64 ≡ (running reset_of bytes m).sum
unfolding tallied_of running
run_passed bytes m = go (eqb (flaw_of bytes m) 0)
  where
    go : (b : Bool)
        → passed_in (cond b (tallied_from reset_of m no_tally (words_of bytes)) no_tally) % 2 ^ 64
        ≡ (cond b (run_of (step_of chip) reset_of (words_of bytes) m) (ran (flaw_of bytes m) 0 0 reset_of m)).sum
    go true = words_passed (words_of bytes) reset_of m no_tally 0
    go false = refl

-- ---- all of it

-- what is promised of the counts of a word, a run and some recordings holds
pub overdraw : Overdraw
overdraw =
    record {
      figure = figure_balanced;
      word = word_balanced;
      run = run_balanced;
      total = λ streams. total_balanced (map tally_of streams) (every_balanced streams);
      completes = word_completes;
      invisible = λ r c n m line inv. word_nothing r (At c n) m (unseen r c n line inv);
      passed = run_passed;
      figures_sum = λ kind streams. kind_sum (λ (c : Count). c.figures) refl (λ c d. refl) kind (map tally_of streams);
      offered_sum = λ kind streams. kind_sum (λ (c : Count). c.offered) refl (λ c d. refl) kind (map tally_of streams);
      passed_sum = λ kind streams. kind_sum (λ (c : Count). c.passed) refl (λ c d. refl) kind (map tally_of streams);
      hidden_sum = λ kind streams. kind_sum (λ (c : Count). c.hidden) refl (λ c d. refl) kind (map tally_of streams);
      small = streams_small;
    }
