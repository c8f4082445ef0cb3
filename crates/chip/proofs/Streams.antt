-- A run over a stream's words as a loop makes it: what has been run, and what is left. Assumes nothing.
use Rattle.std.proofs.Common.{◌≡◌, ℕ, zero, suc, ◌+◌, ◌%◌, ◌^◌, ◌<◌, ◌≤◌, Bool, true, false, cond, eqb, ◌≢◌, List, [], ◌∷◌, map, length, get_or, drop, sym, refl, ap, ◌∙◌, arith, eq-eqb, ne_eqb}
use lib.ListN.{length-map}
use Rattle.std.specs.Prelude.{Err}
use Rattle.ground.specs.declared.Refusal.{Refusal}
use Rattle.ground.specs.declared.Refusal.TheVariants.{Unsound}
use Rattle.ground.specs.Refusal.{number, told}
use Rattle.ground.proofs.Numbers.{number_positive}
use Rattle.stream.specs.Format.{unpack_of, word_at}
use Rattle.stream.specs.Calls.{checked}
use Rattle.stream.proofs.Calls.{next_told, flaw_told, good}
use Rattle.registers.specs.declared.Registers.{Registers}
use Rattle.registers.specs.declared.word.Word.{Word}
use Rattle.registers.specs.Word.{word_of}
use Rattle.refusals.specs.Bounds.{in_bounds}
use Rattle.machine.specs.Run.{Outcome, outcome, Ran, ran, run_from}
use Rattle.machine.specs.Machine.{Memories, step_of}
use Rattle.machine.proofs.Runs.{turn_accepted, turn_none}
use Rattle.machine.proofs.Steps.{turn_halts}
use Rattle.chip.specs.declared.run.Ran.{Ran as Told}
use Rattle.chip.specs.Chip.{chip}
use Rattle.chip.specs.Stream.{words_of, flaw_of, words_from, running}
use Rattle.chip.proofs.Laws.{step_kept}

-- ---- the words

get_d_map : {A B : Type 0} (f : A → B) (l : List A) (k : ℕ) (d : A) → get_or (map f l) k (f d) ≡ f (get_or l k d)
get_d_map f [] k d = refl
get_d_map f (x ∷ l) zero d = refl
get_d_map f (x ∷ l) (suc k) d = get_d_map f l k d

module _ (bytes : List ℕ) where
  -- word k of a stream is what the 20 bits at place k of its unpacked numbers mean
  pub word_at_lem : (k : ℕ) → get_or (words_of bytes) k (word_of 0) ≡ word_of (word_at bytes k)
  unfolding word_at
  word_at_lem k = get_d_map word_of (unpack_of bytes) k 0

  -- a stream has as many words as numbers are unpacked from it
  pub words_length : length (words_of bytes) ≡ length (unpack_of bytes)
  words_length = length-map (unpack_of bytes) word_of

-- ---- the loop

module _ (start : Registers) (bytes : List ℕ) where
  module _ (m₀ : Memories) where
    -- the whole run is the run of the words that are left, from where k words came to
    pub record Reached (m : Memories) (r : Registers) (sum k : ℕ) : Type 0 where
      pub same : words_from start bytes m₀ ≡ run_from (step_of chip) (ran 0 k sum r m) (drop k (words_of bytes))

    -- before the first word the whole run is left, from the start, with sum 0 and the memories as they were found
    pub reached_start : {r : Registers} → r ≡ start → Reached m₀ r 0 0
    reached_start e = record { same = ap (λ (q : Registers). run_from (step_of chip) (ran 0 0 0 q m₀) (words_of bytes)) (sym e) }

    module _ {m : Memories} {r : Registers} {sum k : ℕ} (so : Reached m r sum k) where
      module _ (left : k < length (unpack_of bytes)) {n p : ℕ} {r' : Registers} {m' : Memories} (told : outcome n p r' m' ≡ step_of chip r (word_of (word_at bytes k)) m) where
        below : k < length (words_of bytes)
        below = rw (words_length bytes) left

        here : outcome n p r' m' ≡ step_of chip r (get_or (words_of bytes) k (word_of 0)) m
        here = told ∙ ap (λ (w : Word). step_of chip r w m) (sym (word_at_lem bytes k))

        -- the next word is accepted
        pub reached_more : n ≡ 0 → Reached m' r' ((sum + p) % 2 ^ 64) (k + 1)
        reached_more e = record { same = so.same ∙ turn_accepted (step_of chip) (words_of bytes) k (word_of 0) below sum r m here e }

        -- no word makes the record break a bound
        pub reached_kept : in_bounds r ≡ true → in_bounds r' ≡ true
        reached_kept h = ap (λ (o : Outcome Registers Memories). in_bounds o.registers) told ∙ step_kept r (word_of (word_at bytes k)) m h

        -- the next word is refused
        pub reached_halt : n ≢ 0 → ran n k sum r' m' ≡ words_from start bytes m₀
        reached_halt e = sym (so.same ∙ turn_halts chip (words_of bytes) k (word_of 0) below sum r m here e)

      -- no word is left
      pub reached_end : length (unpack_of bytes) ≤ k → ran 0 k sum r m ≡ words_from start bytes m₀
      reached_end h = sym (so.same ∙ turn_none (step_of chip) (words_of bytes) k (ran 0 k sum r m) (rw (words_length bytes) h))

-- ---- before the first word

-- how a run ended, with the memories that were left
abbrev pub ended_of : Told → Memories → Ran Registers Memories
ended_of a m = ran (told a.outcome) a.index a.sum a.registers m

-- an answer of a run that took no word
abbrev pub stopped : Registers → Refusal → Told
stopped start refusal = record { outcome = Err refusal; index = 0; sum = 0; registers = start }

module _ (bytes : List ℕ) (m : Memories) where
  -- past 11 and 12 the lengths decide
  pub lengths_told : checked bytes 0 ≡ 0 → (b : Bool) → eqb (length m.i) (length m.z) ≡ b → flaw_of bytes m ≡ cond b 0 2
  unfolding flaw_of
  lengths_told e b f = let g = good bytes 0 e in next_told bytes (cond (eqb (length m.i) (length m.z)) 0 2) g.0 g.1 ∙ ap (λ (t : Bool). cond t 0 2) f

module _ (start : Registers) (bytes : List ℕ) (m : Memories) where
  -- a number that the checks give stops the run before its first word
  running_refused : {n : ℕ} → flaw_of bytes m ≡ n → n ≢ 0 → ran n 0 0 start m ≡ running start bytes m
  unfolding running
  running_refused {n} e some = rw (e, ne_eqb n 0 some)

  running_good : flaw_of bytes m ≡ 0 → words_from start bytes m ≡ running start bytes m
  unfolding running
  running_good e = rw e

  module _ {n : ℕ} (given : n ≡ checked bytes 0) where
    -- a stream with a flaw
    pub run_flawed : {a : Told} {refusal : Refusal} → a ≡ stopped start refusal → number refusal ≡ n → ended_of a m ≡ running start bytes m
    unfolding flaw_of
    run_flawed {refusal = refusal} answer is =
        ap (λ (b : Told). ended_of b m) answer
        ∙ running_refused (flaw_told bytes (cond (eqb (length m.i) (length m.z)) 0 2) (λ e. some (is ∙ given ∙ e)) ∙ sym (is ∙ given)) some
      where
        some : number refusal ≢ 0
        some e = omega (arith, number_positive refusal, e)

    module _ (none : n ≡ 0) where
      -- memories that differ in length
      pub run_unlike : {a : Told} → a ≡ stopped start Unsound → (length m.i ≡ length m.z → ⊥) → ended_of a m ≡ running start bytes m
      run_unlike answer unlike =
          ap (λ (b : Told). ended_of b m) answer ∙ running_refused (lengths_told bytes m (sym given ∙ none) false (ne_eqb _ _ unlike)) (λ e. absurd (omega arith))

      -- a good stream over memories of one length
      pub run_good : {a : Ran Registers Memories} → a ≡ words_from start bytes m → length m.i ≡ length m.z → a ≡ running start bytes m
      run_good ran like = ran ∙ running_good (lengths_told bytes m (sym given ∙ none) true (eq-eqb _ _ like))
