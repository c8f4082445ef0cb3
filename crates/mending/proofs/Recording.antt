-- What a mended recording does: it runs without a refusal, to where the old words lead with the refused ones skipped; the list has exactly
-- the refused ones; and a recording with nothing to mend stays what it is. Assumes nothing.
use mathlib.Core.Path.{◌≡◌, refl, sym, ap, ap₂, ◌∙◌, subst}
use mathlib.Core.Logic.{◌≢◌, ◌↔◌, ⊎_elim}
use mathlib.Core.Bool.{Bool, true, false, cond}
use mathlib.Core.List.{List, [], ◌∷◌, map, Memᴰ}
use Prim.Native.Nat.{ℕ, zero, suc, ◌+◌, ◌%◌, ◌^◌, ◌≤◌, ◌<◌}
use native.Mathlib.Nat.{add-zero, zero-add}
use native.Mathlib.Omega.{arith}
use lib.Dec.{eqb}
use lib.ListN.{length}
use borrow.Author.Tests.{eq-eqb, ne_eqb, eqb-true}
use Rattle.stream.specs.Format.{fit, unpack_of, pack_of}
use Rattle.stream.specs.Calls.{bad_length, bad_tail}
use Rattle.stream.proofs.Bits.{fits}
use Rattle.stream.proofs.Calls.{good, next_told}
use Rattle.stream.proofs.Round.{unpack_fits, unpack_pack, pack_unpack, packed_good}
use Rattle.registers.specs.declared.Registers.{Registers}
use Rattle.registers.specs.Record.{reset_of}
use Rattle.registers.specs.Word.{word_of}
use Rattle.refusals.specs.Refusal.{refusal_of, next}
use Rattle.refusals.proofs.Kept.{next_refused}
use Rattle.machine.specs.Run.{Outcome, Ran, ran, run_from, run_of}
use Rattle.machine.specs.Machine.{Memories, step_of}
use Rattle.machine.specs.Offers.{State, state, all_of, next_in}
use Rattle.machine.proofs.Runs.{zero_or_not, advance_accepted, run_first}
use Rattle.machine.proofs.Steps.{step_number, step_refused}
use Rattle.machine.proofs.Kept.{step_length_i, step_length_z}
use Rattle.machine.proofs.Offers.{step_registers}
use Rattle.chip.specs.Chip.{chip}
use Rattle.chip.specs.Stream.{words_of, flaw_of, running}
use Rattle.chip.proofs.Streams.{run_good}
use Rattle.mending.specs.Mend.{number_in, after_in, kept_in, Dropped, dropped, dropped_in, kept_of, mended_of, dropped_of, indices_of}
use Rattle.mending.specs.Request.{number_after, Rising, is_listed, unlisted}
use Rattle.mending.proofs.Words.{kept_accepted, kept_refused, dropped_accepted, dropped_refused, all_sorted, kept_fits}

-- ---- a word, over two memories of n places

module _ (n : ℕ) (w : ℕ) (r : Registers) (m : Memories) (hi : length m.i ≡ n) (hz : length m.z ≡ n) where
  -- the chip gives it its number
  number_told : (step_of chip r (word_of w) m).refusal ≡ number_in n r w
  number_told = step_number chip r (word_of w) m ∙ ap₂ (λ (a b : ℕ). refusal_of a b r (word_of w)) hi hz

  -- and goes on to its registers
  after_told : after_in n r w ≡ (step_of chip r (word_of w) m).registers
  unfolding next_in next
  after_told = sym (step_registers chip r (word_of w) m ∙ ap₂ (λ (a b : ℕ). next_in chip a b r (word_of w)) hi hz)

  length_i : length (step_of chip r (word_of w) m).memories.i ≡ n
  length_i = step_length_i chip r (word_of w) m ∙ hi

  length_z : length (step_of chip r (word_of w) m).memories.z ≡ n
  length_z = step_length_z chip r (word_of w) m ∙ hz

-- ---- the words that are kept

-- a run of the words vs that are kept of ws took them all, and came to where ws lead, refused ones skipped
pub record Completes (vs ws : List ℕ) (k : ℕ) (r : Registers) (m : Memories) (b : Ran Registers Memories) : Type 0 where
  pub refusal : b.refusal ≡ 0
  pub index : b.index ≡ k + length vs
  pub left : state b.registers b.memories ≡ all_of (step_of chip) r (map word_of ws) m

mends : (n : ℕ) (ws : List ℕ) (k s : ℕ) (r : Registers) (m : Memories) → length m.i ≡ n → length m.z ≡ n
    → Completes (kept_in n r ws) ws k r m (run_from (step_of chip) (ran 0 k s r m) (map word_of (kept_in n r ws)))
unfolding kept_in
mends n [] k s r m hi hz = record { refusal = refl; index = omega arith; left = refl }
mends n (w ∷ ws) k s r m hi hz =
    let o = step_of chip r (word_of w) m in
    let number = number_told n w r m hi hz in
    zero_or_not (number_in n r w)
    (λ e.
    let rest = mends n ws (k + 1) ((s + o.passed) % 2 ^ 64) o.registers o.memories (length_i n w r m hi hz) (length_z n w r m hi hz) in
    subst (λ (vs : List ℕ). Completes vs (w ∷ ws) k r m (run_from (step_of chip) (ran 0 k s r m) (map word_of vs)))
    (sym (kept_accepted n r w ws e ∙ ap (λ (q : Registers). w ∷ kept_in n q ws) (after_told n w r m hi hz)))
    (subst (λ (b : Ran Registers Memories). Completes (w ∷ kept_in n o.registers ws) (w ∷ ws) k r m (run_from (step_of chip) b (map word_of (kept_in n o.registers ws))))
    (sym (advance_accepted (step_of chip) (ran 0 k s r m) (word_of w) refl (number ∙ e)))
    (record { refusal = rest.refusal; index = omega (arith, rest.index); left = rest.left })))
    (λ e.
    let rest = mends n ws k s r m hi hz in
    subst (λ (vs : List ℕ). Completes vs (w ∷ ws) k r m (run_from (step_of chip) (ran 0 k s r m) (map word_of vs)))
    (sym (kept_refused n r w ws e ∙ ap (λ (q : Registers). kept_in n q ws) (next_refused n n r (word_of w) e)))
    (record {
      refusal = rest.refusal;
      index = rest.index;
      left = rest.left
          ∙ ap (λ (o : Outcome Registers Memories). all_of (step_of chip) o.registers (map word_of ws) o.memories)
          (sym (step_refused chip r (word_of w) m (λ z. e (sym number ∙ step_number chip r (word_of w) m ∙ z))));
    }))

-- where no word is refused, all are kept
keeps : (n : ℕ) (ws : List ℕ) (k s : ℕ) (r : Registers) (m : Memories) → length m.i ≡ n → length m.z ≡ n
    → (run_from (step_of chip) (ran 0 k s r m) (map word_of ws)).refusal ≡ 0 → kept_in n r ws ≡ ws
unfolding kept_in
keeps n [] k s r m hi hz whole = refl
keeps n (w ∷ ws) k s r m hi hz whole =
    let o = step_of chip r (word_of w) m in
    let first = (run_first (step_of chip) (word_of w) (map word_of ws) (ran 0 k s r m) whole).1 in
    kept_accepted n r w ws (sym (number_told n w r m hi hz) ∙ first)
    ∙ ap (λ (q : Registers). w ∷ kept_in n q ws) (after_told n w r m hi hz)
    ∙ ap (λ (l : List ℕ). w ∷ l)
    (keeps n ws (k + 1) ((s + o.passed) % 2 ^ 64) o.registers o.memories (length_i n w r m hi hz) (length_z n w r m hi hz)
    (sym (ap (λ (b : Ran Registers Memories). (run_from (step_of chip) b (map word_of ws)).refusal) (advance_accepted (step_of chip) (ran 0 k s r m) (word_of w) refl first)) ∙ whole))

-- ---- the list

-- a word is refused, i words from the first on, with a number that is told of index k + i
pub record Refused (ws : List ℕ) (k : ℕ) (r : Registers) (m : Memories) (x : Dropped) : Type 0 where
  pub before : ℕ
  pub below : before < length ws
  pub index : x.index ≡ k + before
  pub number : number_after r m ws before ≡ x.number
  pub some : x.number ≢ 0

module _ (n : ℕ) where
  -- what is on the list is refused
  listed_refused : (ws : List ℕ) (k : ℕ) (r : Registers) (m : Memories) → length m.i ≡ n → length m.z ≡ n → (x : Dropped)
      → Memᴰ x (dropped_in n k r ws) → Refused ws k r m x
  unfolding dropped_in
  listed_refused [] k r m hi hz x u = absurd (mathlib.Core.List.Memᴰ.not-nil u)
  listed_refused (w ∷ ws) k r m hi hz x u =
      let o = step_of chip r (word_of w) m in
      let later : Memᴰ x (dropped_in n (k + 1) (after_in n r w) ws) → Refused (w ∷ ws) k r m x =
      λ v.
      past (listed_refused ws (k + 1) o.registers o.memories (length_i n w r m hi hz) (length_z n w r m hi hz) x (rw (after_told n w r m hi hz) at v)) in
      zero_or_not (number_in n r w)
      (λ e. later (rw (dropped_accepted n r w ws e k) at u))
      (λ e. ⊎_elim (first e) later (mathlib.Core.List.Memᴰ.cases_cons (rw (dropped_refused n r w ws e k) at u)))
    where
      past : Refused ws (k + 1) (step_of chip r (word_of w) m).registers (step_of chip r (word_of w) m).memories x → Refused (w ∷ ws) k r m x
      past rest =
          record {
            before = suc rest.before;
            below = omega (arith, rest.below);
            index = omega (arith, rest.index);
            number = rest.number;
            some = rest.some;
          }

      first : number_in n r w ≢ 0 → x ≡ dropped k (number_in n r w) → Refused (w ∷ ws) k r m x
      first e same =
          record {
            before = 0;
            below = omega arith;
            index = omega (arith, ap (λ (y : Dropped). y.index) same);
            number = number_told n w r m hi hz ∙ sym (ap (λ (y : Dropped). y.number) same);
            some = λ z. e (sym (ap (λ (y : Dropped). y.number) same) ∙ z);
          }

  -- what is refused is on the list
  refused_listed : (ws : List ℕ) (k : ℕ) (r : Registers) (m : Memories) → length m.i ≡ n → length m.z ≡ n → (i number : ℕ) → i < length ws
      → number_after r m ws i ≡ number → number ≢ 0 → Memᴰ (dropped (k + i) number) (dropped_in n k r ws)
  refused_listed [] k r m hi hz i number h e some = absurd (omega arith)
  refused_listed (w ∷ ws) k r m hi hz zero number h e some =
      let told = sym (number_told n w r m hi hz) ∙ e in
      rw (dropped_refused n r w ws (λ z. some (sym told ∙ z)) k)
      (mathlib.Core.List.Memᴰ.head (ap₂ (λ (a b : ℕ). dropped a b) (add-zero k) (sym told)))
  refused_listed (w ∷ ws) k r m hi hz (suc i) number h e some =
      let o = step_of chip r (word_of w) m in
      let up : k + 1 + i ≡ k + suc i = omega arith in
      let rest = rw up at (refused_listed ws (k + 1) o.registers o.memories (length_i n w r m hi hz) (length_z n w r m hi hz) i number (omega arith) e some) in
      let here = rw (← after_told n w r m hi hz) at rest in
      zero_or_not (number_in n r w) (λ z. rw (dropped_accepted n r w ws z k) here) (λ z. rw (dropped_refused n r w ws z k) (mathlib.Core.List.Memᴰ.tail here))

rising_from : (k k' : ℕ) (xs : List Dropped) → k ≤ k' → Rising k' xs → Rising k xs
rising_from k k' [] h so = tt
rising_from k k' (x ∷ xs) h so = (omega (arith, so.0), so.1)

-- the words that are dropped are listed in their order
rising : (n : ℕ) (ws : List ℕ) (k : ℕ) (r : Registers) → Rising k (dropped_in n k r ws)
unfolding dropped_in
rising n [] k r = tt
rising n (w ∷ ws) k r =
    let rest = rising n ws (k + 1) (after_in n r w) in
    zero_or_not (number_in n r w)
    (λ e. rw (eq-eqb _ _ e) (rising_from k (k + 1) (dropped_in n (k + 1) (after_in n r w) ws) (omega arith) rest))
    (λ e. rw (ne_eqb _ _ e) (omega arith, rest))

-- ---- the words that are not on the list

-- an index below all that are listed is not listed
below_unlisted : (j k : ℕ) (xs : List Dropped) → j < k → Rising k xs → is_listed j (indices_of xs) ≡ false
unfolding is_listed
below_unlisted j k [] h so = refl
below_unlisted j k (x ∷ xs) h so =
    rw (ne_eqb x.index j (λ e. absurd (omega (arith, e, so.0)))) (below_unlisted j (x.index + 1) xs (omega (arith, so.0)) so.1)

-- the first index of a list is listed
first_listed : (k : ℕ) (is : List ℕ) → is_listed k (k ∷ is) ≡ true
unfolding is_listed
first_listed k is = rw (eq-eqb k k refl)

-- another index is listed where it is among the rest
later_listed : (j k : ℕ) (is : List ℕ) → k < j → is_listed j (k ∷ is) ≡ is_listed j is
unfolding is_listed
later_listed j k is h = rw (ne_eqb k j (λ e. absurd (omega (arith, e, h))))

-- a list that has the same indices as what is dropped of ws, from k on, leaves of ws what is kept
kept_unlisted : (n : ℕ) (is : List ℕ) (ws : List ℕ) (k : ℕ) (r : Registers)
    → ((j : ℕ) → k ≤ j → is_listed j is ≡ is_listed j (indices_of (dropped_in n k r ws))) → kept_in n r ws ≡ unlisted is k ws
unfolding kept_in unlisted
kept_unlisted n is [] k r same = refl
kept_unlisted n is (w ∷ ws) k r same =
    zero_or_not (number_in n r w)
    (λ e.
    let list = dropped_accepted n r w ws e k in
    let here : is_listed k is ≡ false =
    same k (omega arith) ∙ ap (λ (xs : List Dropped). is_listed k (indices_of xs)) list
    ∙ below_unlisted k (k + 1) (dropped_in n (k + 1) (after_in n r w) ws) (omega arith) (rising n ws (k + 1) (after_in n r w)) in
    let rest = kept_unlisted n is ws (k + 1) (after_in n r w) (λ j h. same j (omega (arith, h)) ∙ ap (λ (xs : List Dropped). is_listed j (indices_of xs)) list) in
    rw (eq-eqb _ _ e, here) (ap (λ (l : List ℕ). w ∷ l) rest))
    (λ e.
    let list = dropped_refused n r w ws e k in
    let here : is_listed k is ≡ true = same k (omega arith) ∙ ap (λ (xs : List Dropped). is_listed k (indices_of xs)) list ∙ first_listed k (indices_of (dropped_in n (k + 1) (after_in n r w) ws)) in
    let rest = kept_unlisted n is ws (k + 1) (after_in n r w)
    (λ j h. same j (omega (arith, h)) ∙ ap (λ (xs : List Dropped). is_listed j (indices_of xs)) list ∙ later_listed j k (indices_of (dropped_in n (k + 1) (after_in n r w) ws)) (omega (arith, h))) in
    rw (ne_eqb _ _ e, here) rest)

-- ---- a recording, over two memories of one length

module _ (bytes : List ℕ) (m : Memories) (like : length m.i ≡ length m.z) where
  -- the new stream runs without a refusal, and ends with the registers and memories of the old words, refused ones skipped
  pub mended_runs : Completes (kept_of bytes (length m.i)) (unpack_of bytes) 0 reset_of m (running reset_of (mended_of bytes (length m.i)) m)
  mended_runs =
      let kept = kept_of bytes (length m.i) in
      let words : unpack_of (pack_of kept) ≡ kept = unpack_pack (kept_fits 20 (length m.i) (unpack_of bytes) reset_of (unpack_fits bytes)) in
      subst (Completes kept (unpack_of bytes) 0 reset_of m)
      (ap (λ (vs : List ℕ). run_of (step_of chip) reset_of (map word_of vs) m) (sym words) ∙ run_good reset_of (pack_of kept) m (sym (packed_good kept)) refl refl like)
      (mends (length m.i) (unpack_of bytes) 0 0 reset_of m refl (sym like))

  -- a word is on the list exactly where it is refused, with its index and its number
  pub listed : (k number : ℕ) → Memᴰ (dropped k number) (dropped_of bytes (length m.i))
      ↔ ((k < length (unpack_of bytes)) × (number_after reset_of m (unpack_of bytes) k ≡ number) × (number ≢ 0))
  listed k number =
      let there = listed_refused (length m.i) (unpack_of bytes) 0 reset_of m refl (sym like) (dropped k number) in (
        λ u.
            let x = there u in
            let at : x.before ≡ k = omega (arith, x.index) in
            (rw at at x.below, rw at at x.number, x.some),
        λ h.
            rw (zero-add k) at (refused_listed (length m.i) (unpack_of bytes) 0 reset_of m refl (sym like) k number h.0 h.1 h.2),
      )

-- the list is in the order of the recording
pub in_order : (bytes : List ℕ) (n : ℕ) → Rising 0 (dropped_of bytes n)
in_order bytes n = rising n (unpack_of bytes) 0 reset_of

-- the words that are kept are exactly those that are not listed
pub kept_exactly : (bytes : List ℕ) (n : ℕ) → kept_of bytes n ≡ unlisted (indices_of (dropped_of bytes n)) 0 (unpack_of bytes)
kept_exactly bytes n = kept_unlisted n (indices_of (dropped_of bytes n)) (unpack_of bytes) 0 reset_of (λ j h. refl)

-- they are the words of the new stream
pub mended_words : (bytes : List ℕ) (n : ℕ) → unpack_of (mended_of bytes n) ≡ kept_of bytes n
mended_words bytes n = unpack_pack (kept_fits 20 n (unpack_of bytes) reset_of (unpack_fits bytes))

-- ---- a recording with nothing to mend

-- a run that is not refused found no flaw
unflawed : (bytes : List ℕ) (m : Memories) → (running reset_of bytes m).refusal ≡ 0 → flaw_of bytes m ≡ 0
unfolding running
unflawed bytes m = go (eqb (flaw_of bytes m) 0) refl
  where
    go : (b : Bool) → eqb (flaw_of bytes m) 0 ≡ b
        → (cond b (run_of (step_of chip) reset_of (words_of bytes) m) (ran (flaw_of bytes m) 0 0 reset_of m)).refusal ≡ 0 → flaw_of bytes m ≡ 0
    go true e z = eqb-true (flaw_of bytes m) 0 e
    go false e z = z

none_there : {A : Type 0} (l : List A) → length l ≡ 0 → l ≡ []
none_there [] e = refl
none_there (x ∷ l) e = absurd (omega arith)

-- memories of one length
like_told : (a b : ℕ) → ◌≡◌ {A = ℕ} (cond (eqb a b) 0 2) 0 → a ≡ b
like_told a b = go (eqb a b) refl
  where
    go : (t : Bool) → eqb a b ≡ t → ◌≡◌ {A = ℕ} (cond t 0 2) 0 → a ≡ b
    go true e z = eqb-true a b e
    go false e z = absurd (omega arith)

module _ (bytes : List ℕ) (m : Memories) (whole : (running reset_of bytes m).refusal ≡ 0) where
  -- the checks that were passed
  pub sound : (bad_length bytes ≡ false) × (bad_tail bytes ≡ false) × (length m.i ≡ length m.z)
  unfolding flaw_of
  sound =
      let g = good bytes (cond (eqb (length m.i) (length m.z)) 0 2) (unflawed bytes m whole) in
      (g.0, g.1, like_told (length m.i) (length m.z) g.2)

  -- all words are kept
  pub kept_all : kept_of bytes (length m.i) ≡ unpack_of bytes
  kept_all =
      let good_run = run_good reset_of bytes m (sym (next_told bytes 0 sound.0 sound.1)) refl refl sound.2 in
      keeps (length m.i) (unpack_of bytes) 0 0 reset_of m refl (sym sound.2) (ap (λ (b : Ran Registers Memories). b.refusal) good_run ∙ whole)

  -- none is dropped
  pub dropped_none : dropped_of bytes (length m.i) ≡ []
  dropped_none =
      none_there (dropped_of bytes (length m.i))
      (omega (arith, all_sorted (length m.i) (unpack_of bytes) 0 reset_of, ap length kept_all))

  -- a stream of bytes is the new stream
  pub mended_same : fit 8 bytes ≡ true → mended_of bytes (length m.i) ≡ bytes
  mended_same f = ap pack_of kept_all ∙ pack_unpack (fits 8 bytes f) (next_told bytes 0 sound.0 sound.1)

  -- and the memories are those of its run
  pub memories_same : fit 8 bytes ≡ true → (all_of (step_of chip) reset_of (words_of bytes) m).memories ≡ (running reset_of bytes m).memories
  memories_same f =
      sym (ap (λ (a : State Registers Memories). a.memories) (mended_runs bytes m sound.2).left)
      ∙ ap (λ (s : List ℕ). (running reset_of s m).memories) (mended_same f)
