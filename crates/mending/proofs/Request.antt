-- Request 13, of each outcome that the promise of `dextolumen_mend` allows: each follows from the definition's own cases and from what a mended recording
-- does (proofs/Recording). Assumes nothing.
use mathlib.Core.Path.{◌≡◌, refl, sym, ap, ap₂, ◌∙◌}
use mathlib.Core.Logic.{◌≢◌}
use mathlib.Core.Bool.{Bool, true, false, cond}
use mathlib.Core.List.{List, [], map}
use Prim.Native.Nat.{ℕ, ◌≤◌}
use native.Mathlib.Omega.{arith}
use lib.ListN.{length, take, length-map}
use lib.Seq.{take-append_seam}
use lib.Dec.{eqb}
use borrow.Author.Tests.{eq-eqb, ne_eqb, eqb-true, le-ltb}
use Rattle.stream.specs.Format.{fit, unpack_of}
use Rattle.stream.specs.Calls.{over}
use Rattle.registers.specs.declared.Registers.{Registers}
use Rattle.registers.specs.Record.{reset_of}
use Rattle.machine.specs.Machine.{Memories, step_of}
use Rattle.machine.specs.Offers.{State, state, all_of}
use Rattle.chip.specs.Chip.{chip}
use Rattle.chip.specs.Stream.{words_of, running}
use Rattle.mending.specs.Mend.{Dropped, mended_of, dropped_of, indices_of, numbers_of, Mending, mending, refused, is_short, refusal_in, mended_all, mending_of}
use Rattle.mending.specs.Request.{stream_in, indices_in, numbers_in, unlisted, Lists, Mends, whole, Request13}
use Rattle.mending.proofs.Ends.{cut_none, none_cleared}
use Rattle.mending.proofs.Recording.{mended_runs, listed, in_order, kept_exactly, mended_words, sound, dropped_none, mended_same, memories_same}

module _ (bytes out indices numbers : List ℕ) (m : Memories) where
  -- ---- refusals

  unlike_refused : length m.i ≢ length m.z → mending_of bytes out indices numbers m ≡ mending (refused 2) out indices numbers m
  unfolding mending_of refusal_in
  unlike_refused e = rw (ne_eqb _ _ e)

  short_refused : length m.i ≡ length m.z → is_short bytes out indices numbers m ≡ true
      → mending_of bytes out indices numbers m ≡ mending (refused 13) out indices numbers m
  unfolding mending_of refusal_in
  short_refused e s = rw (eq-eqb _ _ e, s)

  -- room for exactly the new stream and the list is enough
  pub exact_room : length m.i ≡ length m.z → length (mended_of bytes (length m.i)) ≤ length out
      → length (dropped_of bytes (length m.i)) ≤ length indices → length (dropped_of bytes (length m.i)) ≤ length numbers
      → mending_of bytes out indices numbers m ≡ mended_all bytes out indices numbers m
  unfolding mending_of refusal_in is_short
  exact_room like a b c = rw (eq-eqb _ _ like, le-ltb _ _ a, le-ltb _ _ b, le-ltb _ _ c)

  -- what is not refused found memories of one length, and room
  unrefused : (mending_of bytes out indices numbers m).told.refusal ≡ 0
      → (length m.i ≡ length m.z) × (mending_of bytes out indices numbers m ≡ mended_all bytes out indices numbers m)
  unfolding mending_of refusal_in
  unrefused = go (eqb (length m.i) (length m.z)) (is_short bytes out indices numbers m) refl
    where
      result : ℕ → Mending
      result number = cond (eqb number 0) (mended_all bytes out indices numbers m) (mending (refused number) out indices numbers m)

      go : (l s : Bool) → eqb (length m.i) (length m.z) ≡ l → (result (cond l (cond s 13 0) 2)).told.refusal ≡ 0
          → (length m.i ≡ length m.z) × (result (cond l (cond s 13 0) 2) ≡ mended_all bytes out indices numbers m)
      go true false e z = (eqb-true (length m.i) (length m.z) e, refl)
      go true true e z = absurd (omega arith)
      go false s e z = absurd (omega arith)

  -- ---- a recording with nothing to mend

  -- comes back as it was
  pub same_again : fit 8 bytes ≡ true → (running reset_of bytes m).refusal ≡ 0 → length bytes ≤ length out
      → mending_of bytes out indices numbers m ≡ mending (whole bytes) (over bytes out) indices numbers (running reset_of bytes m).memories
  unfolding over
  same_again f good room =
      let n = length m.i in
      let s = sound bytes m good in
      let new : mended_of bytes n ≡ bytes = mended_same bytes m good f in
      let list : dropped_of bytes n ≡ [] = dropped_none bytes m good in
      exact_room s.2 (omega (arith, ap length new)) (omega (arith, ap length list)) (omega (arith, ap length list))
      ∙ rw (new, list, cut_none bytes s.0, none_cleared bytes s.1, memories_same bytes m good f)

  -- ---- an outcome that is not refused

  module _ {o : Mending} (promise : o ≡ mending_of bytes out indices numbers m) (none : o.told.refusal ≡ 0) where
    fine : (length m.i ≡ length m.z) × (mending_of bytes out indices numbers m ≡ mended_all bytes out indices numbers m)
    fine = unrefused (sym (ap (λ (x : Mending). x.told.refusal) promise) ∙ none)

    done_all : o ≡ mended_all bytes out indices numbers m
    done_all = promise ∙ fine.1

    new_stream : stream_in o ≡ mended_of bytes (length m.i)
    unfolding over
    new_stream =
        ap₂ (λ (k : ℕ) (l : List ℕ). take k l) (ap (λ (x : Mending). x.told.size) done_all) (ap (λ (x : Mending). x.stream) done_all)
        ∙ take-append_seam (mended_of bytes (length m.i)) _

    -- a list of numbers stands at the front
    stands : (f : Dropped → ℕ) (old : List ℕ) → take (length (dropped_of bytes (length m.i))) (over (map f (dropped_of bytes (length m.i))) old) ≡ map f (dropped_of bytes (length m.i))
    unfolding over
    stands f old =
        ap (λ (k : ℕ). take k (over (map f (dropped_of bytes (length m.i))) old)) (sym (length-map (dropped_of bytes (length m.i)) f))
        ∙ take-append_seam (map f (dropped_of bytes (length m.i))) _

    new_indices : indices_in o ≡ indices_of (dropped_of bytes (length m.i))
    new_indices =
        ap₂ (λ (k : ℕ) (l : List ℕ). take k l) (ap (λ (x : Mending). x.told.dropped) done_all) (ap (λ (x : Mending). x.indices) done_all)
        ∙ stands (λ (x : Dropped). x.index) indices

    new_numbers : numbers_in o ≡ numbers_of (dropped_of bytes (length m.i))
    new_numbers =
        ap₂ (λ (k : ℕ) (l : List ℕ). take k l) (ap (λ (x : Mending). x.told.dropped) done_all) (ap (λ (x : Mending). x.numbers) done_all)
        ∙ stands (λ (x : Dropped). x.number) numbers

    lists : Lists bytes m o
    lists =
        record {
          list = dropped_of bytes (length m.i);
          indices_are = new_indices;
          numbers_are = new_numbers;
          refused_words = listed bytes m fine.0;
          rises = in_order bytes (length m.i);
        }

    new_ends : state (running reset_of (stream_in o) m).registers (running reset_of (stream_in o) m).memories ≡ all_of (step_of chip) reset_of (words_of bytes) m
    new_ends = rw new_stream (mended_runs bytes m fine.0).left

    mends : Mends bytes m o
    mends =
        let n = length m.i in
        record {
          runs = ap (λ (s : List ℕ). (running reset_of s m).refusal) new_stream ∙ (mended_runs bytes m fine.0).refusal;
          ends = new_ends;
          drawn = ap (λ (x : Mending). x.memories) done_all ∙ sym (ap (λ (a : State Registers Memories). a.memories) new_ends);
          lists = lists;
          keeps = ap unpack_of new_stream ∙ mended_words bytes n ∙ kept_exactly bytes n ∙ ap (λ (is : List ℕ). unlisted is 0 (unpack_of bytes)) (sym new_indices);
          cut_told = ap (λ (x : Mending). x.told.cut) done_all;
          cleared_told = ap (λ (x : Mending). x.told.cleared) done_all;
        }

-- the request, of every outcome
pub request_13 : (bytes out indices numbers : List ℕ) (m : Memories) {o : Mending} → o ≡ mending_of bytes out indices numbers m
    → Request13 bytes out indices numbers m o
request_13 bytes out indices numbers m {o} promise =
    record {
      unlike = λ e. promise ∙ unlike_refused bytes out indices numbers m e;
      short = λ e s. promise ∙ short_refused bytes out indices numbers m e s;
      enough = λ like a b c. ap (λ (x : Mending). x.told.refusal) (promise ∙ exact_room bytes out indices numbers m like a b c);
      mends = mends bytes out indices numbers m promise;
      same = λ f good room. promise ∙ same_again bytes out indices numbers m f good room;
    }
