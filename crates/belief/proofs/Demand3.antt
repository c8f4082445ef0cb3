-- The order's demand 3: what an operator believes of the picture. What words leave at a place is what the offers made there leave of the two
-- numbers that stood there; each of them lands, by what is supposed; and offers that land leave the least depth. Assumes nothing.
use mathlib.Core.Path.{◌≡◌, refl, sym, ap, ◌∙◌, subst}
use mathlib.Core.List.Memᴰ
use mathlib.Core.List.{List, [], ◌∷◌, map, Memᴰ}
use Prim.Native.Nat.{ℕ}
use native.Mathlib.Nat.{zero-add}
use lib.Dec.{eqb}
use lib.ListN.{length}
use mathlib.Core.Bool.{not}
use borrow.Author.Tests.{eq-eqb, ne_eqb, not-true}
use Rattle.stream.specs.Format.{unpack_of}
use Rattle.registers.specs.declared.Registers.{Registers}
use Rattle.registers.specs.declared.word.Word.{Word}
use Rattle.registers.specs.Record.{reset_as}
use Rattle.registers.specs.Word.{word_of}
use Rattle.registers.specs.Next.{completed_by}
use Rattle.refusals.specs.Refusal.{is_ptrn}
use Rattle.ground.proofs.Truth.{both, either}
use Rattle.machine.specs.Run.{Outcome, Ran}
use Rattle.machine.specs.Machine.{Memories, memories, step_of}
use Rattle.machine.specs.Touched.{cell_in}
use Rattle.machine.specs.Offers.{State, all_of}
use Rattle.machine.proofs.Runs.{zero_or_not}
use Rattle.machine.proofs.Offers.{all_cell, Took, run_taken, taken_member, cells_as}
use Rattle.chip.specs.Chip.{chip}
use Rattle.chip.specs.Stream.{words_of, flaw_in, flaw_of, running}
use Rattle.chip.specs.Demands.{Ended}
use Rattle.chip.proofs.Laws.{inside, word_unstored}
use Rattle.belief.specs.Belief.{words_taken, offers_of, is_supposed, is_believable, Believed, Believable, AfterCalls, Demand3}
use Rattle.belief.proofs.Numbers.{Narrow, words_narrow, Small, reset_small, after_small, completed_small}
use Rattle.belief.proofs.Ends.{lands, lands_believed}
use Rattle.belief.proofs.Lands.{supposed_lands}

-- all of some words whose data have 16 bits, from a record that holds such numbers
words_believed : (r : Registers) → Small r → (ws : List Word) (m : Memories) → ((w : Word) → Memᴰ w ws → Narrow w)
    → Believable r ws m (all_of (step_of chip) r ws m).memories
words_believed r small ws m narrow suppose at =
    lands_believed _ (cell_in m at) _
    (all_cell chip inside at ws r m
    ∙ cells_as chip (length m.i) (length m.z) at lands Small Narrow is_believable (λ r w s h. after_small r s w h)
    (λ r w s e on. supposed_lands _ r (completed_by r w) (completed_small (length m.i) (length m.z) r w s e) (both (not (is_ptrn w)) (is_supposed r (completed_by r w)) on).1)
    (λ r w e on. word_unstored _ r w (not-true _ (both (not (is_ptrn w)) (is_supposed r (completed_by r w)) on).0))
    ws r (cell_in m at) small narrow suppose)

-- a packed stream takes as many words as its index tells, and leaves what all of them leave
stream_took : (r : Registers) (bytes : List ℕ) (m : Memories) → Took chip (words_taken r (length m.i) (length m.z) bytes) 0 r m (running r bytes m)
unfolding running flaw_of words_taken
stream_took r bytes m =
    zero_or_not (flaw_in bytes (length m.i) (length m.z))
    (λ none. rw (eq-eqb _ _ none) (run_taken chip (words_of bytes) 0 0 r m))
    (λ some. rw (ne_eqb _ _ some) (record { index = refl; left = refl }))

taken_narrow : (r : Registers) (ni nz : ℕ) (bytes : List ℕ) (w : Word) → Memᴰ w (words_taken r ni nz bytes) → Narrow w
unfolding words_taken
taken_narrow r ni nz bytes w =
    either (λ (ws : List Word). Memᴰ w ws → Narrow w) (eqb (flaw_in bytes ni nz) 0)
    (λ t u. words_narrow (unpack_of bytes) w (taken_member chip ni nz (words_of bytes) r w u)) (λ t u. absurd (Memᴰ.not-nil u))

-- each outcome has the memories that those words leave
pub stream_left : (r : Registers) (bytes i z : List ℕ) (o : Ended r bytes i z)
    → memories o.i_left o.z_left ≡ (all_of (step_of chip) r (words_taken r (length i) (length z) bytes) (memories i z)).memories
stream_left r bytes i z o =
    ap (λ (a : Ran Registers Memories). a.memories) o.promise ∙ ap (λ (a : State Registers Memories). a.memories) (stream_took r bytes (memories i z)).left

streams_believed : (r : Registers) → Small r → (bytes i z : List ℕ) (o : Ended r bytes i z)
    → Believable r (words_taken r (length i) (length z) bytes) (memories i z) (memories o.i_left o.z_left)
streams_believed r small bytes i z o suppose at =
    subst (λ (m : Memories). Believed (cell_in (memories i z) at) (offers_of r (length i) (length z) (words_taken r (length i) (length z) bytes) at) (cell_in m at))
    (sym (stream_left r bytes i z o))
    (words_believed r small (words_taken r (length i) (length z) bytes) (memories i z) (taken_narrow r (length i) (length z) bytes) suppose at)

-- the words that a packed stream takes are as many as each outcome tells
pub taken_told : (r : Registers) (bytes i z : List ℕ) (o : Ended r bytes i z) → o.index ≡ length (words_taken r (length i) (length z) bytes)
taken_told r bytes i z o = ap (λ (a : Ran Registers Memories). a.index) o.promise ∙ (stream_took r bytes (memories i z)).index ∙ zero-add _

-- calls of `step`, one after the other, leave what all of their words leave
pub calls_leave : (So : Memories → Type 0) (numbers : List ℕ) (r : Registers) (m : Memories) → So (all_of (step_of chip) r (map word_of numbers) m).memories
    → AfterCalls So r numbers m
unfolding word_of
calls_leave So [] r m so = so
calls_leave So (n ∷ numbers) r m so = λ o.
    calls_leave So numbers o.registers (memories o.i_left o.z_left)
    (subst (λ (a : Outcome Registers Memories). So (all_of (step_of chip) a.registers (map word_of numbers) a.memories).memories) (sym o.promise) so)

numbers_believed : (r : Registers) → Small r → (numbers : List ℕ) (m : Memories)
    → Believable r (map word_of numbers) m (all_of (step_of chip) r (map word_of numbers) m).memories
numbers_believed r small numbers m = words_believed r small (map word_of numbers) m (words_narrow numbers)

-- each place has the least of its starting depth and all depths offered there, with the intensity that goes with it; in every layout
pub demand_3 : (layout : ℕ) → Demand3 layout
demand_3 layout =
    let r = reset_as layout in
    let small = reset_small layout in
    record {
      words = numbers_believed r small;
      calls = λ numbers m. calls_leave (Believable r (map word_of numbers) m) numbers r m (numbers_believed r small numbers m);
      streams = streams_believed r small;
    }
