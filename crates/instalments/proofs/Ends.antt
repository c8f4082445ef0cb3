-- The end: what it tells of the bits that are left over is what is wrong with the stream, and over memories that differ in length the first
-- word was refused with 2. Assumes nothing.
use Rattle.std.proofs.Common.{◌≡◌, ℕ, zero, suc, ◌+◌, ◌-◌, ◌*◌, ◌/◌, ◌%◌, ◌^◌, ◌<◌, Bool, true, false, cond, eqb, ◌≢◌, List, [], ◌∷◌, map, length, get_or, drop, sym, refl, ap, ◌∙◌, ap₂, mod-lt, arith, length-drop, drop_of_length-le, get_or-drop, drop-drop, eq-eqb, ne_eqb}
use native.Mathlib.Nat.{mul-add-mod_self_right}
use lib.ListN.{length-map}
use borrow.Author.Tests.{eqb-false}
use Rattle.stream.specs.Format.{bits, number, joined, unpack_of}
use Rattle.stream.specs.Calls.{bad_length, bad_tail, checked}
use Rattle.stream.proofs.Bits.{Fits, none, more, number_bits}
use Rattle.stream.proofs.Cut.{length_joined, drop_joined}
use Rattle.stream.proofs.Calls.{good_told}
use Rattle.stream.proofs.Stream.{length_unpack}
use Rattle.stream.proofs.Round.{unpack_fits}
use Rattle.registers.specs.declared.Registers.{Registers}
use Rattle.registers.specs.Record.{reset_of}
use Rattle.registers.specs.Word.{word_of}
use Rattle.refusals.specs.Refusal.{refusal_of}
use Rattle.refusals.proofs.Refusals.{given_2}
use Rattle.machine.specs.Run.{Ran, ran, advance, run_from, run_of}
use Rattle.machine.specs.Machine.{Memories, step_of}
use Rattle.machine.proofs.Runs.{zero_or_not, advance_refused, stays, index_low}
use Rattle.machine.proofs.Steps.{step_number}
use Rattle.machine.proofs.Kept.{run_length_i, run_length_z}
use Rattle.chip.specs.Chip.{chip}
use Rattle.chip.specs.Stream.{words_of, flaw_in, flaw_of, running}
use Rattle.instalments.specs.Instalments.{numbered, holding, end_number, end_number_of}
use Rattle.instalments.specs.Delivered.{words_run, ended_by}
use Rattle.instalments.proofs.Rows.{past, past_length}
use Rattle.instalments.proofs.Words.{counted_low, known}

-- ---- the bits that are left over

-- past the word in three bytes stands the low half of the last
last_half : (s : List ℕ) → length s ≡ 3 → number (drop 20 (joined 8 s)) ≡ get_or s 2 0 % 16
unfolding joined bits
last_half [] e = absurd (omega arith)
last_half (a ∷ []) e = absurd (omega arith)
last_half (a ∷ b ∷ []) e = absurd (omega arith)
last_half (a ∷ b ∷ c ∷ []) e = number_bits 4 c
last_half (a ∷ b ∷ c ∷ d ∷ s) e = absurd (omega arith)

module _ (s : List ℕ) where
  -- how many they are
  left_count : length (past (joined 8 s)) ≡ length s % 5 * 8 % 20
  left_count =
      let n : length (joined 8 s) ≡ 2 * (length s / 5) * 20 + length s % 5 * 8 = omega (arith, length_joined 8 s) in
      past_length (joined 8 s) ∙ ap (λ (k : ℕ). k % 20) n ∙ mul-add-mod_self_right (2 * (length s / 5)) 20 (length s % 5 * 8)

  -- none
  left_none : length s % 5 ≡ 0 → number (past (joined 8 s)) ≡ 0
  unfolding past number
  left_none e =
      let words : length (joined 8 s) / 20 ≡ 2 * (length s / 5) = omega (arith, length_joined 8 s) in
      rw (drop_of_length-le (joined 8 s) {i = length (joined 8 s) / 20 * 20} (omega (arith, length_joined 8 s)))

  -- the low half of the last byte
  left_half : length s % 5 ≡ 3 → number (past (joined 8 s)) ≡ get_or s (length s - 1) 0 % 16
  unfolding past
  left_half e =
      let q = length s / 5 in
      let at : length (joined 8 s) / 20 * 20 ≡ 5 * q * 8 + 20 = omega (arith, length_joined 8 s) in
      let end : 5 * q + 2 ≡ length s - 1 = omega arith in
      ap (λ (i : ℕ). number (drop i (joined 8 s))) at
      ∙ ap number (sym (drop-drop 20 (5 * q * 8) (joined 8 s)) ∙ ap (drop 20) (drop_joined 8 (5 * q) s))
      ∙ last_half (drop (5 * q) s) (omega (arith, length-drop (5 * q) s))
      ∙ ap (λ (c : ℕ). c % 16) (get_or-drop (5 * q) s 2 0 ∙ ap (λ (i : ℕ). get_or s i 0) end)

  -- they tell what is wrong with the stream
  left_told : (ni nz : ℕ) → end_number (number (past (joined 8 s))) (length (past (joined 8 s))) ni nz ≡ flaw_in s ni nz
  unfolding checked bad_length bad_tail
  left_told ni nz = go (length s % 5) refl (mod-lt (length s) (omega arith))
    where
      count : (q : ℕ) → length s % 5 ≡ q → length (past (joined 8 s)) ≡ q * 8 % 20
      count q e = left_count ∙ ap (λ (r : ℕ). r * 8 % 20) e

      go : (q : ℕ) → length s % 5 ≡ q → q < 5
          → end_number (number (past (joined 8 s))) (length (past (joined 8 s))) ni nz ≡ flaw_in s ni nz
      go zero e h = rw (count 0 e, left_none e, e)
      go (suc zero) e h = rw (count 1 e, e)
      go (suc (suc zero)) e h = rw (count 2 e, e)
      go (suc (suc (suc zero))) e h = rw (count 3 e, left_half e, e)
      go (suc (suc (suc (suc zero)))) e h = rw (count 4 e, e)
      go (suc (suc (suc (suc (suc q))))) e h = absurd (omega arith)

-- ---- 2

-- a run keeps the lengths, so the end tells what is checked of the whole stream
pub end_number_lem : (bytes : List ℕ) (m : Memories)
    → end_number_of (holding (words_run bytes m) (past (joined 8 bytes))) ≡ flaw_of bytes m
unfolding flaw_of
end_number_lem bytes m =
    left_told bytes (length (words_run bytes m).memories.i) (length (words_run bytes m).memories.z)
    ∙ ap₂ (flaw_in bytes) (run_length_i chip (words_of bytes) (ran 0 0 0 reset_of m)) (run_length_z chip (words_of bytes) (ran 0 0 0 reset_of m))

module _ (m : Memories) (unlike : length m.i ≢ length m.z) where
  -- over memories that differ in length the first word gets 2
  first_refused : (w : ℕ) → w < 2 ^ 20 → advance (step_of chip) (ran 0 0 0 reset_of m) (word_of w) ≡ ran 2 0 0 reset_of m
  first_refused w h =
      let two : refusal_of (length m.i) (length m.z) reset_of (word_of w) ≡ 2 =
      (given_2 (length m.i) (length m.z) reset_of (word_of w)).1 (rw (ne_eqb _ _ unlike), (known w h, tt)) in
      let number = step_number chip reset_of (word_of w) m ∙ two in
      advance_refused (step_of chip) (ran 0 0 0 reset_of m) (word_of w) refl (λ e. absurd (omega (arith, number, e)))
      ∙ ap (λ (n : ℕ). ran n 0 0 reset_of m) number

  -- and the end where there is none
  unlike_run : {ws : List ℕ} → Fits 20 ws → ended_by 2 (run_from (step_of chip) (ran 0 0 0 reset_of m) (map word_of ws)) ≡ ran 2 0 0 reset_of m
  unlike_run none = refl
  unlike_run (more {n = w} {ns = ws} h f) =
      ap (ended_by 2)
      (ap (λ (a : Ran Registers Memories). run_from (step_of chip) a (map word_of ws)) (first_refused w h)
      ∙ stays (step_of chip) (map word_of ws) (ran 2 0 0 reset_of m) (λ e. absurd (omega (arith, e))))

-- ---- all at once

-- an end that tells 0 tells the run
ended_zero : (a : Ran Registers Memories) → ended_by 0 a ≡ a
ended_zero a =
    zero_or_not a.refusal (λ e. rw (eq-eqb _ _ e) (ap (λ (n : ℕ). numbered n a) (sym e))) (λ e. rw (ne_eqb _ _ e))

-- a stream shorter than 2 ^ 64 bytes has fewer words than are counted
all_counted : (bytes : List ℕ) (m : Memories) → length bytes < 2 ^ 64 → words_run bytes m ≡ run_of (step_of chip) reset_of (words_of bytes) m
all_counted bytes m h =
    counted_low (run_of (step_of chip) reset_of (words_of bytes) m)
    (omega (arith, h, index_low (step_of chip) reset_of (words_of bytes) m, length-map (unpack_of bytes) word_of, length_unpack bytes))

-- a stream that 11 and 12 don't touch ends as if it were run at once
pub ended_once : (bytes : List ℕ) (m : Memories) → length bytes < 2 ^ 64 → checked bytes 0 ≡ 0 → ended_by (flaw_of bytes m) (words_run bytes m) ≡ running reset_of bytes m
unfolding running flaw_of
ended_once bytes m h e =
    ap (ended_by (flaw_of bytes m)) (all_counted bytes m h)
    ∙ (rw (good_told bytes (cond (eqb (length m.i) (length m.z)) 0 2) e) (go (eqb (length m.i) (length m.z)) refl))
  where
    a : Ran Registers Memories
    a = run_of (step_of chip) reset_of (words_of bytes) m

    go : (b : Bool) → eqb (length m.i) (length m.z) ≡ b
        → ended_by (cond b 0 2) a ≡ cond (eqb (cond b 0 2) 0) a (ran (cond b 0 2) 0 0 reset_of m)
    go true t = ended_zero a
    go false t = unlike_run m (eqb-false _ _ t) (unpack_fits bytes)
