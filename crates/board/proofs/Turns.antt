-- A run over a stream's words on a board, as a loop makes it. Assumes nothing.
use Rattle.std.proofs.Common.{◌≡◌, ℕ, ◌+◌, ◌%◌, ◌^◌, ◌<◌, ◌≤◌, Bool, true, false, cond, not, ◌≢◌, List, length, get_or, drop, sym, ap, ◌∙◌, ap₂, arith, ne_eqb}
use borrow.Author.Tests.{not-true, not-false}
use Rattle.stream.specs.Format.{unpack_of, word_at}
use Rattle.stream.specs.Calls.{checked}
use Rattle.stream.proofs.Calls.{next_told, flaw_told, good}
use Rattle.registers.specs.declared.word.Word.{Word}
use Rattle.registers.specs.Word.{word_of}
use Rattle.machine.specs.Run.{outcome, Ran, ran, run_from}
use Rattle.machine.proofs.Runs.{turn_accepted, turn_refused, turn_none}
use Rattle.chip.specs.Stream.{words_of}
use Rattle.chip.proofs.Streams.{word_at_lem, words_length}
use Rattle.board.specs.declared.Board.{Board}
use Rattle.board.specs.declared.Started.{Started}
use Rattle.board.specs.declared.run.Ended.{Ended}
use Rattle.board.specs.Bank.{Bank, is_even}
use Rattle.board.specs.Board.{board_step}
use Rattle.board.specs.Calls.{resetting, board_flaw, words_from, running_from, board_running, ended_of}
use Rattle.board.proofs.Taken.{refused_leaves}

-- ---- the loop

module _ (start : Board) (bytes : List ℕ) (m₀ : Bank) where
  -- the whole run is the run of the words that are left, from where k words came to
  pub record Reached (m : Bank) (b : Board) (sum k : ℕ) : Type 0 where
    pub same : words_from start bytes m₀ ≡ run_from board_step (ran 0 k sum b m) (drop k (words_of bytes))

  -- before the first word the whole run is left, from the start, with sum 0 and the memories as they were found
  pub reached_start : {b : Board} → b ≡ start → Reached m₀ b 0 0
  reached_start e = record { same = ap (λ (q : Board). run_from board_step (ran 0 0 0 q m₀) (words_of bytes)) (sym e) }

  module _ {m : Bank} {b : Board} {sum k : ℕ} (so : Reached m b sum k) where
    module _ (left : k < length (unpack_of bytes)) {n p : ℕ} {b' : Board} {m' : Bank} (told : outcome n p b' m' ≡ board_step b (word_of (word_at bytes k)) m) where
      below : k < length (words_of bytes)
      below = rw (words_length bytes) left

      here : outcome n p b' m' ≡ board_step b (get_or (words_of bytes) k (word_of 0)) m
      here = told ∙ ap (λ (w : Word). board_step b w m) (sym (word_at_lem bytes k))

      -- the next word is accepted
      pub reached_more : n ≡ 0 → Reached m' b' ((sum + p) % 2 ^ 64) (k + 1)
      reached_more e = record { same = so.same ∙ turn_accepted board_step (words_of bytes) k (word_of 0) below sum b m here e }

      -- the next word is refused
      pub reached_halt : n ≢ 0 → ran n k sum b' m' ≡ words_from start bytes m₀
      reached_halt e =
          let stay = refused_leaves b (word_of (word_at bytes k)) m told e in
          ap₂ (ran n k sum) stay.0 stay.1 ∙ sym (so.same ∙ turn_refused board_step (words_of bytes) k (word_of 0) below sum b m here e)

    -- no word is left
    pub reached_end : length (unpack_of bytes) ≤ k → ran 0 k sum b m ≡ words_from start bytes m₀
    reached_end h = sym (so.same ∙ turn_none board_step (words_of bytes) k (ran 0 k sum b m) (rw (words_length bytes) h))

-- ---- before the first word

-- an answer of a run that took no word
abbrev pub stopped_by : ℕ → Board → Ended
stopped_by number b = record { refusal = number; index = 0; sum = 0; board = b }

module _ (start : Board) (bytes : List ℕ) (m : Bank) where
  -- past 11 and 12 the lengths decide
  lengths_told : checked bytes 0 ≡ 0 → (t : Bool) → is_even start.units m ≡ t → board_flaw start.units bytes m ≡ cond t 0 2
  unfolding board_flaw
  lengths_told e t f = let g = good bytes 0 e in next_told bytes (cond (is_even start.units m) 0 2) g.0 g.1 ∙ ap (λ (s : Bool). cond s 0 2) f

  from_refused : {n : ℕ} → board_flaw start.units bytes m ≡ n → n ≢ 0 → ran n 0 0 start m ≡ running_from start bytes m
  unfolding running_from
  from_refused {n} e some = rw (e, ne_eqb n 0 some)

  from_good : board_flaw start.units bytes m ≡ 0 → words_from start bytes m ≡ running_from start bytes m
  unfolding running_from
  from_good e = rw e

  module _ {n : ℕ} (number : n ≡ checked bytes 0) where
    -- a stream with a flaw
    pub from_flawed : {a : Ended} → a ≡ stopped_by n start → n ≢ 0 → ended_of a m ≡ running_from start bytes m
    unfolding board_flaw
    from_flawed answer some =
        ap (λ (q : Ended). ended_of q m) answer ∙ from_refused (flaw_told bytes (cond (is_even start.units m) 0 2) (λ e. some (number ∙ e)) ∙ sym number) some

    module _ (none : n ≡ 0) {even : Bool} (like : even ≡ is_even start.units m) where
      -- memories that differ in length
      pub from_unlike : {a : Ended} → a ≡ stopped_by 2 start → not even ≡ true → ended_of a m ≡ running_from start bytes m
      from_unlike answer unlike =
          ap (λ (q : Ended). ended_of q m) answer
          ∙ from_refused (lengths_told (sym number ∙ none) false (sym like ∙ not-true even unlike)) (λ e. absurd (omega arith))

      -- a good stream over memories of one length
      pub from_like : {a : Ran Board Bank} → a ≡ words_from start bytes m → not even ≡ false → a ≡ running_from start bytes m
      from_like told fits = told ∙ from_good (lengths_told (sym number ∙ none) true (sym like ∙ not-false even fits))

-- ---- reset first

module _ (units : ℕ) (bytes : List ℕ) (m : Bank) {s : Started} (begun : s ≡ resetting units) where
  -- another number of units
  pub run_none : {a : Ended} → a ≡ stopped_by s.refusal s.board → s.refusal ≢ 0 → ended_of a m ≡ board_running units bytes m
  unfolding board_running
  run_none answer some =
      ap (λ (q : Ended). ended_of q m) answer
      ∙ ap (λ (q : Started). ran q.refusal 0 0 q.board m) begun
      ∙ rw (ne_eqb _ _ (λ e. some (ap (λ (q : Started). q.refusal) begun ∙ e)))

  -- a board that may be
  pub run_some : {a : Ran Board Bank} → a ≡ running_from s.board bytes m → s.refusal ≡ 0 → a ≡ board_running units bytes m
  unfolding board_running
  run_some told none =
      told ∙ ap (λ (q : Started). running_from q.board bytes m) begun ∙ rw (sym (ap (λ (q : Started). q.refusal) begun) ∙ none)
