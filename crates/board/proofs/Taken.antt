-- The ways out of a board's calls: a word, a read, reset. Assumes nothing.
use Rattle.std.proofs.Common.{◌≡◌, ℕ, ◌<◌, Bool, true, false, cond, not, eqb, ltb, ◌≢◌, sym, ap, ◌∙◌, ne_eqb}
use borrow.Author.Tests.{not-true, not-false}
use Rattle.registers.specs.declared.word.Word.{Word}
use Rattle.registers.specs.Word.{decode}
use Rattle.refusals.proofs.Commands.{decode_unknown}
use Rattle.ground.proofs.Truth.{both}
use Rattle.machine.specs.Run.{Outcome, outcome}
use Rattle.chip.specs.Read.{ReadOutcome, reading}
use Rattle.board.specs.declared.Board.{Board}
use Rattle.board.specs.declared.step.Reply.{Reply}
use Rattle.board.specs.Bank.{Bank, is_even}
use Rattle.board.specs.Door.{unit_word, command_of, data_of}
use Rattle.board.specs.Board.{refused, part_in, units_step, is_whole_by, is_whole, board_step}
use Rattle.board.specs.Calls.{seen, read_number_by, read_number, read_by, board_reading}
use Rattle.board.proofs.Sent.{sent_word, board_ways, ways_low}

-- a whole board has at most four units
pub whole_low : (b : Board) (even : Bool) {whole : Bool} → whole ≡ is_whole_by b even → not whole ≡ false → b.units < 5
unfolding is_whole_by
whole_low b even {whole} is goes =
    ways_low b.units (board_ways b.units (both _ _ (both _ _ (sym is ∙ not-false whole goes)).0).0)

-- ---- a word

module _ (b : Board) (m : Bank) {even whole : Bool} (like : even ≡ is_even b.units m) (is : whole ≡ is_whole_by b even) where
  whole_is : whole ≡ is_whole b m
  whole_is = is ∙ ap (is_whole_by b) like

  module _ (command d : ℕ) where
    -- the board, or its memories, are not such as a word may meet
    pub step_unfit : not whole ≡ true → {n : ℕ} {a : Reply} → n ≡ cond (ltb 15 command) 1 2 → a ≡ record { refusal = n; passed = 0; board = b }
        → outcome a.refusal a.passed a.board m ≡ board_step b (decode command d) m
    unfolding board_step
    step_unfit unfit {n} {a} number told =
        ap (λ (q : Reply). outcome q.refusal q.passed q.board m) told
        ∙ ap (λ (k : ℕ). outcome k 0 b m) number
        ∙ rw (sym whole_is ∙ not-true whole unfit, decode_unknown command d)

    -- they are: the units take what the door sends on
    pub step_whole : not whole ≡ false → {sent with : ℕ} {o : Outcome Board Bank} → sent ≡ command_of b.units command → with ≡ data_of b.units command d
        → o ≡ units_step b (decode sent with) m → o ≡ board_step b (decode command d) m
    unfolding board_step
    step_whole fit {sent} {with} {o} is-sent is-with told =
        told
        ∙ ap (λ (c : ℕ). units_step b (decode c with) m) is-sent
        ∙ ap (λ (v : ℕ). units_step b (decode (command_of b.units command) v) m) is-with
        ∙ ap (λ (w : Word). units_step b w m) (sent_word b.units d command)
        ∙ rw (sym whole_is ∙ not-false whole fit)

-- ---- a read

module _ (b : Board) (m : Bank) {even : Bool} (like : even ≡ is_even b.units m) {number : ℕ} (is : number ≡ read_number_by b even) where
  number_is : number ≡ read_number b m
  number_is = is ∙ ap (read_number_by b) like

  -- the board itself refuses it
  pub read_refused : number ≢ 0 → seen number 0 b ≡ board_reading b m
  unfolding board_reading
  read_refused some = rw (sym number_is, ne_eqb number 0 some)

  -- the chip reads
  pub read_taken : number ≡ 0 → {a : ReadOutcome} → a ≡ reading b.registers m.first → read_by b.units a ≡ board_reading b m
  unfolding board_reading
  read_taken none {a} told = ap (read_by b.units) told ∙ rw (sym number_is ∙ none)

-- ---- what a refused word leaves

module _ (b : Board) (w : Word) (m : Bank) where
  leaves : {A : Type 0} {n p : ℕ} {b' : Board} {m' : Bank} (t : Bool) {x y : Outcome Board Bank} → outcome n p b' m' ≡ cond t x y
      → (outcome n p b' m' ≡ x → A) → (outcome n p b' m' ≡ y → A) → A
  leaves true e f g = f e
  leaves false e f g = g e

  stays : {n p k : ℕ} {b' : Board} {m' : Bank} → outcome n p b' m' ≡ refused k b m → (b' ≡ b) × (m' ≡ m)
  stays e = (ap (λ (o : Outcome Board Bank). o.registers) e, ap (λ (o : Outcome Board Bank). o.memories) e)

  units_leave : {n p : ℕ} {b' : Board} {m' : Bank} (v : Word) → outcome n p b' m' ≡ units_step b v m → n ≢ 0 → (b' ≡ b) × (m' ≡ m)
  unfolding units_step
  units_leave {n} {p} {b'} {m'} v told some =
      leaves (eqb (part_in b v m 0).refusal 0) told (λ e. absurd (some (ap (λ (o : Outcome Board Bank). o.refusal) e))) stays

  -- board and memories
  pub refused_leaves : {n p : ℕ} {b' : Board} {m' : Bank} → outcome n p b' m' ≡ board_step b w m → n ≢ 0 → (b' ≡ b) × (m' ≡ m)
  unfolding board_step
  refused_leaves {n} {p} {b'} {m'} told some =
      leaves (is_whole b m) told (λ e. units_leave (unit_word b.units w) e some) stays
