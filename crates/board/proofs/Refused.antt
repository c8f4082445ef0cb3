-- What a board refuses beside what one chip refuses: INIT through the door, commands that several units do not take, memories of unlike length.
-- Assumes nothing.
use Rattle.std.proofs.Common.{◌≡◌, ℕ, ◌+◌, ◌*◌, ◌/◌, ◌%◌, ◌<◌, ◌≤◌, Bool, true, false, cond, ◌&&◌, ◌||◌, eqb, leb, ◌≢◌, length, sym, refl, ap, ◌∙◌, ap₂, arith, eq-eqb, ne_eqb, eqb-true}
use mathlib.Core.Bool.{false≢true}
use borrow.Author.Tests.{lt-leb}
use Rattle.registers.specs.declared.Registers.{Registers}
use Rattle.registers.specs.declared.word.Word.{Word}
use Rattle.registers.specs.declared.word.Word.TheVariants.{Init, Unmodelled}
use Rattle.registers.specs.Lines.{chips_in, unit_in}
use Rattle.registers.specs.Record.{laid}
use Rattle.refusals.specs.Allowed.{init_allowed}
use Rattle.refusals.specs.Bounds.{in_bounds}
use Rattle.refusals.specs.Refusal.{is_unknown, is_cold, refusal_of}
use Rattle.ground.proofs.Truth.{both}
use Rattle.machine.specs.Run.{Outcome}
use Rattle.machine.specs.Machine.{Memories}
use Rattle.machine.proofs.Steps.{step_number}
use Rattle.chip.specs.Chip.{chip}
use Rattle.chip.specs.Units.{Ways, unit_layout}
use Rattle.chip.proofs.Units.{units as promises}
use Rattle.board.specs.declared.Board.{Board}
use Rattle.board.specs.Bank.{Bank, unit_even, even_lengths, is_even}
use Rattle.board.specs.Door.{is_board, is_several, own_code, solo_code, solo_data, is_transfer, unit_word}
use Rattle.board.specs.Board.{together, refused, part_in, units_step, is_whole_by, is_whole, board_step}
use Rattle.board.specs.Calls.{resetting, read_number_by, board_reading}
use Rattle.board.specs.Refusals.{Fit, BoardRefusals}
use Rattle.board.proofs.Sent.{board_ways, ways_some, first_layout}
use Rattle.board.proofs.Parts.{part_is}

-- ---- truth values

and_false : (a b : Bool) → b ≡ false → a && b ≡ false
and_false true b e = e
and_false false b e = refl

or_right : (a b : Bool) → a ≡ false → a || b ≡ true → b ≡ true
or_right a b e h = rw e at h

-- ---- numbers of a chip over memories of one length, where 2 does not apply

module _ (n : ℕ) (r : Registers) (sound : in_bounds r ≡ true) where
  -- INIT gets 9 alone
  init_number : (d : ℕ) → init_allowed d ≡ false → refusal_of n n r (Init d) ≡ 9
  unfolding refusal_of
  init_number d e = rw (eq-eqb n n refl, sound, e)

  -- A hex gets 5 once an INIT was accepted
  unmodelled_number : is_cold r ≡ false → refusal_of n n r Unmodelled ≡ 5
  unfolding refusal_of
  unmodelled_number begun = rw (eq-eqb n n refl, sound, begun)

-- ---- INIT through the door

solo_chips : (units d : ℕ) → chips_in d ≢ own_code units → init_allowed (solo_data units d) ≡ false
unfolding init_allowed solo_data solo_code
solo_chips units d e =
    let three : (d / 256 * 256 + 3 * 64 + d % 64) / 64 % 4 ≡ 3 = omega arith in
    rw (ne_eqb (chips_in d) (own_code units) e, three)

unit_kept : (d c : ℕ) → c ≤ 3 → (d / 256 * 256 + c * 64 + d % 64) / 16 % 4 ≡ d / 16 % 4
unit_kept d c h = omega arith

solo_unit : (units d : ℕ) → unit_in d ≢ 0 → init_allowed (solo_data units d) ≡ false
unfolding init_allowed solo_data solo_code
solo_unit units d e = go (eqb (chips_in d) (own_code units))
  where
    go : (b : Bool) → init_allowed (d / 256 * 256 + cond b 0 3 * 64 + d % 64) ≡ false
    go true = rw (unit_kept d 0 (omega arith), ne_eqb (unit_in d) 0 e, and_false (eqb (chips_in (d / 256 * 256 + 0 * 64 + d % 64)) 0) false refl)
    go false = rw (unit_kept d 3 (omega arith), ne_eqb (unit_in d) 0 e, and_false (eqb (chips_in (d / 256 * 256 + 3 * 64 + d % 64)) 0) false refl)

-- ---- a board that 2 does not apply to

-- the units' number is the first one's
units_number : (b : Board) (v : Word) (m : Bank) → (units_step b v m).refusal ≡ (part_in b v m 0).refusal
unfolding units_step
units_number b v m = go (eqb (part_in b v m 0).refusal 0) refl
  where
    go : (t : Bool) → eqb (part_in b v m 0).refusal 0 ≡ t
        → (cond t (together b.units (part_in b v m 0) (part_in b v m 1) (part_in b v m 2) (part_in b v m 3)) (refused (part_in b v m 0).refusal b m)).refusal ≡ (part_in b v m 0).refusal
    go true e = sym (eqb-true (part_in b v m 0).refusal 0 e)
    go false e = refl

first_even : (units i z : ℕ) → 0 < units → unit_even units 0 i i z ≡ true → z ≡ i
first_even units i z some e = eqb-true z i (both (eqb i i) (eqb z i) (or_right (leb units 0) (eqb i i && eqb z i) (lt-leb units 0 some) e)).1

first_of : (a b c d : Bool) → a && b && c && d ≡ true → a ≡ true
first_of true b c d e = refl
first_of false b c d e = absurd (false≢true e)

even_first : (units : ℕ) (m : Bank) → 0 < units → is_even units m ≡ true → length m.first.z ≡ length m.first.i
unfolding even_lengths
even_first units m some e =
    let n = length m.first.i in
    first_even units n (length m.first.z) some
    (first_of (unit_even units 0 n n (length m.first.z)) (unit_even units 1 n (length m.second.i) (length m.second.z))
    (unit_even units 2 n (length m.third.i) (length m.third.z)) (unit_even units 3 n (length m.fourth.i) (length m.fourth.z)) e)

record Whole (b : Board) (m : Bank) : Type 0 where
  ways : Ways b.units
  rows : b.registers ≡ laid 0 b.registers
  like : length m.first.z ≡ length m.first.i

whole_parts : (b : Board) (m : Bank) → is_whole b m ≡ true → Whole b m
unfolding is_whole_by
whole_parts b m e =
    let p = both (is_board b.units && eqb b.registers.frame.layout 0) (is_even b.units m) e in
    let q = both (is_board b.units) (eqb b.registers.frame.layout 0) p.0 in
    let ways = board_ways b.units q.0 in
    record {
      ways = ways;
      rows = ap (λ (k : ℕ). laid k b.registers) (eqb-true _ 0 q.1);
      like = even_first b.units m (ways_some b.units ways) p.1;
    }

module _ (b : Board) (m : Bank) (fit : Fit b m) where
  abbrev n : ℕ
  n = length m.first.i

  abbrev r : Registers
  r = b.registers

  -- a word gets the number of a chip over rows, given what the door sends on
  fit_number : (w : Word) → (board_step b w m).refusal ≡ refusal_of n n r (unit_word b.units w)
  unfolding board_step
  fit_number w =
      let h = whole_parts b m fit.whole in
      let v = unit_word b.units w in
      let k = unit_layout b.units 0 in
      rw fit.whole
      (units_number b v m
      ∙ ap (λ (o : Outcome Registers Memories). o.refusal) (part_is b.units r v 0 m.first (ways_some b.units h.ways))
      ∙ step_number chip (laid k r) v m.first
      ∙ promises.number k (length m.first.i) (length m.first.z) r v (first_layout b.units h.ways)
      ∙ ap₂ (λ (z : ℕ) (q : Registers). refusal_of n z q v) h.like (sym h.rows))

given_init : (units d : ℕ) → unit_word units (Init d) ≡ Init (solo_data units d)
unfolding unit_word
given_init units d = rw (and_false (is_several units) false refl)

given_transfer : (units : ℕ) (w : Word) → is_several units ≡ true → is_transfer w ≡ true → unit_word units w ≡ Unmodelled
unfolding unit_word
given_transfer units w s t = rw (s, t)

-- ---- memories of unlike length

step_unlike : (b : Board) (w : Word) (m : Bank) → is_even b.units m ≡ false → (board_step b w m).refusal ≡ cond (is_unknown w) 1 2
unfolding board_step is_whole_by
step_unlike b w m e = rw (e, and_false (is_board b.units && eqb b.registers.frame.layout 0) false refl)

-- ---- reset and the read call

reset_another : (units : ℕ) → is_board units ≡ false → (resetting units).refusal ≡ 9
unfolding resetting
reset_another units e = rw e

reads_several : (b : Board) (m : Bank) → Fit b m → is_cold b.registers ≡ false → is_several b.units ≡ true → (board_reading b m).refusal ≡ 5
unfolding board_reading read_number_by
reads_several b m fit begun several = rw (fit.whole, fit.sound, begun, several)

-- ---- what a refused word leaves

units_leave : (b : Board) (v : Word) (m : Bank) → (units_step b v m).refusal ≢ 0 → units_step b v m ≡ refused (units_step b v m).refusal b m
unfolding units_step
units_leave b v m some = go (eqb (part_in b v m 0).refusal 0) some
  where
    go : (t : Bool)
        → (cond t (together b.units (part_in b v m 0) (part_in b v m 1) (part_in b v m 2) (part_in b v m 3)) (refused (part_in b v m 0).refusal b m)).refusal ≢ 0
        → cond t (together b.units (part_in b v m 0) (part_in b v m 1) (part_in b v m 2) (part_in b v m 3)) (refused (part_in b v m 0).refusal b m)
        ≡ refused (cond t (together b.units (part_in b v m 0) (part_in b v m 1) (part_in b v m 2) (part_in b v m 3)) (refused (part_in b v m 0).refusal b m)).refusal b m
    go true e = absurd (e refl)
    go false e = refl

step_leaves : (b : Board) (w : Word) (m : Bank) → (board_step b w m).refusal ≢ 0 → board_step b w m ≡ refused (board_step b w m).refusal b m
unfolding board_step
step_leaves b w m some = go (is_whole b m) some
  where
    go : (t : Bool) → (cond t (units_step b (unit_word b.units w) m) (refused (cond (is_unknown w) 1 2) b m)).refusal ≢ 0
        → cond t (units_step b (unit_word b.units w) m) (refused (cond (is_unknown w) 1 2) b m)
        ≡ refused (cond t (units_step b (unit_word b.units w) m) (refused (cond (is_unknown w) 1 2) b m)).refusal b m
    go true e = units_leave b (unit_word b.units w) m e
    go false e = refl

-- a board refuses what `BoardRefusals` says, with those numbers, and a refused word leaves all as it was
pub board_refusals : BoardRefusals
board_refusals =
    record {
      another = reset_another;
      unlike = step_unlike;
      code = λ b m fit d e.
          fit_number b m fit (Init d) ∙ ap (refusal_of _ _ b.registers) (given_init b.units d) ∙ init_number _ b.registers fit.sound _ (solo_chips b.units d e);
      unit = λ b m fit d e.
          fit_number b m fit (Init d) ∙ ap (refusal_of _ _ b.registers) (given_init b.units d) ∙ init_number _ b.registers fit.sound _ (solo_unit b.units d e);
      transfers = λ b m fit begun several w e.
          fit_number b m fit w ∙ ap (refusal_of _ _ b.registers) (given_transfer b.units w several e) ∙ unmodelled_number _ b.registers fit.sound begun;
      reads = reads_several;
      leaves = step_leaves;
    }
