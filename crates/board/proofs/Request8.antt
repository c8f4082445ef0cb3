-- Request [8]: a board beside one chip, once over the number of units. One word is the chip's own promise to boards (`Units`); the door, the runs and the
-- streams are here. Assumes nothing.
use Rattle.std.proofs.Common.{◌≡◌, ℕ, zero, suc, ◌+◌, ◌/◌, ◌%◌, ◌<◌, ◌≤◌, Bool, true, false, cond, ◌&&◌, ◌||◌, eqb, leb, ◌≢◌, List, [], ◌∷◌, length, sym, refl, ap, ◌∙◌, subst, ap₂, inl, inr, mod-lt, arith, eq-eqb, ne_eqb, leb-false}
use mathlib.Core.List.{foldl, Memᴰ}
use Rattle.stream.specs.Calls.{checked}
use Rattle.registers.specs.declared.Registers.{Registers}
use Rattle.registers.specs.declared.word.Word.{Word}
use Rattle.registers.specs.Record.{laid, settings, reset_of}
use Rattle.refusals.specs.Refusal.{refusal_of}
use Rattle.ground.proofs.Truth.{and_both}
use Rattle.machine.specs.Run.{Outcome, outcome, Step, Ran, ran, advance, run_from, run_of}
use Rattle.machine.specs.Along.{Along}
use Rattle.machine.specs.Machine.{Memories, memories, Even, step_of, number_of}
use Rattle.machine.specs.Shares.{sum_of}
use Rattle.machine.specs.Touched.{cell_in}
use Rattle.machine.specs.Offers.{State, state, onward}
use Rattle.machine.specs.Alike.{AlikeOutcome, AlikeRun}
use Rattle.machine.proofs.Runs.{zero_or_not}
use Rattle.machine.proofs.Steps.{step_either, step_refused, step_number}
use Rattle.machine.proofs.Alike.{runs_alike}
use Rattle.chip.specs.Chip.{chip}
use Rattle.chip.specs.Stream.{words_of, flaw_of, running}
use Rattle.chip.specs.Demands.{Ended}
use Rattle.chip.specs.Units.{Ways, unit_layout, unit_step, one_step, Together, Units}
use Rattle.board.specs.declared.Board.{Board}
use Rattle.board.specs.Bank.{Bank, bank, memories_of, unit_even, even_lengths, is_even}
use Rattle.board.specs.Door.{is_several, is_transfer, solo_word, unit_word}
use Rattle.board.specs.Board.{board, together, refused, part_in, units_step, is_whole_by, is_whole, board_step}
use Rattle.board.specs.Calls.{resetting, board_flaw, running_from, board_running}
use Rattle.board.specs.Request.{Agree, Beside, NoTransfers, solo_words, RowsAgree, RowsAlways, Told, all_told, BoardEnded, StreamsAlike, SoloStream, Request8}
use Rattle.chip.proofs.Units.{units as promises}
use Rattle.board.proofs.Sent.{ways_board, ways_low, ways_some, first_layout}
use Rattle.board.proofs.Parts.{part_is, part_none}
use Rattle.board.proofs.Recoded.{recoded}
use Rattle.board.proofs.Rows.{always_agree}

-- ---- four units, of which some are there

-- what stands for unit u among four
four : (f : ℕ → Memories) (u : ℕ) → u < 4 → memories_of (bank (f 0) (f 1) (f 2) (f 3)) u ≡ f u
four f zero l = refl
four f (suc zero) l = refl
four f (suc (suc zero)) l = refl
four f (suc (suc (suc zero))) l = refl
four f (suc (suc (suc (suc u)))) l = absurd (omega arith)

-- a sum over the units is that of four, where those that are not there add nothing
sum_one : (f : ℕ → ℕ) → sum_of 1 f ≡ f 0
unfolding sum_of
sum_one f = omega arith

sum_two : (f : ℕ → ℕ) → sum_of 2 f ≡ f 0 + f 1
unfolding sum_of
sum_two f = omega arith

sum_all : (f : ℕ → ℕ) → sum_of 4 f ≡ f 0 + f 1 + f 2 + f 3
unfolding sum_of
sum_all f = omega arith

sum_four : (units : ℕ) → Ways units → (f g : ℕ → ℕ) → ((u : ℕ) → u < units → g u ≡ f u) → ((u : ℕ) → units ≤ u → g u ≡ 0) → g 0 + g 1 + g 2 + g 3 ≡ sum_of units f
sum_four units (inl e) f g here gone =
    let s = ap (λ (k : ℕ). sum_of k f) e ∙ sum_one f in
    let a = here 0 (omega arith) in
    let b = gone 1 (omega arith) in
    let c = gone 2 (omega arith) in
    let d = gone 3 (omega arith) in
    omega (arith, s, a, b, c, d)
sum_four units (inr (inl e)) f g here gone =
    let s = ap (λ (k : ℕ). sum_of k f) e ∙ sum_two f in
    let a = here 0 (omega arith) in
    let b = here 1 (omega arith) in
    let c = gone 2 (omega arith) in
    let d = gone 3 (omega arith) in
    omega (arith, s, a, b, c, d)
sum_four units (inr (inr e)) f g here gone =
    let s = ap (λ (k : ℕ). sum_of k f) e ∙ sum_all f in
    let a = here 0 (omega arith) in
    let b = here 1 (omega arith) in
    let c = here 2 (omega arith) in
    let d = here 3 (omega arith) in
    omega (arith, s, a, b, c, d)

-- ---- memories of one length are even

unit_even_lem : (units n u : ℕ) (m : Memories) {first : ℕ} → first ≡ n → (u < units → Even n m) → unit_even units u first (length m.i) (length m.z) ≡ true
unit_even_lem units n u m {first} e held = go (leb units u) refl
  where
    go : (b : Bool) → leb units u ≡ b → b || (eqb (length m.i) first && eqb (length m.z) first) ≡ true
    go true h = refl
    go false h =
        let s = held (leb-false units u h) in
        and_both (eq-eqb _ _ (s.0 ∙ sym e)) (eq-eqb _ _ (s.1 ∙ sym e))

all_even : (units n : ℕ) → 0 < units → (m : Bank) → ((u : ℕ) → u < units → Even n (memories_of m u)) → is_even units m ≡ true
unfolding even_lengths
all_even units n some m even =
    let first = (even 0 some).0 in
    and_both (and_both (and_both (unit_even_lem units n 0 m.first first (even 0)) (unit_even_lem units n 1 m.second first (even 1))) (unit_even_lem units n 2 m.third first (even 2)))
    (unit_even_lem units n 3 m.fourth first (even 3))

-- ---- the door

given_solo : (units : ℕ) (w : Word) → is_several units && is_transfer w ≡ false → unit_word units w ≡ solo_word units w
unfolding unit_word
given_solo units w e = rw e

whole : (units n n' : ℕ) → Ways units → (m : Bank) (r : Registers) (m' : Memories) → r ≡ laid 0 r → Agree units n n' m m' → is_whole (board units r) m ≡ true
unfolding is_whole_by
whole units n n' ways m r m' rows agree =
    and_both (and_both (ways_board units ways) (eq-eqb _ 0 (ap (λ (q : Registers). q.frame.layout) rows))) (all_even units n (ways_some units ways) m agree.even)

-- ---- one word

module _ (laws : Units) (units n n' : ℕ) (ways : Ways units) (m : Bank) (r : Registers) (m' : Memories) (rows : r ≡ laid 0 r) (agree : Agree units n n' m m') where
  -- the one chip stays over rows
  one_rows : (w : Word) → (one_step r w m').registers ≡ laid 0 (one_step r w m').registers
  one_rows w = step_either chip (laid 0 r) w m' (λ o. o.registers ≡ laid 0 o.registers) (λ e. laws.next 0 r w) (λ e. refl)

  module _ (v : Word) (same_rows : RowsAgree units n n' r v m') where
    abbrev part : ℕ → Outcome Registers Memories
    part u = part_in (board units r) v m u

    abbrev one : Outcome Registers Memories
    one = one_step r v m'

    -- a unit that is there does what the chip promises of it
    here : (u : ℕ) → u < units → part u ≡ unit_step units r v (memories_of m) u
    here u l = part_is units r v u (memories_of m u) l

    some : 0 < units
    some = ways_some units ways

    -- the first one's number is the one chip's
    number : (part 0).refusal ≡ one.refusal
    number =
        let k = unit_layout units 0 in
        ap (λ (o : Outcome Registers Memories). o.refusal) (here 0 some)
        ∙ step_number chip (laid k r) v m.first
        ∙ ap₂ (λ (i z : ℕ). refusal_of i z (laid k r) v) (agree.even 0 some).0 (agree.even 0 some).1
        ∙ laws.number k n n r v (first_layout units ways)
        ∙ laws.lengths n n' (laid 0 r) v
        ∙ sym (ap₂ (λ (i z : ℕ). refusal_of i z (laid 0 r) v) agree.even'.0 agree.even'.1)
        ∙ sym (step_number chip (laid 0 r) v m')

    -- refused, all stay as they were
    refused_alike : one.refusal ≢ 0 → AlikeOutcome (Beside units n n') (refused (part 0).refusal (board units r) m) one
    refused_alike e =
        subst (AlikeOutcome (Beside units n n') (refused (part 0).refusal (board units r) m)) (sym stands)
        (record {
          refusal = number ∙ step_number chip (laid 0 r) v m';
          passed = refl;
          state = record { same = ap (board units) rows; rows = refl; agree = agree };
        })
      where
        stands : one ≡ outcome (number_of chip (laid 0 r) v m') 0 (laid 0 r) m'
        stands = step_refused chip (laid 0 r) v m' (λ z. e (step_number chip (laid 0 r) v m' ∙ z))

    module _ (e : one.refusal ≡ 0) where
      both : Together units n n' r v (memories_of m) m'
      both =
          laws.word units n n' ways r v (memories_of m) m' agree.even agree.even'
          (same_rows (ap (λ (q : Registers). number_of chip q v m') rows ∙ sym (step_number chip (laid 0 r) v m') ∙ e)) agree.together

      count : (part 0).passed + (part 1).passed + (part 2).passed + (part 3).passed ≡ one.passed
      count =
          sum_four units ways (λ u. (unit_step units r v (memories_of m) u).passed) (λ u. (part u).passed)
          (λ u l. ap (λ (o : Outcome Registers Memories). o.passed) (here u l))
          (λ u l. ap (λ (o : Outcome Registers Memories). o.passed) (part_none units r v u (memories_of m u) l))
          ∙ both.passed

      abbrev after : Bank
      after = bank (part 0).memories (part 1).memories (part 2).memories (part 3).memories

      after_unit : (u : ℕ) → u < units → memories_of after u ≡ (unit_step units r v (memories_of m) u).memories
      after_unit u l = four (λ k. (part k).memories) u (omega (arith, l, ways_low units ways)) ∙ ap (λ (o : Outcome Registers Memories). o.memories) (here u l)

      after_agree : Agree units n n' after one.memories
      after_agree =
          record {
            even = λ u l. subst (Even n) (sym (after_unit u l)) (both.even u l);
            even' = both.even';
            together = λ p h k. ap (λ (c : Memories). cell_in c (p / units)) (after_unit (p % units) (mod-lt p some)) ∙ both.together p h k;
          }

      after_registers : laid 0 (part 0).registers ≡ one.registers
      after_registers = ap (λ (o : Outcome Registers Memories). laid 0 o.registers) (here 0 some) ∙ ap (laid 0) (both.registers 0 some) ∙ sym (one_rows v)

      -- accepted, what they leave belongs together
      accepted_alike : AlikeOutcome (Beside units n n') (together units (part 0) (part 1) (part 2) (part 3)) one
      accepted_alike =
          record {
            refusal = sym e;
            passed = count;
            state = record { same = ap (board units) after_registers; rows = one_rows v; agree = after_agree };
          }

    units_alike : AlikeOutcome (Beside units n n') (units_step (board units r) v m) one
    unfolding units_step
    units_alike =
        zero_or_not one.refusal
        (λ e. rw (eq-eqb (part 0).refusal 0 (number ∙ e)) (accepted_alike e))
        (λ e. rw (ne_eqb (part 0).refusal 0 (λ z. e (sym number ∙ z))) (refused_alike e))

  word_alike : (w : Word) → is_several units && is_transfer w ≡ false → RowsAgree units n n' r (solo_word units w) m'
      → AlikeOutcome (Beside units n n') (board_step (board units r) w m) (step_of chip r (solo_word units w) m')
  unfolding board_step
  word_alike w free same_rows =
      rw (whole units n n' ways m r m' rows agree, given_solo units w free)
      (subst (λ (q : Registers). AlikeOutcome (Beside units n n') (units_step (board units r) (solo_word units w) m) (step_of chip q (solo_word units w) m')) (sym rows)
      (units_alike (solo_word units w) same_rows))

-- ---- some words

-- reset has rows
pub reset_rows : reset_of ≡ laid 0 reset_of
unfolding settings
reset_rows = refl

module _ (laws : Units) (units n n' : ℕ) (ways : Ways units) where
  -- a word of a board and of one chip that belong together
  beside_word : (b : Board) (w : Word) (m : Bank) (r : Registers) (m' : Memories) → Beside units n n' b m r m'
      → is_several units && is_transfer w ≡ false → RowsAgree units n n' r (solo_word units w) m'
      → AlikeOutcome (Beside units n n') (board_step b w m) (step_of chip r (solo_word units w) m')
  beside_word b w m r m' s free same_rows =
      subst (λ (q : Board). AlikeOutcome (Beside units n n') (board_step q w m) (step_of chip r (solo_word units w) m')) (sym s.same)
      (word_alike laws units n n' ways m r m' s.rows s.agree w free same_rows)

  -- the one chip, given a board's word
  abbrev solo_step : Step Word Registers Memories
  solo_step r w m = step_of chip r (solo_word units w) m

  solo_advance : (a : Ran Registers Memories) (w : Word) → advance solo_step a w ≡ advance (step_of chip) a (solo_word units w)
  unfolding advance
  solo_advance a w = refl

  solo_run : (ws : List Word) (a : Ran Registers Memories) → run_from solo_step a ws ≡ run_from (step_of chip) a (solo_words units ws)
  solo_run [] a = refl
  solo_run (w ∷ ws) a = ap (λ (q : Ran Registers Memories). run_from solo_step q ws) (solo_advance a w) ∙ solo_run ws (advance (step_of chip) a (solo_word units w))

  -- what is asked of a board's word
  abbrev Meets : Registers → Word → Memories → Type 0
  Meets r w m = (is_several units && is_transfer w ≡ false) × RowsAgree units n n' r (solo_word units w) m

  meets_all : (ws : List Word) (a : Ran Registers Memories) → NoTransfers units ws → Along (step_of chip) (RowsAgree units n n') a (solo_words units ws)
      → Along solo_step Meets a ws
  meets_all [] a free h = tt
  meets_all (w ∷ ws) a free h = (
    λ goes. (free w (Memᴰ.head refl), h.0 goes),
    subst (λ (q : Ran Registers Memories). Along solo_step Meets q ws) (sym (solo_advance a w))
        (meets_all ws (advance (step_of chip) a (solo_word units w)) (λ v u. free v (Memᴰ.tail u)) h.1),
  )

  -- a run, until a word is refused
  run_alike : (m : Bank) (r : Registers) (m' : Memories) → r ≡ laid 0 r → Agree units n n' m m' → (ws : List Word) → NoTransfers units ws
      → Along (step_of chip) (RowsAgree units n n') (ran 0 0 0 r m') (solo_words units ws)
      → AlikeRun (Beside units n n') (run_of board_step (board units r) ws m) (run_of (step_of chip) r (solo_words units ws) m')
  run_alike m r m' rows agree ws free always =
      subst (AlikeRun (Beside units n n') (run_of board_step (board units r) ws m)) (solo_run ws (ran 0 0 0 r m'))
      (runs_alike board_step solo_step (Beside units n n') Meets (λ b w k q k' s meets. beside_word b w k q k' s meets.0 meets.1) ws
      (ran 0 0 0 (board units r) m) (ran 0 0 0 r m')
      (record { refusal = refl; index = refl; sum = refl; state = record { same = refl; rows = rows; agree = agree } })
      (meets_all ws (ran 0 0 0 r m') free always))

  -- words one after the other, refused ones skipped
  record Answered (s : State Board Bank) (t : State Registers Memories) (ws : List Word) : Type 0 where
    pub told : all_told board_step s ws ≡ all_told (step_of chip) t (solo_words units ws)
    pub left : Beside units n n' (foldl (onward board_step) s ws).registers (foldl (onward board_step) s ws).memories
        (foldl (onward (step_of chip)) t (solo_words units ws)).registers (foldl (onward (step_of chip)) t (solo_words units ws)).memories

  abbrev told_as : ℕ → ℕ → Told
  told_as number passed = record { number = number; passed = passed }

  all_alike : (ws : List Word) (s : State Board Bank) (t : State Registers Memories) → Beside units n n' s.registers s.memories t.registers t.memories
      → NoTransfers units ws → RowsAlways units n n' t (solo_words units ws) → Answered s t ws
  unfolding all_told
  all_alike [] s t beside free always = record { told = refl; left = beside }
  all_alike (w ∷ ws) s t beside free always =
      let k = beside_word s.registers w s.memories t.registers t.memories beside (free w (Memᴰ.head refl)) always.0 in
      let rest = all_alike ws (onward board_step s w) (onward (step_of chip) t (solo_word units w)) k.state (λ v u. free v (Memᴰ.tail u)) always.1 in
      record { told = ap₂ ◌∷◌ (ap₂ told_as k.refusal k.passed) rest.told; left = rest.left }

  -- ---- packed streams

  module _ (m : Bank) (m' : Memories) (agree : Agree units n n' m m') (bytes bytes' : List ℕ) (solo : SoloStream units bytes bytes') where
    board_flaw_lem : board_flaw units bytes m ≡ checked bytes 0
    unfolding board_flaw
    board_flaw_lem = rw (all_even units n (ways_some units ways) m agree.even)

    chip_flaw : flaw_of bytes' m' ≡ checked bytes 0
    unfolding flaw_of
    chip_flaw = rw (agree.even'.0, agree.even'.1, eq-eqb n' n' refl) solo.checks

    board_runs : board_running units bytes m
        ≡ cond (eqb (checked bytes 0) 0) (run_of board_step (board units reset_of) (words_of bytes) m) (ran (checked bytes 0) 0 0 (board units reset_of) m)
    unfolding board_running resetting running_from
    board_runs = rw (ways_board units ways, board_flaw_lem)

    chip_runs : running reset_of bytes' m'
        ≡ cond (eqb (checked bytes 0) 0) (run_of (step_of chip) reset_of (solo_words units (words_of bytes)) m') (ran (checked bytes 0) 0 0 reset_of m')
    unfolding running
    chip_runs = rw (chip_flaw, solo.words)

    stream_alike : NoTransfers units (words_of bytes) → Along (step_of chip) (RowsAgree units n n') (ran 0 0 0 reset_of m') (words_of bytes')
        → AlikeRun (Beside units n n') (board_running units bytes m) (running reset_of bytes' m')
    stream_alike free always = rw (board_runs, chip_runs) (go (eqb (checked bytes 0) 0))
      where
        go : (t : Bool)
            → AlikeRun (Beside units n n')
            (cond t (run_of board_step (board units reset_of) (words_of bytes) m) (ran (checked bytes 0) 0 0 (board units reset_of) m))
            (cond t (run_of (step_of chip) reset_of (solo_words units (words_of bytes)) m') (ran (checked bytes 0) 0 0 reset_of m'))
        go true =
            run_alike m reset_of m' reset_rows agree (words_of bytes) free
            (subst (Along (step_of chip) (RowsAgree units n n') (ran 0 0 0 reset_of m')) solo.words always)
        go false = record { refusal = refl; index = refl; sum = refl; state = record { same = refl; rows = reset_rows; agree = agree } }

-- whatever outcomes the promises allow
told_alike : (units n n' : ℕ) {bytes bytes' : List ℕ} {m : Bank} {i' z' : List ℕ} (o : BoardEnded units bytes m) (p : Ended reset_of bytes' i' z')
    → AlikeRun (Beside units n n') (board_running units bytes m) (running reset_of bytes' (memories i' z')) → StreamsAlike units n n' o p
told_alike units n n' {bytes} {bytes'} {m} {i'} {z'} o p k =
    let first = subst (λ (q : Ran Board Bank). AlikeRun (Beside units n n') q (running reset_of bytes' (memories i' z'))) (sym o.promise) k in
    let told = subst (AlikeRun (Beside units n n') (ran o.refusal o.index o.sum o.board_left o.left)) (sym p.promise) first in
    record { refusal = told.refusal; index = told.index; sum = told.sum; beside = told.state }

-- from the chip's promises to boards
pub from_units : Units → Request8
from_units laws =
    record {
      word = λ units n n' ways b m r m' s w free rows. beside_word laws units n n' ways b w m r m' s free rows;
      runs = run_alike laws;
      words = λ units n n' ways m r m' rows agree ws free always.
          let k = all_alike laws units n n' ways ws (state (board units r) m) (state r m') (record { same = refl; rows = rows; agree = agree }) free always in
          record { told = k.told; left = k.left };
      streams = λ units n n' ways m i' z' agree bytes bytes' solo free always o p.
          told_alike units n n' o p (stream_alike laws units n n' ways m (memories i' z') agree bytes bytes' solo free always);
      recoded = recoded;
      natural = always_agree laws;
    }

-- a board's memories, read together, are those of one chip, and its counts sum to the chip's
pub request_8 : Request8
request_8 = from_units promises
