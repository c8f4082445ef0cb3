-- The order's demands 1 and 2, of every outcome that the promises of `step` and `run` allow. Assumes nothing.
use Rattle.std.proofs.Common.{◌≡◌, ℕ, ◌≢◌, List, sym, refl, ap, ◌∙◌, subst, eq-eqb, ne_eqb}
use Rattle.picture.specs.Cell.{Cell}
use Rattle.stream.proofs.Settled.{words_back, bytes_back}
use Rattle.registers.specs.declared.Registers.{Registers}
use Rattle.registers.specs.Word.{decode, word_of}
use Rattle.machine.specs.Run.{Outcome, Ran, ran, run_of}
use Rattle.machine.specs.Along.{Stopped}
use Rattle.machine.specs.Machine.{Memories, memories, step_of}
use Rattle.machine.specs.Touched.{cell_in}
use Rattle.machine.proofs.Steps.{step_number, refused_leaves, accepted_leaves}
use Rattle.machine.proofs.Runs.{zero_or_not, run_stopped, index_whole}
use Rattle.machine.proofs.Touched.{step_counts, step_untouched, run_untouched, start_counts}
use Rattle.chip.specs.Chip.{chip}
use Rattle.chip.specs.Stream.{words_of, flaw_of, running}
use Rattle.chip.specs.Demands.{Stepped, Ended, SameAt, Refuses, Halts, Demand1, Accepts, Runs, Demand2}

-- memories with the same cell at a place have the same two numbers there
same_at : (at : ℕ) (m m' : Memories) → cell_in m' at ≡ cell_in m at → SameAt at m.i m.z m'.i m'.z
same_at at m m' e = (ap (λ (c : Cell). c.i) e, ap (λ (c : Cell). c.z) e)

-- ---- a word

module _ (r : Registers) (command d : ℕ) (i z : List ℕ) where
  answered : Stepped r command d i z
  answered =
      let o = step_of chip r (decode command d) (memories i z) in
      record { refusal = o.refusal; passed = o.passed; registers = o.registers; i_left = o.memories.i; z_left = o.memories.z; promise = refl }

  module _ (o : Stepped r command d i z) where
    left : o.refusal ≢ 0 → (o.passed ≡ 0) × (o.registers ≡ r) × (memories o.i_left o.z_left ≡ memories i z)
    left = refused_leaves chip r (decode command d) (memories i z) o.promise

    refuses : Refuses r command d i z o
    refuses =
        record {
          number = ap (λ (a : Outcome Registers Memories). a.refusal) o.promise ∙ step_number chip r (decode command d) (memories i z);
          no_pixels = λ e. (left e).0;
          registers_stay = λ e. (left e).1;
          memories_stay = λ e. (ap (λ (m : Memories). m.i) (left e).2, ap (λ (m : Memories). m.z) (left e).2);
        }

    accepts : o.refusal ≡ 0 → Accepts r command d i z o
    accepts none =
        let next = accepted_leaves chip r (decode command d) (memories i z) o.promise none in
        record {
          registers = next.0;
          drawing = next.1;
          count = ap (λ (a : Outcome Registers Memories). a.passed) o.promise ∙ step_counts chip r (decode command d) (memories i z);
          untouched = λ at away.
              same_at at (memories i z) (memories o.i_left o.z_left)
              (ap (λ (a : Outcome Registers Memories). cell_in a.memories at) o.promise ∙ step_untouched chip r (decode command d) (memories i z) at away);
        }

-- ---- a recording

module _ (start : Registers) (bytes i z : List ℕ) where
  whole_run : Ran Registers Memories
  whole_run = run_of (step_of chip) start (words_of bytes) (memories i z)

  ended : Ended start bytes i z
  ended =
      let o = running start bytes (memories i z) in
      record { refusal = o.refusal; index = o.index; sum = o.sum; registers = o.registers; i_left = o.memories.i; z_left = o.memories.z; promise = refl }

  flawed : flaw_of bytes (memories i z) ≢ 0 → running start bytes (memories i z) ≡ ran (flaw_of bytes (memories i z)) 0 0 start (memories i z)
  unfolding running
  flawed some = rw (ne_eqb _ _ some)

  good : flaw_of bytes (memories i z) ≡ 0 → running start bytes (memories i z) ≡ whole_run
  unfolding running whole_run
  good none = rw (eq-eqb _ _ none)

  module _ (o : Ended start bytes i z) where
    told : Ran Registers Memories
    told = ran o.refusal o.index o.sum o.registers (memories o.i_left o.z_left)

    -- refused before the first word, and not
    stopped : flaw_of bytes (memories i z) ≢ 0 → told ≡ ran (flaw_of bytes (memories i z)) 0 0 start (memories i z)
    unfolding told
    stopped some = o.promise ∙ flawed some

    ran_through : flaw_of bytes (memories i z) ≡ 0 → told ≡ whole_run
    unfolding told
    ran_through none = o.promise ∙ good none

    halts : Halts start bytes i z o
    unfolding told whole_run
    halts =
        record {
          before = λ some.
              let e = stopped some in (
                ap (λ (a : Ran Registers Memories). a.refusal) e,
                ap (λ (a : Ran Registers Memories). a.index) e,
                ap (λ (a : Ran Registers Memories). a.sum) e,
                ap (λ (a : Ran Registers Memories). a.registers) e,
                (ap (λ (a : Ran Registers Memories). a.memories.i) e, ap (λ (a : Ran Registers Memories). a.memories.z) e),
              );
          at_word = λ none some.
              let e = ran_through none in
              subst (Stopped (step_of chip) (word_of 0) (ran 0 0 0 start (memories i z)) (words_of bytes)) (sym e)
              (run_stopped (step_of chip) (word_of 0) (words_of bytes) (ran 0 0 0 start (memories i z)) refl
              (λ q. some (ap (λ (a : Ran Registers Memories). a.refusal) e ∙ q)));
          whole = λ accepted.
              zero_or_not (flaw_of bytes (memories i z))
              (λ none.
              let e = ran_through none in
              ap (λ (a : Ran Registers Memories). a.index) e
              ∙ index_whole (step_of chip) start (words_of bytes) (memories i z) (sym (ap (λ (a : Ran Registers Memories). a.refusal) e) ∙ accepted))
              (λ some. absurd (some (sym (ap (λ (a : Ran Registers Memories). a.refusal) (stopped some)) ∙ accepted)));
        }

    runs : flaw_of bytes (memories i z) ≡ 0 → Runs start bytes i z o
    unfolding told whole_run
    runs none =
        let e = ran_through none in
        record {
          words = e;
          sum = ap (λ (a : Ran Registers Memories). a.sum) e ∙ start_counts chip start (words_of bytes) (memories i z);
          untouched = λ at away.
              same_at at (memories i z) (memories o.i_left o.z_left)
              (ap (λ (a : Ran Registers Memories). cell_in a.memories at) e ∙ run_untouched chip (words_of bytes) (ran 0 0 0 start (memories i z)) at away);
        }

-- ---- the two demands

-- every word, with every pair of memories, gets an answer; it is refused exactly where document 01 says, and a refusal changes nothing
pub demand_1 : Demand1
demand_1 = record { answers = answered; refuses = refuses; ends = ended; halts = halts }

-- an accepted word leaves what document 01 says and touches no other place; recordings survive packing and unpacking
pub demand_2 : Demand2
demand_2 = record { accepts = accepts; runs = runs; words_back = words_back; bytes_back = bytes_back }
