-- The parts of a board's units in a word, as the code finds them. Assumes nothing.
use Rattle.std.proofs.Common.{◌≡◌, ℕ, ◌+◌, ◌^◌, ◌<◌, ◌≤◌, Bool, true, false, ltb, ◌≢◌, List, sym, refl, ap, ◌∙◌, subst, arith, le-ltb, lt-ltb, ne_eqb}
use Rattle.registers.specs.declared.Registers.{Registers}
use Rattle.registers.specs.declared.word.Word.{Word}
use Rattle.registers.specs.Record.{laid}
use Rattle.machine.specs.Run.{Outcome, outcome}
use Rattle.machine.specs.Machine.{Memories, memories, step_of}
use Rattle.machine.proofs.Steps.{refused_leaves}
use Rattle.chip.specs.Chip.{chip}
use Rattle.chip.specs.Units.{unit_layout}
use Rattle.chip.proofs.Units.{units as promises}
use Rattle.board.specs.declared.Board.{Board}
use Rattle.board.specs.declared.step.Reply.{Reply}
use Rattle.board.specs.Bank.{Bank, bank}
use Rattle.board.specs.Board.{board, part_of, Part, together, part_in, units_step}

-- ---- one unit

module _ (units : ℕ) (r : Registers) (w : Word) (u : ℕ) (m : Memories) where
  part_here : ltb u units ≡ true → part_of units r w u m ≡ step_of chip (laid (unit_layout units u) r) w m
  unfolding part_of
  part_here e = rw e

  part_gone : ltb u units ≡ false → part_of units r w u m ≡ outcome 0 0 r m
  unfolding part_of
  part_gone e = rw e

  -- one that the board has does what a chip in its layout does
  pub part_is : u < units → part_of units r w u m ≡ step_of chip (laid (unit_layout units u) r) w m
  part_is h = part_here (lt-ltb u units h)

  -- one that it lacks does nothing
  pub part_none : units ≤ u → part_of units r w u m ≡ outcome 0 0 r m
  part_none h = part_gone (le-ltb u units h)

  -- as the code finds it
  pub part_absent : units ≤ u → Part (outcome 0 0 r m) (part_of units r w u m)
  part_absent h = record { is = sym (part_none h); low = omega arith }

  -- one that the board has, as the code makes it: the step of a chip in the unit's layout is its part, and its count is below 2 ^ 32
  pub part_present : u < units → {layout : ℕ} {mine : Registers} {o : Outcome Registers Memories} → layout ≡ unit_layout units u → mine ≡ laid layout r
      → o ≡ step_of chip mine w m → Part o (part_of units r w u m)
  part_present h {layout} {mine} {o} lies is told =
      let same = told ∙ ap (λ (q : Registers). step_of chip q w m) (is ∙ ap (λ (k : ℕ). laid k r) lies) in
      record {
        is = same ∙ sym (part_is h);
        low = subst (λ (q : Outcome Registers Memories). q.passed < 2 ^ 32) (sym same) (promises.count (laid (unit_layout units u) r) w m);
      }

  -- refused, it leaves its memories
  pub part_leaves : {n p : ℕ} {r' : Registers} {m' : Memories} → outcome n p r' m' ≡ part_of units r w u m → n ≢ 0 → m' ≡ m
  part_leaves {n} {p} {r'} {m'} told some = go (ltb u units) refl
    where
      go : (b : Bool) → ltb u units ≡ b → m' ≡ m
      go true e = (refused_leaves chip (laid (unit_layout units u) r) w m (told ∙ part_here e) some).2
      go false e = absurd (some (ap (λ (o : Outcome Registers Memories). o.refusal) (told ∙ part_gone e)))

-- ---- all units

module _ (b : Board) (w : Word) (m : Bank) where
  abbrev part : ℕ → Outcome Registers Memories
  part u = part_in b w m u

  -- the first refuses the word, and so the board does
  pub units_refused : {n p : ℕ} {r : Registers} {i z : List ℕ} {a : Reply} → Part (outcome n p r (memories i z)) (part 0) → n ≢ 0
      → a ≡ record { refusal = n; passed = 0; board = b }
      → outcome a.refusal a.passed a.board (bank (memories i z) m.second m.third m.fourth) ≡ units_step b w m
  unfolding units_step
  units_refused {n} {p} {r} {i} {z} {a} first some told =
      let number : (part 0).refusal ≡ n = sym (ap (λ (o : Outcome Registers Memories). o.refusal) first.is) in
      ap (λ (q : Reply). outcome q.refusal q.passed q.board (bank (memories i z) m.second m.third m.fourth)) told
      ∙ ap (λ (k : Memories). outcome n 0 b (bank k m.second m.third m.fourth)) (part_leaves b.units b.registers w 0 m.first first.is some)
      ∙ rw (number, ne_eqb n 0 some)

  -- all take it
  pub units_accepted : {n n1 n2 n3 p p1 p2 p3 : ℕ} {r r1 r2 r3 next : Registers} {m0 m1 m2 m3 : Memories}
      → Part (outcome n p r m0) (part 0) → Part (outcome n1 p1 r1 m1) (part 1) → Part (outcome n2 p2 r2 m2) (part 2) → Part (outcome n3 p3 r3 m3) (part 3)
      → n ≡ 0 → next ≡ laid 0 r → outcome 0 (p + p1 + p2 + p3) (board b.units next) (bank m0 m1 m2 m3) ≡ units_step b w m
  unfolding units_step
  units_accepted {n} {n1} {n2} {n3} {p} {p1} {p2} {p3} {r} {r1} {r2} {r3} {next} {m0} {m1} {m2} {m3} first second third fourth none rows =
      let number : (part 0).refusal ≡ 0 = sym (ap (λ (o : Outcome Registers Memories). o.refusal) first.is) ∙ none in
      ap (λ (q : Registers). outcome 0 (p + p1 + p2 + p3) (board b.units q) (bank m0 m1 m2 m3)) rows
      ∙ ap (λ (o : Outcome Registers Memories). together b.units o (outcome n1 p1 r1 m1) (outcome n2 p2 r2 m2) (outcome n3 p3 r3 m3)) first.is
      ∙ ap (λ (o : Outcome Registers Memories). together b.units (part 0) o (outcome n2 p2 r2 m2) (outcome n3 p3 r3 m3)) second.is
      ∙ ap (λ (o : Outcome Registers Memories). together b.units (part 0) (part 1) o (outcome n3 p3 r3 m3)) third.is
      ∙ ap (together b.units (part 0) (part 1) (part 2)) fourth.is
      ∙ rw number
