-- Words one after the other, over anything that steps: one card, or a board of several.
use Rattle.std.specs.Prelude.{cond, ℕ, ◌+◌, ◌%◌, ◌^◌, eqb}
use mathlib.Core.List.{List, foldl}

-- what comes of a word: the number that refuses it (0 accepts it), how many pixels passed, and the registers and memories after it
pub record Outcome (R M : Type 0) : Type 0 where
  pub refusal : ℕ
  pub passed : ℕ
  pub registers : R
  pub memories : M

-- an outcome with its four parts: the number, the count, the registers and the memories
abbrev pub outcome : {R M : Type 0} → ℕ → ℕ → R → M → Outcome R M
outcome number passed r m = record { refusal = number; passed = passed; registers = r; memories = m }

-- what makes of registers, a word and memories the outcome of the word
abbrev pub Step : Type 0 → Type 0 → Type 0 → Type 0
Step W R M = R → W → M → Outcome R M

-- how far a run has come: the number that stopped it (0 for none), how many words were taken, the sum of their counts modulo 2^64, and
-- the registers and memories
pub record Ran (R M : Type 0) : Type 0 where
  pub refusal : ℕ
  pub index : ℕ
  pub sum : ℕ
  pub registers : R
  pub memories : M

-- how far a run has come, by its five parts: the number, the words, the sum, the registers and the memories
abbrev pub ran : {R M : Type 0} → ℕ → ℕ → ℕ → R → M → Ran R M
ran number index sum r m = record { refusal = number; index = index; sum = sum; registers = r; memories = m }

-- a word's outcome, added to a run: a refused word stops it where it stands
abbrev pub taken : {R M : Type 0} → Ran R M → Outcome R M → Ran R M
taken a o =
    cond (eqb o.refusal 0) (ran 0 (a.index + 1) ((a.sum + o.passed) % 2 ^ 64) o.registers o.memories)
    (ran o.refusal a.index a.sum a.registers a.memories)

-- one word more, unless one was refused
unfoldable pub advance : {W R M : Type 0} → Step W R M → Ran R M → W → Ran R M
advance step a w = cond (eqb a.refusal 0) (taken a (step a.registers w a.memories)) a

-- some words, from there on
abbrev pub run_from : {W R M : Type 0} → Step W R M → Ran R M → List W → Ran R M
run_from step a ws = foldl (advance step) a ws

-- some words, until one is refused
abbrev pub run_of : {W R M : Type 0} → Step W R M → R → List W → M → Ran R M
run_of step r ws m = run_from step (ran 0 0 0 r m) ws
