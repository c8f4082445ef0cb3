-- The words of a run, each at its moment: what holds before every word that it comes to, and the word that stops it.
use Rattle.std.specs.Prelude.{◌≡◌, List, [], ◌∷◌, ℕ, ◌+◌, ◌<◌, length, get_or, take}
use Rattle.machine.specs.Run.{Step, Ran, ran, advance, run_from}

-- so it is with the registers and memories that each word finds, as long as none was refused
abbrev pub Along : {W R M : Type 0} → Step W R M → (R → W → M → Type 0) → Ran R M → List W → Type 0
Along step ok a [] = Unit {0}
Along step ok a (w ∷ ws) = (a.refusal ≡ 0 → ok a.registers w a.memories) × Along step ok (advance step a w) ws

-- a word of ws stopped a run from a, which ended as b: so many words were taken before it, they left what b has, and b's number is that word's
pub record Stopped {W R M : Type 0} (step : Step W R M) (d : W) (a : Ran R M) (ws : List W) (b : Ran R M) : Type 0 where
  pub before : ℕ
  pub below : before < length ws
  pub index : b.index ≡ a.index + before
  pub until : run_from step a (take before ws) ≡ ran 0 b.index b.sum b.registers b.memories
  pub number : (step b.registers (get_or ws before d) b.memories).refusal ≡ b.refusal
