-- What the promises of a board's calls settle: one outcome each. Assumes nothing.
use Rattle.std.proofs.Common.{◌≡◌, ℕ, sym, ap, ◌∙◌}
use Rattle.machine.specs.Run.{Outcome, outcome, Ran, ran}
use Rattle.board.specs.declared.Board.{Board}
use Rattle.board.specs.declared.Started.{Started}
use Rattle.board.specs.declared.read.Seen.{Seen}
use Rattle.board.specs.Bank.{Bank}

-- of a word: the number, the count, the board and all memories
pub step_settled : {o : Outcome Board Bank} {number number' passed passed' : ℕ} {b b' : Board} {m m' : Bank}
    → outcome number passed b m ≡ o → outcome number' passed' b' m' ≡ o → (number ≡ number') × (passed ≡ passed') × (b ≡ b') × (m ≡ m')
step_settled p q =
    let same = p ∙ sym q in (
      ap (λ (a : Outcome Board Bank). a.refusal) same,
      ap (λ (a : Outcome Board Bank). a.passed) same,
      ap (λ (a : Outcome Board Bank). a.registers) same,
      ap (λ (a : Outcome Board Bank). a.memories) same,
    )

-- of a packed stream: the number, the index, the sum, the board and all memories
pub run_settled : {o : Ran Board Bank} {number number' index index' sum sum' : ℕ} {b b' : Board} {m m' : Bank}
    → ran number index sum b m ≡ o → ran number' index' sum' b' m' ≡ o
    → (number ≡ number') × (index ≡ index') × (sum ≡ sum') × (b ≡ b') × (m ≡ m')
run_settled p q =
    let same = p ∙ sym q in (
      ap (λ (a : Ran Board Bank). a.refusal) same,
      ap (λ (a : Ran Board Bank). a.index) same,
      ap (λ (a : Ran Board Bank). a.sum) same,
      ap (λ (a : Ran Board Bank). a.registers) same,
      ap (λ (a : Ran Board Bank). a.memories) same,
    )

-- of reset: two answers that its promise allows are the same
pub reset_settled : {value a a' : Started} → a ≡ value → a' ≡ value → a ≡ a'
reset_settled p q = p ∙ sym q

-- of a read: two answers that its promise allows are the same
pub read_settled : {value a a' : Seen} → a ≡ value → a' ≡ value → a ≡ a'
read_settled p q = p ∙ sym q
