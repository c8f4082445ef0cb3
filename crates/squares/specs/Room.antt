-- What the code that splits a square leans on. No promise of a public call cites anything here.
use Rattle.std.specs.Prelude.{ℕ, ◌+◌, ◌≤◌, ◌≡◌, Bool, List, ◌++◌, length}
use Rattle.squares.specs.declared.size.Corner.{Corner}
use Rattle.squares.specs.Squares.{side_of, squares, numbers}

-- a side is that of a square that can be split down to side 8
pub record Side (side : ℕ) : Type 0 where
  pub splits : ℕ
  pub is : side ≡ side_of splits

-- for the number of times that a side is split
abbrev pub ForSide : ℕ → (ℕ → Type 0) → Type 0
ForSide side P = (n : ℕ) → side ≡ side_of n → P n

-- there is room behind what is found for what remains of a square
abbrev pub Room : (ℕ → ℕ → Bool) → ℕ → Corner → List ℕ → Type 0
Room marked side square found = ForSide side (λ n. length found + length (numbers (squares marked n square.x square.y)) ≤ 1024)

-- what remains of a square comes behind what was found before
abbrev pub AddsSquares : (ℕ → ℕ → Bool) → ℕ → Corner → List ℕ → List ℕ → Type 0
AddsSquares marked side square before after = ForSide side (λ n. after ≡ before ++ numbers (squares marked n square.x square.y))
