-- What a board refuses beside what one chip refuses (document 02, [8], "Refusals").
use Rattle.std.specs.Prelude.{◌≡◌, ℕ, true, false, cond, ◌≢◌}
use Rattle.registers.specs.declared.word.Word.{Word}
use Rattle.registers.specs.declared.word.Word.TheVariants.{Init}
use Rattle.registers.specs.Lines.{chips_in, unit_in}
use Rattle.refusals.specs.Bounds.{in_bounds}
use Rattle.refusals.specs.Refusal.{is_unknown, is_cold}
use Rattle.board.specs.declared.Board.{Board}
use Rattle.board.specs.Bank.{Bank, is_even}
use Rattle.board.specs.Door.{is_board, is_several, own_code, is_transfer}
use Rattle.board.specs.Board.{refused, is_whole, board_step}
use Rattle.board.specs.Calls.{resetting, board_reading}

-- a board over its memories to which 2 does not apply
pub record Fit (b : Board) (m : Bank) : Type 0 where
  pub whole : is_whole b m ≡ true
  pub sound : in_bounds b.registers ≡ true

-- what a board refuses, with which number, beside what one chip refuses; and that a refused word leaves all as it was
pub record BoardRefusals : Type 0 where
  -- at reset, another number of units is 9
  pub another : (units : ℕ) → is_board units ≡ false → (resetting units).refusal ≡ 9
  -- 2 when any two memories of the board differ in length, after 1 for a command above 15
  pub unlike : (b : Board) (w : Word) (m : Bank) → is_even b.units m ≡ false → (board_step b w m).refusal ≡ cond (is_unknown w) 1 2
  -- a chips code that isn't the board's is 9
  pub code : (b : Board) (m : Bank) → Fit b m → (d : ℕ) → chips_in d ≢ own_code b.units → (board_step b (Init d) m).refusal ≡ 9
  -- a unit not 0 is 9
  pub unit : (b : Board) (m : Bank) → Fit b m → (d : ℕ) → unit_in d ≢ 0 → (board_step b (Init d) m).refusal ≡ 9
  -- once an INIT was accepted, commands 0 and 9 on more than one unit are 5
  pub transfers : (b : Board) (m : Bank) → Fit b m → is_cold b.registers ≡ false → is_several b.units ≡ true
      → (w : Word) → is_transfer w ≡ true → (board_step b w m).refusal ≡ 5
  -- and so is the read call
  pub reads : (b : Board) (m : Bank) → Fit b m → is_cold b.registers ≡ false → is_several b.units ≡ true → (board_reading b m).refusal ≡ 5
  -- a refused word passes no pixel and leaves the board and all memories
  pub leaves : (b : Board) (w : Word) (m : Bank) → (board_step b w m).refusal ≢ 0 → board_step b w m ≡ refused (board_step b w m).refusal b m
