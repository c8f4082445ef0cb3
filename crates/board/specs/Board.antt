-- What a word does to a board of one, two or four units (document 02, [8]). Each unit is a chip whose memories hold its own columns alone; the board
-- keeps the registers that one chip would have.
use Rattle.std.specs.Prelude.{◌≡◌, ℕ, ◌+◌, ◌^◌, ◌<◌, Bool, cond, ◌&&◌, ◌==◌, nat_lt, Result, Ok, Err}
use Rattle.ground.specs.declared.Refusal.{Refusal}
use Rattle.ground.specs.Refusal.{number}
use Rattle.registers.specs.declared.Registers.{Registers}
use Rattle.registers.specs.declared.word.Word.{Word}
use Rattle.registers.specs.Record.{laid}
use Rattle.refusals.specs.Refusal.{is_unknown}
use Rattle.machine.specs.Run.{Outcome, outcome, Step}
use Rattle.machine.specs.Machine.{Memories, step_of}
use Rattle.chip.specs.Chip.{chip}
use Rattle.chip.specs.Units.{unit_layout}
use Rattle.board.specs.declared.Board.{Board}
use Rattle.board.specs.declared.step.Reply.{Reply}
use Rattle.board.specs.declared.step.Taken.{Taken}
use Rattle.board.specs.Bank.{Bank, bank, memories_of, is_even}
use Rattle.board.specs.Door.{is_board, unit_word}

-- a board of so many units that has these registers
abbrev pub board : ℕ → Registers → Board
board units r = record { units = units; registers = r }

-- the part of unit u in a word that is given to all: the chip's step, in the unit's layout; a unit that the board lacks does nothing
unfoldable pub part_of : ℕ → Registers → Word → ℕ → Memories → Outcome Registers Memories
part_of units r w u m = cond (nat_lt u units) (step_of chip (laid (unit_layout units u) r) w m) (outcome 0 0 r m)

-- an outcome is that of a part, and fewer than 2^32 pixels passed
pub record Part (o p : Outcome Registers Memories) : Type 0 where
  pub is : o ≡ p
  pub low : o.passed < 2 ^ 32

-- what four parts come to together: the counts sum, and the registers are those of unit 0, over rows as one chip has them
abbrev pub together : ℕ → Outcome Registers Memories → Outcome Registers Memories → Outcome Registers Memories → Outcome Registers Memories → Outcome Board Bank
together units o p q s =
    outcome 0 (o.passed + p.passed + q.passed + s.passed) (board units (laid 0 o.registers)) (bank o.memories p.memories q.memories s.memories)

-- refused: the number and zero pixels; board and memories as they were
abbrev pub refused : ℕ → Board → Bank → Outcome Board Bank
refused number b m = outcome number 0 b m

-- the part of unit u of a board
abbrev pub part_in : Board → Word → Bank → ℕ → Outcome Registers Memories
part_in b w m u = part_of b.units b.registers w u (memories_of m u)

-- what the units do with a word that is given to them: unit 0 tells the number, and all units answer alike
unfoldable pub units_step : Board → Word → Bank → Outcome Board Bank
units_step b w m =
    cond ((part_in b w m 0).refusal == 0) (together b.units (part_in b w m 0) (part_in b w m 1) (part_in b w m 2) (part_in b w m 3))
    (refused (part_in b w m 0).refusal b m)

-- a board of 1, 2 or 4 units, in rows as one chip, over memories of one length, as is said
unfoldable pub is_whole_by : Board → Bool → Bool
is_whole_by b even = is_board b.units && b.registers.frame.layout == 0 && even

-- as the memories are
abbrev pub is_whole : Board → Bank → Bool
is_whole b m = is_whole_by b (is_even b.units m)

-- a word, through the door: 2 for a board or memories that are not such, after 1 for a command above 15
unfoldable pub board_step : Step Word Board Bank
board_step b w m = cond (is_whole b m) (units_step b (unit_word b.units w) m) (refused (cond (is_unknown w) 1 2) b m)

-- what the code's answer is to C: a refused word passes no pixel, and leaves the board that came in
abbrev pub reply_of : Board → Result Taken Refusal → Reply
reply_of b (Ok taken) = record { refusal = 0; passed = taken.passed; board = taken.board }
reply_of b (Err refusal) = record { refusal = number refusal; passed = 0; board = b }

-- what an answer and the memories that were left come to
abbrev pub replied_of : Reply → Bank → Outcome Board Bank
replied_of a m = outcome a.refusal a.passed a.board m

-- a word was taken: the number, the count and the board that were told, and the memories that were left, are those of the board's step
abbrev pub TakesOn : Board → Word → Bank → Reply → Bank → Type 0
TakesOn b w m a left = replied_of a left ≡ board_step b w m
