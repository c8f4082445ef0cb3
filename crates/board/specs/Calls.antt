-- Reset, the read call and packed streams on a board (document 02, [8]).
use Rattle.std.specs.Prelude.{◌≡◌, ℕ, Bool, false, cond, not, ◌||◌, List, [], ◌∷◌, ◌==◌, Result, Ok, Err}
use Rattle.ground.specs.declared.Refusal.{Refusal}
use Rattle.ground.specs.Refusal.{number}
use Rattle.stream.specs.Calls.{checked}
use Rattle.registers.specs.Record.{reset_of}
use Rattle.refusals.specs.Bounds.{in_bounds}
use Rattle.refusals.specs.Refusal.{is_cold, lowest}
use Rattle.machine.specs.Run.{Ran, ran, run_of}
use Rattle.chip.specs.Read.{ReadOutcome, reading}
use Rattle.chip.specs.Stream.{words_of}
use Rattle.board.specs.declared.Board.{Board}
use Rattle.board.specs.declared.Started.{Started}
use Rattle.board.specs.declared.read.Seen.{Seen}
use Rattle.board.specs.declared.run.Ended.{Ended}
use Rattle.board.specs.Bank.{Bank, is_even}
use Rattle.board.specs.Door.{is_board, is_several}
use Rattle.board.specs.Board.{board, is_whole_by, board_step}

-- ---- reset

-- a board of so many units after reset: 9 for another number than 1, 2 or 4, and then a board of one
unfoldable pub resetting : ℕ → Started
resetting units = cond (is_board units) (record { refusal = 0; board = board units reset_of }) (record { refusal = 9; board = board 1 reset_of })

-- what the code's answer is to C: refused, a board of one
abbrev pub started_of : Result Board Refusal → Started
started_of (Ok b) = record { refusal = 0; board = b }
started_of (Err refusal) = record { refusal = number refusal; board = board 1 reset_of }

-- ---- the read call

-- an answer of the read call, by its parts
abbrev pub seen : ℕ → ℕ → Board → Seen
seen number pixel b = record { refusal = number; pixel = pixel; board = b }

-- the numbers from 2 on that the board itself gives: 2, 3, and 5 on several units
abbrev pub read_table : Board → Bool → List Bool
read_table b whole = (not whole || not (in_bounds b.registers)) ∷ is_cold b.registers ∷ false ∷ is_several b.units ∷ []

-- the lowest that applies, where the memories are of one length as is said; 0 for none
unfoldable pub read_number_by : Board → Bool → ℕ
read_number_by b even = lowest 2 (read_table b (is_whole_by b even))

-- as the memories are
abbrev pub read_number : Board → Bank → ℕ
read_number b m = read_number_by b (is_even b.units m)

-- the chip's answer, with its registers on the board
abbrev pub read_by : ℕ → ReadOutcome → Seen
read_by units a = seen a.refusal a.pixel (board units a.registers)

-- past them, the chip's own read, of the one unit that there is; refused: the number and pixel 0, and the board as it was
unfoldable pub board_reading : Board → Bank → Seen
board_reading b m = cond (read_number b m == 0) (read_by b.units (reading b.registers m.first)) (seen (read_number b m) 0 b)

-- ---- packed streams

-- what is checked before the first word, for an empty stream too: 11, 12, and then 2, two memories of the board differ in length
unfoldable pub board_flaw : ℕ → List ℕ → Bank → ℕ
board_flaw units bytes m = checked bytes (cond (is_even units m) 0 2)

-- the words of a stream run from a board, one after the other until one is refused
abbrev pub words_from : Board → List ℕ → Bank → Ran Board Bank
words_from b bytes m = run_of board_step b (words_of bytes) m

-- a stream runs from a board, word by word until one is refused; refused before the first word, index and sum are 0, the board stays, and the
-- memories are untouched
unfoldable pub running_from : Board → List ℕ → Bank → Ran Board Bank
running_from b bytes m = cond (board_flaw b.units bytes m == 0) (words_from b bytes m) (ran (board_flaw b.units bytes m) 0 0 b m)

-- reset first: another number than 1, 2 or 4 is refused with 9, and nothing is run
unfoldable pub board_running : ℕ → List ℕ → Bank → Ran Board Bank
board_running units bytes m =
    cond ((resetting units).refusal == 0) (running_from (resetting units).board bytes m) (ran (resetting units).refusal 0 0 (resetting units).board m)

-- how a run ended, with the memories that were left
abbrev pub ended_of : Ended → Bank → Ran Board Bank
ended_of a m = ran a.refusal a.index a.sum a.board m

-- a packed stream was run on a board of so many units: the number, index, sum and board that were told, and the memories that were left, are
-- those of its run
abbrev pub RunsOn : ℕ → List ℕ → Bank → Ended → Bank → Type 0
RunsOn units bytes m a left = ended_of a left ≡ board_running units bytes m
