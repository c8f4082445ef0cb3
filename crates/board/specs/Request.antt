-- A board beside one chip (document 02, [8]): over runs without commands 0 and 9 if it has more than one unit, where each side's memories are of one
-- length, the starts agree and the rows in use always agree, its memories, read together, are those of one chip given the same words, but with INIT's
-- chips code 0 for the board's own and 3 for any other; and the counts sum to its count.
use Rattle.std.specs.Prelude.{◌≡◌, ℕ, ◌+◌, ◌*◌, ◌/◌, ◌%◌, ◌<◌, false, ◌&&◌, List, [], ◌∷◌, map}
use mathlib.Core.List.{Memᴰ}
use Rattle.stream.specs.Format.{unpack_of, pack_of}
use Rattle.stream.specs.Calls.{checked}
use Rattle.registers.specs.declared.Registers.{Registers}
use Rattle.registers.specs.declared.word.Word.{Word}
use Rattle.registers.specs.Record.{laid, reset_of}
use Rattle.refusals.specs.Refusal.{is_init}
use Rattle.machine.specs.Run.{Step, ran, run_of}
use Rattle.machine.specs.Along.{Along}
use Rattle.machine.specs.Machine.{Memories, memories, Even, number_of, step_of}
use Rattle.machine.specs.Shares.{ReadTogether}
use Rattle.machine.specs.Offers.{State, state, onward, all_of}
use Rattle.machine.specs.Alike.{AlikeOutcome, AlikeRun}
use Rattle.chip.specs.Chip.{chip}
use Rattle.chip.specs.Stream.{words_of}
use Rattle.chip.specs.Demands.{Ended}
use Rattle.chip.specs.Units.{Ways, SameRows}
use Rattle.board.specs.declared.Board.{Board}
use Rattle.board.specs.Bank.{Bank, memories_of}
use Rattle.board.specs.Door.{is_several, is_transfer, solo_word, data_of}
use Rattle.board.specs.Board.{board, board_step}
use Rattle.board.specs.Calls.{RunsOn}

-- ---- a board and one chip

-- the memories of a board's units, n places each, and those of one chip, n' places: each side's are of one length, and place p of the one chip's holds what
-- place p div N of unit p mod N holds, for places that both have
pub record Agree (units n n' : ℕ) (m : Bank) (m' : Memories) : Type 0 where
  pub even : (u : ℕ) → u < units → Even n (memories_of m u)
  pub even' : Even n' m'
  pub together : ReadTogether units n n' (memories_of m) m'

-- a board of so many units and one chip over rows that belong together: the same registers, and memories that agree
pub record Beside (units n n' : ℕ) (b : Board) (m : Bank) (r : Registers) (m' : Memories) : Type 0 where
  pub same : b ≡ board units r
  pub rows : r ≡ laid 0 r
  pub agree : Agree units n n' m m'

-- ---- what is asked of the words

-- none is PTRN or IMG, if the board has more than one unit
abbrev pub NoTransfers : ℕ → List Word → Type 0
NoTransfers units ws = (w : Word) → Memᴰ w ws → is_several units && is_transfer w ≡ false

-- the same words, as one chip is given them
abbrev pub solo_words : ℕ → List Word → List Word
solo_words units ws = map (solo_word units) ws

-- the same of a word as the 20 bits that it is: the same command, and data that has that code where it is INIT's
abbrev pub solo_number : ℕ → ℕ → ℕ
solo_number units n = n / 65536 * 65536 + data_of units (n / 65536) (n % 65536)

-- and of a packed stream
abbrev pub solo_bytes : ℕ → List ℕ → List ℕ
solo_bytes units bytes = pack_of (map (solo_number units) (unpack_of bytes))

-- the rows in use agree where an accepted word comes; INIT draws nothing, and asks for none
abbrev pub RowsAgree : ℕ → ℕ → ℕ → Registers → Word → Memories → Type 0
RowsAgree units n n' r w m = number_of chip r w m ≡ 0 → is_init w ≡ false → SameRows units n n' r

-- so it is at each of some words, refused ones among them
abbrev pub RowsAlways : ℕ → ℕ → ℕ → State Registers Memories → List Word → Type 0
RowsAlways units n n' a [] = Unit {0}
RowsAlways units n n' a (w ∷ ws) = RowsAgree units n n' a.registers w a.memories × RowsAlways units n n' (onward (step_of chip) a w) ws

-- ---- what is claimed

-- what a word is told: its number, and how many pixels passed
pub record Told : Type 0 where
  pub number : ℕ
  pub passed : ℕ

-- what one word is told by a step, from where registers and memories stand
abbrev pub told_by : {W R M : Type 0} → Step W R M → State R M → W → Told
told_by step a w = record { number = (step a.registers w a.memories).refusal; passed = (step a.registers w a.memories).passed }

-- each of some words, one after the other, refused ones among them
unfoldable pub all_told : {W R M : Type 0} → Step W R M → State R M → List W → List Told
all_told step a [] = []
all_told step a (w ∷ ws) = told_by step a w ∷ all_told step (onward step a w) ws

-- words one after the other, refused ones skipped: each is told the same by the board and by the one chip, and what they leave belongs together
pub record WordsAlike (units n n' : ℕ) (m : Bank) (r : Registers) (m' : Memories) (ws : List Word) : Type 0 where
  pub told : all_told board_step (state (board units r) m) ws ≡ all_told (step_of chip) (state r m') (solo_words units ws)
  pub left : Beside units n n' (all_of board_step (board units r) ws m).registers (all_of board_step (board units r) ws m).memories
      (all_of (step_of chip) r (solo_words units ws) m').registers (all_of (step_of chip) r (solo_words units ws) m').memories

-- an outcome of a packed stream on a board that the promise of `dextolumen_board_run` allows
pub record BoardEnded (units : ℕ) (bytes : List ℕ) (m : Bank) : Type 0 where
  pub refusal : ℕ
  pub index : ℕ
  pub sum : ℕ
  pub board_left : Board
  pub left : Bank
  pub promise : RunsOn units bytes m (record { refusal = refusal; index = index; sum = sum; board = board_left }) left

-- whatever outcomes the promises of `dextolumen_board_run` and of the chip's `run` allow: they tell the same, and what they leave belongs together
pub record StreamsAlike (units n n' : ℕ) {bytes bytes' : List ℕ} {m : Bank} {i' z' : List ℕ} (o : BoardEnded units bytes m) (p : Ended reset_of bytes' i' z') : Type 0 where
  pub refusal : o.refusal ≡ p.refusal
  pub index : o.index ≡ p.index
  pub sum : o.sum ≡ p.sum
  pub beside : Beside units n n' o.board_left o.left p.registers (memories p.i_left p.z_left)

-- a packed stream as one chip is given it: the same checks, and the same words with INIT's chips code as above
pub record SoloStream (units : ℕ) (bytes bytes' : List ℕ) : Type 0 where
  pub checks : checked bytes' 0 ≡ checked bytes 0
  pub words : words_of bytes' ≡ solo_words units (words_of bytes)

-- a board and one chip that belong together do alike with a word, with words one after the other and with packed streams, and still belong
-- together, where the rows in use agree and neither PTRN nor IMG comes to several units
pub record Request8 : Type 0 where
  -- a word: the number is the one chip's, the counts sum to its count, and what is left belongs together
  pub word : (units n n' : ℕ) → Ways units → (b : Board) (m : Bank) (r : Registers) (m' : Memories) → Beside units n n' b m r m'
      → (w : Word) → is_several units && is_transfer w ≡ false → RowsAgree units n n' r (solo_word units w) m'
      → AlikeOutcome (Beside units n n') (board_step b w m) (step_of chip r (solo_word units w) m')
  -- a run, until a word is refused
  pub runs : (units n n' : ℕ) → Ways units → (m : Bank) (r : Registers) (m' : Memories) → r ≡ laid 0 r → Agree units n n' m m'
      → (ws : List Word) → NoTransfers units ws → Along (step_of chip) (RowsAgree units n n') (ran 0 0 0 r m') (solo_words units ws)
      → AlikeRun (Beside units n n') (run_of board_step (board units r) ws m) (run_of (step_of chip) r (solo_words units ws) m')
  -- words one after the other, refused ones skipped
  pub words : (units n n' : ℕ) → Ways units → (m : Bank) (r : Registers) (m' : Memories) → r ≡ laid 0 r → Agree units n n' m m'
      → (ws : List Word) → NoTransfers units ws → RowsAlways units n n' (state r m') (solo_words units ws) → WordsAlike units n n' m r m' ws
  -- packed streams from reset, of every outcome that the promises of the calls allow
  pub streams : (units n n' : ℕ) → Ways units → (m : Bank) (i' z' : List ℕ) → Agree units n n' m (memories i' z')
      → (bytes bytes' : List ℕ) → SoloStream units bytes bytes' → NoTransfers units (words_of bytes)
      → Along (step_of chip) (RowsAgree units n n') (ran 0 0 0 reset_of (memories i' z')) (words_of bytes')
      → (o : BoardEnded units bytes m) (p : Ended reset_of bytes' i' z') → StreamsAlike units n n' o p
  -- and a stream that 11 and 12 don't touch has such a one beside it
  pub recoded : (units : ℕ) (bytes : List ℕ) → checked bytes 0 ≡ 0 → SoloStream units bytes (solo_bytes units bytes)
  -- the rows in use always agree, if the one chip has as many places as the units together
  pub natural : (units n : ℕ) → Ways units → (r : Registers) (w : Word) (m : Memories) → RowsAgree units n (n * units) r w m
