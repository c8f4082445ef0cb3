-- What an operator believes of a board's picture (the order, demand 3; document 02, [8]): under the premises of request 8 and of demand 3, each place of the
-- board's units ends as the place of one chip that it stands for, with the least of its starting depth and all depths offered there.
use Rattle.std.specs.Prelude.{◌≡◌, true, List, map, ℕ, ◌/◌, ◌%◌, ◌<◌, length}
use Rattle.registers.specs.declared.word.Word.{Word}
use Rattle.registers.specs.Record.{reset_of}
use Rattle.registers.specs.Word.{word_of}
use Rattle.machine.specs.Run.{ran}
use Rattle.machine.specs.Along.{Along}
use Rattle.machine.specs.Machine.{Memories, memories, step_of}
use Rattle.machine.specs.Touched.{cell_in}
use Rattle.machine.specs.Offers.{state, all_of}
use Rattle.chip.specs.Chip.{chip}
use Rattle.chip.specs.Stream.{words_of}
use Rattle.chip.specs.Units.{Ways}
use Rattle.belief.specs.Belief.{words_taken, offers_of, supposed, Believed}
use Rattle.board.specs.Bank.{Bank, memories_of}
use Rattle.board.specs.Board.{board, board_step}
use Rattle.board.specs.Request.{Agree, NoTransfers, solo_words, RowsAgree, RowsAlways, BoardEnded, SoloStream}

-- the place of unit p mod N that stands for place p of one chip, before and after words, as one chip is given them: it is believed of it what is believed of
-- place p, where both have it
abbrev pub BoardBelievable : ℕ → ℕ → ℕ → List Word → Bank → Memories → Bank → Type 0
BoardBelievable units n n' ws m m' left =
    supposed reset_of (length m'.i) (length m'.z) ws ≡ true → (p : ℕ) → p / units < n → p < n'
    → Believed (cell_in (memories_of m (p % units)) (p / units)) (offers_of reset_of (length m'.i) (length m'.z) ws p) (cell_in (memories_of left (p % units)) (p / units))

-- each place of a board ends as the place of one chip that it stands for is believed to, under the premises of request 8 and of demand 3
pub record BoardDemand3 : Type 0 where
  -- of any words from reset, a refused one among them changing nothing
  pub words : (units n n' : ℕ) → Ways units → (m : Bank) (m' : Memories) → Agree units n n' m m'
      → (numbers : List ℕ) → NoTransfers units (map word_of numbers) → RowsAlways units n n' (state reset_of m') (solo_words units (map word_of numbers))
      → BoardBelievable units n n' (solo_words units (map word_of numbers)) m m' (all_of board_step (board units reset_of) (map word_of numbers) m).memories
  -- of any packed stream, and each outcome that the promise of `dextolumen_board_run` allows
  pub streams : (units n n' : ℕ) → Ways units → (m : Bank) (i' z' : List ℕ) → Agree units n n' m (memories i' z')
      → (bytes bytes' : List ℕ) → SoloStream units bytes bytes' → NoTransfers units (words_of bytes)
      → Along (step_of chip) (RowsAgree units n n') (ran 0 0 0 reset_of (memories i' z')) (words_of bytes')
      → (o : BoardEnded units bytes m)
      → BoardBelievable units n n' (words_taken reset_of (length i') (length z') bytes') m (memories i' z') o.left
