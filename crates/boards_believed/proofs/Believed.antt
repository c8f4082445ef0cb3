-- What an operator believes of a board's picture: demand 3 of one chip, read at the places that stand for it. Assumes nothing.
use mathlib.Core.Path.{refl, sym, subst}
use mathlib.Core.List.{List, map}
use Prim.Native.Nat.{ℕ, ◌/◌, ◌%◌}
use lib.ListN.{length}
use Rattle.picture.specs.Cell.{Cell}
use Rattle.registers.specs.declared.word.Word.{Word}
use Rattle.registers.specs.Record.{reset_of}
use Rattle.registers.specs.Word.{word_of}
use Rattle.machine.specs.Machine.{Memories, memories, step_of}
use Rattle.machine.specs.Touched.{cell_in}
use Rattle.machine.specs.Offers.{all_of}
use Rattle.chip.specs.Chip.{chip}
use Rattle.chip.specs.Stream.{running}
use Rattle.chip.specs.Demands.{Ended}
use Rattle.belief.specs.Belief.{offers_of, Believed, Believable}
use Rattle.belief.proofs.Demand3.{demand_3}
use Rattle.board.specs.Bank.{Bank, memories_of}
use Rattle.board.specs.Request.{Agree, solo_number, solo_words}
use Rattle.board.proofs.Recoded.{solo_numbers}
use Rattle.board.proofs.Request8.{reset_rows, request_8}
use Rattle.boards_believed.specs.Believed.{BoardBelievable, BoardDemand3}

-- what is believed of one chip is believed of a board whose memories agree with the chip's, before and after
shared : (units n n' : ℕ) (ws : List Word) (m left : Bank) (m' left' : Memories) → Agree units n n' m m' → Agree units n n' left left'
    → Believable reset_of ws m' left' → BoardBelievable units n n' ws m m' left
shared units n n' ws m left m' left' before after believed suppose p h k =
    subst (λ (c : Cell). Believed c (offers_of reset_of (length m'.i) (length m'.z) ws p) (cell_in (memories_of left (p % units)) (p / units)))
    (sym (before.together p h k))
    (subst (Believed (cell_in m' p) (offers_of reset_of (length m'.i) (length m'.z) ws p)) (sym (after.together p h k)) (believed suppose p))

-- an outcome of the one chip's run
ended : (bytes i z : List ℕ) → Ended reset_of bytes i z
ended bytes i z =
    let a = running reset_of bytes (memories i z) in
    record { refusal = a.refusal; index = a.index; sum = a.sum; registers = a.registers; i_left = a.memories.i; z_left = a.memories.z; promise = refl }

-- what `BoardDemand3` says of a board is so, by demand 3 of one chip and by request 8
pub board_demand_3 : BoardDemand3
board_demand_3 =
    record {
      words = λ units n n' ways m m' agree numbers free always.
          let ws = map word_of numbers in
          let one = subst (λ (vs : List Word). Believable reset_of vs m' (all_of (step_of chip) reset_of vs m').memories) (solo_numbers units numbers)
          ((demand_3 0).words (map (solo_number units) numbers) m') in
          let both = request_8.words units n n' ways m reset_of m' reset_rows agree ws free always in
          shared units n n' (solo_words units ws) m _ m' _ agree both.left.agree one;
      streams = λ units n n' ways m i' z' agree bytes bytes' solo free always o.
          let p = ended bytes' i' z' in
          let both = request_8.streams units n n' ways m i' z' agree bytes bytes' solo free always o p in
          shared units n n' _ m o.left (memories i' z') (memories p.i_left p.z_left) agree both.beside.agree ((demand_3 0).streams bytes' i' z' p);
    }
