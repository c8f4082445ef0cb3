-- What a call makes of the two memories that it is lent: said of these once, for the contracts.
use Rattle.std.specs.Prelude.{◌≡◌, ℕ, Result, Ok, Err, length}
use Rattle.picture.specs.Place.{rows_of}
use Rattle.picture.specs.Lent.{Lent}
use Rattle.registers.specs.declared.Registers.{Registers}
use Rattle.registers.specs.declared.word.Word.{Word}
use Rattle.registers.specs.declared.shape.Completed.{Completed}
use Rattle.machine.specs.Lent.{found, left}
use Rattle.chip.specs.Chip.{figure_offers}
use Rattle.chip.specs.declared.step.Answer.{Answer}
use Rattle.chip.specs.Promises.{Takes, passed_in, registers_in}
use Rattle.ground.specs.declared.Refusal.{Refusal}
use Rattle.ground.specs.Refusal.{told}
use Rattle.tally.specs.declared.Tally.{Tally}
use Rattle.tally.specs.Tally.{no_tally}
use Rattle.tally.specs.declared.recording.Turn.{Turn}
use Rattle.tally.specs.Hidden.{offered_of}
use Rattle.tally.specs.Overdraw.{word_tally}

-- how many pixels a figure offers was told, and both memories stay
abbrev pub Offered : Registers → Completed → Lent → Lent → ℕ → Type 0
Offered r figure im zm n =
    (n ≡ offered_of (figure_offers (rows_of r.frame (length im.entry.now) (length zm.entry.now)) r figure)) × (im.exit.now ≡ im.entry.now) × (zm.exit.now ≡ zm.entry.now)

-- what `step` answered to a word that was counted
abbrev pub answer_in : Result Turn Refusal → Result Answer Refusal
answer_in (Ok turn) = Ok turn.answer
answer_in (Err refusal) = Err refusal

-- what the word was counted as: a refused one as nothing
abbrev pub tally_in : Result Turn Refusal → Tally
tally_in (Ok turn) = turn.tally
tally_in (Err refusal) = no_tally

-- a word was taken as the chip takes it, and counted
abbrev pub Counted : Registers → Word → Lent → Lent → Result Turn Refusal → Type 0
Counted r w im zm a =
    (Takes r w (found im zm) (told a) (passed_in (answer_in a)) (registers_in r (answer_in a)) (left im zm)) × (tally_in a ≡ word_tally r w (found im zm))
