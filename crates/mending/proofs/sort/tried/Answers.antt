-- `sort::tried` meets its contract: over memories without places the chip tells the number and the next registers. Assumes nothing.
use Rattle.registers.proofs.Words.{parts_decoded}
use Rattle.mending.proofs.Sorting.{judged}
use Rattle.mending.proofs.sort.tried.Goals as goal

pub returns : goal.returns
returns c = judged _ _ (rw (parts_decoded c.requires c.parts-command.ensures) at c.step.ensures)
