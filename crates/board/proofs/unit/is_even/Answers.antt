-- `unit::is_even` meets its contract, unit by unit. Assumes nothing.
use Rattle.board.specs.Bank.{even_lengths}
use Rattle.board.proofs.unit.is_even.Goals as goal

pub returns : goal.returns
unfolding even_lengths
returns c = rw (c.is_unit_even.ensures, c.is_unit_even-2.ensures, c.is_unit_even-3.ensures, c.is_unit_even-4.ensures)
