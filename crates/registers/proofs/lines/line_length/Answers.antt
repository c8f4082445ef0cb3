-- `lines::line_length` meets its contract, by the table's rule. Assumes nothing.
use Rattle.registers.proofs.Lengths.{lengths, line_at}
use borrow.Author.Rules.{rules}
use Rattle.registers.proofs.lines.line_length.Goals as goal

pub returns : goal.returns
unfolding lengths
returns c = line_at _ (search rules)
