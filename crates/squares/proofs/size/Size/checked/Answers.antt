-- `Size::checked` meets its contract: each test decides one case of `checked`. Assumes nothing.
use Rattle.std.proofs.Common.{arith}
use Rattle.std.proofs.lemmas.Bool.Decides.{nat_tests}
use Rattle.squares.specs.Calls.{checked, good_size}
use Rattle.squares.proofs.size.Size.checked.Goals as goal

pub returns-then-n-m : goal.returns-then-n-m
unfolding checked
returns-then-n-m c = grind (arith, nat_tests)

pub returns-then-n-self : goal.returns-then-n-self
unfolding checked good_size
returns-then-n-self c = grind (arith, nat_tests)

pub returns : goal.returns
unfolding checked good_size
returns c = grind (arith, nat_tests)
