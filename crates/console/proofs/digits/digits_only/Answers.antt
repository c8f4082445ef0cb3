-- `digits::digits_only` meets its contract: the test passes each byte. Assumes nothing.
use Rattle.std.proofs.Common.{◌∙◌, rules, tests}
use Rattle.std.proofs.lemmas.Iterator.{YieldsList-from_slice}
use Rattle.std.proofs.lemmas.Iterator.Search.{all_from_yields_List}
use Rattle.console.specs.Digits.{is_digit}
use Rattle.console.proofs.Arguments.{all_digits}
use Rattle.console.proofs.digits.digits_only.Goals as goal

pub returns : goal.returns
unfolding is_digit
returns c =
    all_from_yields_List is_digit _ _ _ c.all.ensures.ran (YieldsList-from_slice c.args.arg.now cc) (λ x b q k. search (rules, tests))
    ∙ all_digits c.args.arg.now
