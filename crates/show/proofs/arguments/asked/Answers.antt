-- `arguments::asked` meets its contract: what the first argument names decides. Assumes nothing.
use mathlib.Core.Path.{sym, ◌∙◌}
use Rattle.show.specs.Arguments.{asked_of}
use Rattle.show.proofs.arguments.asked.Goals as goal

pub returns-in-None : goal.returns-in-None
unfolding asked_of
returns-in-None c = rw (sym c.memory_of.ensures ∙ c.in-None.is) c.scaled.ensures

pub returns-in-Some : goal.returns-in-Some
unfolding asked_of
returns-in-Some c = rw (sym c.memory_of.ensures ∙ c.in-Some.is) c.scaled-in-Some.ensures
