-- `Mode::from` meets its contract: at 0 and 1 the list computes, and past them it gives its default. Assumes nothing.
use Rattle.std.proofs.Common.{[], ◌∷◌, sym, ap, arith}
use Rattle.ground.proofs.Keys.{default}
use Rattle.line.specs.declared.Mode.TheVariants.{Zero, One, Two}
use Rattle.line.specs.Segment.{mode_of}
use Rattle.line.proofs.ModeFromU16.from.Goals as goal

pub returns-in-0 : goal.returns-in-0
unfolding mode_of
returns-in-0 c = sym (ap mode_of c.in-0.is)

pub returns-in-1 : goal.returns-in-1
unfolding mode_of
returns-in-1 c = sym (ap mode_of c.in-1.is)

pub returns-in_default : goal.returns-in_default
unfolding mode_of
returns-in_default c = default (Zero ∷ One ∷ []) Two c.args.number (omega arith)
