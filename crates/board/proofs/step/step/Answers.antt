-- `step::step` meets its contract: 1 or 2 where the board is not whole, else what its units do. Assumes nothing.
use Rattle.std.proofs.Common.{not, ap, refl}
use Rattle.board.proofs.Taken.{whole_low, step_unfit, step_whole}
use Rattle.board.proofs.step.step.Goals as goal

pub returns-then-not-is_whole : goal.returns-then-not-is_whole
returns-then-not-is_whole c =
    step_unfit _ _ c.is_even-even.ensures c.is_whole.ensures _ _ (ap not c.if-not-is_whole.true)
    c.unfit.ensures refl

pub units_step-requires : goal.units_step-requires
units_step-requires c =
    whole_low _ _ c.is_whole.ensures (ap not c.if-not-is_whole.false)

pub returns : goal.returns
returns c =
    step_whole _ _ c.is_even-even.ensures c.is_whole.ensures _ _
    (ap not c.if-not-is_whole.false) c.command_of-sent.ensures c.data_of-with.ensures c.units_step.ensures
