-- `dextolumen_finish` meets its contract: a record that breaks a bound is refused, a closed one stays, and of any other the end tells its number.
-- Assumes nothing.
use Rattle.std.proofs.Common.{sym, ◌∙◌}
use Rattle.machine.specs.Machine.{memories}
use Rattle.instalments.specs.Instalments.{taking}
use Rattle.instalments.proofs.Sound.{ending_open, ending_stays, ending_refused}
use Rattle.instalments.proofs.dextolumen_finish.Goals as goal

pub returns-then-not-is_sound : goal.returns-then-not-is_sound
returns-then-not-is_sound c = rw c.into.ensures (sym (ending_refused _ (sym c.is_sound.ensures ∙ c.if-not-is_sound.true)))

pub returns-then-is_closed : goal.returns-then-is_closed
returns-then-is_closed c = sym (ending_stays _ (sym c.is_sound.ensures ∙ c.if-not-is_sound.false) (sym c.is_closed.ensures ∙ c.if-is_closed.true))

pub returns : goal.returns
returns c =
    let t = taking c.args.s (memories c.args.im.now c.args.zm.now) in
    rw (c.number_of.ensures, c.at_end.ensures)
    (sym (ending_open t (sym c.is_sound.ensures ∙ c.if-not-is_sound.false) (sym c.is_closed.ensures ∙ c.if-is_closed.false)))
