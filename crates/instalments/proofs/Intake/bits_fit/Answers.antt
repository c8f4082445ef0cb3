-- `Intake::bits_fit` meets its contract. Assumes nothing.
use Rattle.std.proofs.Common.{◌∙◌, sym, le-ltb, lt-ltb, eq-eqb, ne_eqb}
use Rattle.instalments.specs.Instalments.{bits_fit}
use Rattle.instalments.proofs.Rows.{even_words}
use Rattle.instalments.proofs.Intake.bits_fit.Goals as goal

pub returns-then-self-eq0 : goal.returns-then-self-eq0
unfolding bits_fit
returns-then-self-eq0 c = rw (sym c.is_closed.ensures ∙ c.if-is_closed.true, eq-eqb _ _ c.if-self-eq0.true)

pub returns-else-self-eq0 : goal.returns-else-self-eq0
unfolding bits_fit
returns-else-self-eq0 c = rw (sym c.is_closed.ensures ∙ c.if-is_closed.true, ne_eqb _ _ c.if-self-eq0.false)

pub returns-then-self-lt20 : goal.returns-then-self-lt20
unfolding bits_fit
returns-then-self-lt20 c = rw (c.from.ensures, sym c.is_closed.ensures ∙ c.if-is_closed.false, lt-ltb _ _ c.if-self-lt20.true, even_words)

pub returns-else-self-lt20 : goal.returns-else-self-lt20
unfolding bits_fit
returns-else-self-lt20 c = rw (sym c.is_closed.ensures ∙ c.if-is_closed.false, le-ltb _ _ c.if-self-lt20.false)
