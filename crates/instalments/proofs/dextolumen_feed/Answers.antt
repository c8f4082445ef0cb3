-- `dextolumen_feed` meets its contract: a record that breaks a bound is refused, a closed one stays, and any other takes the bytes. Assumes nothing.
use Rattle.std.proofs.Common.{sym, ◌∙◌}
use Rattle.instalments.proofs.Bytes.{bytes_closed}
use Rattle.instalments.proofs.Sound.{feeding_bytes, feeding_refused}
use Rattle.instalments.proofs.dextolumen_feed.Goals as goal

pub returns-then-not-is_sound : goal.returns-then-not-is_sound
returns-then-not-is_sound c = rw c.into.ensures (sym (feeding_refused _ (sym c.is_sound.ensures ∙ c.if-not-is_sound.true) _))

pub returns-then-is_closed : goal.returns-then-is_closed
returns-then-is_closed c =
    sym
    (feeding_bytes _ (sym c.is_sound.ensures ∙ c.if-not-is_sound.false) _
    ∙ bytes_closed _ _ (sym c.is_closed.ensures ∙ c.if-is_closed.true))

pub returns : goal.returns
returns c = c.take_all.ensures ∙ sym (feeding_bytes _ (sym c.is_sound.ensures ∙ c.if-not-is_sound.false) _)
