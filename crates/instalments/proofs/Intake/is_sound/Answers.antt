-- `Intake::is_sound` meets its contract. Assumes nothing.
use Rattle.std.proofs.Math.Bool.{and_assoc}
use Rattle.instalments.specs.Instalments.{is_sound}
use Rattle.instalments.proofs.Intake.is_sound.Goals as goal

pub returns : goal.returns
unfolding is_sound
returns c =
    rw (c.is_sound.ensures, c.begun_fits.ensures, c.number_fits.ensures, c.bits_fit.ensures) (simp and_assoc)
