-- The write enables: INIT turns both off, and a parameter of HCONTROL alone turns one on. Assumes nothing.
use mathlib.Core.Path.{◌≡◌, refl}
use mathlib.Core.Bool.{true, false, true≢false}
use Prim.Native.Nat.{ℕ}
use Rattle.registers.specs.declared.word.Word.{Word}
use Rattle.registers.specs.declared.word.Word.TheVariants.{Init, Aux, Parm, At, Img, Ptrn, Reserved, Unmodelled, Unknown}
use Rattle.registers.specs.declared.subcommand.Subcommand.TheVariants.{Hcontrol}
use Rattle.registers.specs.declared.Registers.{Registers}
use Rattle.registers.specs.Record.{settings}
use Rattle.registers.specs.Next.{awaited, record_after, pen_of}
use Rattle.refusals.specs.Refusal.{is_init, is_parm}
use Rattle.registers.proofs.Effects.{parm_leaves, coordinate_leaves}

module _ (r : Registers) (d : ℕ) where
  -- after INIT the I enable is off
  pub init_ienable : (pen_of (record_after r (Init d))).ienable ≡ false
  unfolding record_after settings
  init_ienable = refl

  -- and the Z enable
  pub init_zenable : (pen_of (record_after r (Init d))).zenable ≡ false
  unfolding record_after settings
  init_zenable = refl

  -- all hardware bits are 0
  pub hcontrol_init : (record_after r (Init d)).modes.hcontrol ≡ 0
  unfolding record_after settings
  hcontrol_init = refl

-- a word that is neither the parameter of HCONTROL nor INIT leaves the hardware bits, and with them both write enables, as they were
pub hcontrol_alone : (r : Registers) (w : Word) → (is_parm w ≡ true → awaited r ≡ Hcontrol → ⊥) → is_init w ≡ false
    → (record_after r w).modes.hcontrol ≡ r.modes.hcontrol
unfolding record_after
hcontrol_alone r (Init d) h i = absurd (true≢false i)
hcontrol_alone r (Aux n) h i = refl
hcontrol_alone r (Parm v) h i = (parm_leaves r v).hcontrol (h refl)
hcontrol_alone r (At c n) h i = (coordinate_leaves r c n).1
hcontrol_alone r (Img d) h i = refl
hcontrol_alone r (Ptrn v) h i = refl
hcontrol_alone r Reserved h i = refl
hcontrol_alone r Unmodelled h i = refl
hcontrol_alone r Unknown h i = refl
