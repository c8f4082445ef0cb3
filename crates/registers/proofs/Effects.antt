-- What the parameters of a subcommand do, once the last has come: they replace one part of the record, or none, and leave all others alone. And
-- what coordinates leave alone. Assumes nothing.
use mathlib.Core.Path.{◌≡◌, refl}
use mathlib.Core.List.{List}
use Prim.Native.Nat.{ℕ, ◌+◌}
use native.Mathlib.Omega.{arith}
use lib.Dec.{ltb}
use Rattle.registers.specs.declared.word.Coordinate.{Coordinate}
use Rattle.registers.specs.declared.word.Coordinate.TheVariants.{I, Z, Y, X, T1x, T2x, Lx, Px}
use Rattle.registers.specs.declared.subcommand.Subcommand.{Subcommand}
use Rattle.registers.specs.declared.subcommand.Subcommand.TheVariants.{Nothing, Pmode, Lmode, Zcontrol, Hcontrol, Tpattern, Window as Win, Section, Color, Lpattern, Mask, Lstatus, Imode, Load, Save}
use Rattle.registers.specs.declared.Modes.{Modes}
use Rattle.registers.specs.declared.Window.{Window}
use Rattle.registers.specs.declared.Dash.{Dash}
use Rattle.registers.specs.declared.Region.{Region}
use Rattle.registers.specs.declared.Registers.{Registers}
use Rattle.registers.specs.Record.{dash, with_pmode, with_lmode, with_zcontrol, with_hcontrol, with_lstatus, with_transparency, with_planes, with_section, with_modes, with_window, with_dash, with_region}
use Rattle.registers.specs.Subcommand.{wants}
use Rattle.registers.specs.Next.{value, awaited, effect_of, parm_of, coordinate_of}
use Rattle.ground.proofs.Truth.{either}

-- P is so of no change, and of each change of one part: of the modes, where HCONTROL alone changes the hardware bits, of the window, of the lines'
-- colours and pattern, and of the region, which is then open
pub record Replacing (P : (Registers → Registers) → Type 0) (s : Subcommand) : Type 0 where
  pub none : P (λ r. r)
  pub modes : (f : Modes → Modes) → ((s ≡ Hcontrol → ⊥) → (m : Modes) → (f m).hcontrol ≡ m.hcontrol) → P (λ r. with_modes r (f r.modes))
  pub window : (w : Window) → P (λ r. with_window r w)
  pub dash : (f : Dash → Dash) → P (λ r. with_dash r (f r.dash))
  pub region : (g : Region) → (g.way ≡ 0 → ⊥) → P (λ r. with_region r g)

-- so it is of what the parameters of a subcommand do
pub effect_has : (P : (Registers → Registers) → Type 0) (s : Subcommand) (l : List ℕ) → Replacing P s → P (λ r. effect_of r s l)
unfolding effect_of
effect_has P Nothing l h = h.none
effect_has P Pmode l h = h.modes (λ m. with_pmode m (value l 0)) (λ n m. refl)
effect_has P Lmode l h = h.modes (λ m. with_lmode m (value l 0)) (λ n m. refl)
effect_has P Zcontrol l h = h.modes (λ m. with_zcontrol m (value l 0)) (λ n m. refl)
effect_has P Hcontrol l h = h.modes (λ m. with_hcontrol m (value l 0)) (λ n m. absurd (n refl))
effect_has P Tpattern l h = h.modes (λ m. with_transparency m (value l 0)) (λ n m. refl)
effect_has P Win l h = h.window _
effect_has P Section l h = h.modes (λ m. with_section m (value l 0)) (λ n m. refl)
effect_has P Color l h = h.dash (λ d. dash (value l 0) (value l 1) d.high d.low)
effect_has P Lpattern l h = h.dash (λ d. dash d.foreground d.background (value l 0) (value l 1))
effect_has P Mask l h = h.modes (λ m. with_planes m (value l 0)) (λ n m. refl)
effect_has P Lstatus l h = h.modes (λ m. with_lstatus m (value l 0)) (λ n m. refl)
effect_has P Imode l h = h.none
effect_has P Load l h = h.region _ (λ e. omega (arith, e))
effect_has P Save l h = h.region _ (λ e. omega (arith, e))

-- what a parameter leaves alone: whether the record is started, the I, Z and Y registers, the open figure; and the hardware bits, unless it is of HCONTROL
pub record Leaves (s : Subcommand) (r k : Registers) : Type 0 where
  pub started : k.started ≡ r.started
  pub latch : k.latch ≡ r.latch
  pub figure : k.figure ≡ r.figure
  pub hcontrol : (s ≡ Hcontrol → ⊥) → k.modes.hcontrol ≡ r.modes.hcontrol

-- the last leaves them alone
pub effect_leaves : (r : Registers) (s : Subcommand) (l : List ℕ) → Leaves s r (effect_of r s l)
effect_leaves r s l =
    effect_has (λ u. Leaves s r (u r)) s l
    (record {
      none = record { started = refl; latch = refl; figure = refl; hcontrol = λ n. refl };
      modes = λ f h. record { started = refl; latch = refl; figure = refl; hcontrol = λ n. h n r.modes };
      window = λ w. record { started = refl; latch = refl; figure = refl; hcontrol = λ n. refl };
      dash = λ f. record { started = refl; latch = refl; figure = refl; hcontrol = λ n. refl };
      region = λ g h. record { started = refl; latch = refl; figure = refl; hcontrol = λ n. refl };
    })

-- and so does each before it
pub parm_leaves : (r : Registers) (v : ℕ) → Leaves (awaited r) r (parm_of r v)
unfolding parm_of
parm_leaves r v =
    either (Leaves (awaited r) r) (ltb (r.parked.came + 1) (wants (awaited r)))
    (λ t. record { started = refl; latch = refl; figure = refl; hcontrol = λ n. refl })
    (λ t.
    let k = effect_leaves r (awaited r) _ in
    record { started = k.started; latch = k.latch; figure = k.figure; hcontrol = k.hcontrol })

-- a coordinate leaves alone whether the record is started, and the hardware bits
pub coordinate_leaves : (r : Registers) (c : Coordinate) (n : ℕ) → ((coordinate_of r c n).started ≡ r.started) × ((coordinate_of r c n).modes.hcontrol ≡ r.modes.hcontrol)
unfolding coordinate_of
coordinate_leaves r I n = (refl, refl)
coordinate_leaves r Z n = (refl, refl)
coordinate_leaves r Y n = (refl, refl)
coordinate_leaves r X n = (refl, refl)
coordinate_leaves r T1x n = (refl, refl)
coordinate_leaves r T2x n = (refl, refl)
coordinate_leaves r Lx n = (refl, refl)
coordinate_leaves r Px n = (refl, refl)
