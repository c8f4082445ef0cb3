-- The record in another layout (document 02, [8] and [9]): a word does to it what it does to the record, and completes the same figure. Assumes nothing.
use mathlib.Core.Path.{◌≡◌, refl, ap}
use mathlib.Core.Bool.{Bool, true, false, cond}
use mathlib.Core.List.{List}
use Prim.Native.Nat.{ℕ, ◌+◌}
use lib.Dec.{ltb}
use Rattle.registers.specs.declared.Registers.{Registers}
use Rattle.registers.specs.declared.word.Word.{Word}
use Rattle.registers.specs.declared.word.Word.TheVariants.{Init, Aux, Parm, At, Img, Ptrn, Reserved, Unmodelled, Unknown}
use Rattle.registers.specs.declared.word.Coordinate.{Coordinate}
use Rattle.registers.specs.declared.word.Coordinate.TheVariants.{I, Z, Y, X, T1x, T2x, Lx, Px}
use Rattle.registers.specs.declared.subcommand.Subcommand.{Subcommand}
use Rattle.registers.specs.Record.{nothing_awaited, with_parked, laid, settings, reset_as, reset_of}
use Rattle.registers.specs.Subcommand.{wants}
use Rattle.registers.specs.Next.{awaited, joined_of, counted, effect_of, parm_of, coordinate_of, record_after, completed_by}
use Rattle.registers.proofs.Effects.{effect_has}
use Rattle.registers.proofs.Completing.{only_x_and_px}

-- reset in a layout is reset, laid so
pub reset_laid : (k : ℕ) → reset_as k ≡ laid k reset_of
unfolding settings
reset_laid k = refl

-- ---- a word

-- parameters do to the record in a layout what they do to it
effect_laid : (k : ℕ) (r : Registers) (s : Subcommand) (p : List ℕ) → effect_of (laid k r) s p ≡ laid k (effect_of r s p)
effect_laid k r s p =
    effect_has (λ u. u (laid k r) ≡ laid k (u r)) s p (record { none = refl; modes = λ f h. refl; window = λ w. refl; dash = λ f. refl; region = λ g h. refl })

parm_laid : (k : ℕ) (r : Registers) (v : ℕ) → parm_of (laid k r) v ≡ laid k (parm_of r v)
unfolding parm_of
parm_laid k r v = go (ltb (r.parked.came + 1) (wants (awaited r)))
  where
    go : (b : Bool)
        → cond b (with_parked (laid k r) (counted (joined_of r.parked v))) (with_parked (effect_of (laid k r) (awaited r) (joined_of r.parked v).values) nothing_awaited)
        ≡ laid k (cond b (with_parked r (counted (joined_of r.parked v))) (with_parked (effect_of r (awaited r) (joined_of r.parked v).values) nothing_awaited))
    go true = refl
    go false = ap (λ (s : Registers). with_parked s nothing_awaited) (effect_laid k r (awaited r) (joined_of r.parked v).values)

coordinate_laid : (k : ℕ) (r : Registers) (c : Coordinate) (n : ℕ) → coordinate_of (laid k r) c n ≡ laid k (coordinate_of r c n)
unfolding coordinate_of
coordinate_laid k r I n = refl
coordinate_laid k r Z n = refl
coordinate_laid k r Y n = refl
coordinate_laid k r X n = refl
coordinate_laid k r T1x n = refl
coordinate_laid k r T2x n = refl
coordinate_laid k r Lx n = refl
coordinate_laid k r Px n = refl

-- the record after a word
pub after_laid : (k : ℕ) (r : Registers) (w : Word) → record_after (laid k r) w ≡ laid k (record_after r w)
unfolding record_after settings
after_laid k r (Init d) = refl
after_laid k r (Aux n) = refl
after_laid k r (Parm v) = parm_laid k r v
after_laid k r (At c n) = coordinate_laid k r c n
after_laid k r (Img d) = refl
after_laid k r (Ptrn v) = refl
after_laid k r Reserved = refl
after_laid k r Unmodelled = refl
after_laid k r Unknown = refl

-- the figure that it completes
pub completed_laid : (k : ℕ) (r : Registers) (w : Word) → completed_by (laid k r) w ≡ completed_by r w
completed_laid k r = only_x_and_px (λ w f. f (laid k r) ≡ f r) (λ w. refl) (λ n. refl) (λ n. refl)
