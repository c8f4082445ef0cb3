-- Behind an accepted word an INIT was accepted. Assumes nothing.
use mathlib.Core.Path.{◌≡◌, refl}
use mathlib.Core.Bool.{false, not, ◌&&◌}
use Prim.Native.Nat.{ℕ}
use Rattle.registers.specs.declared.word.Word.{Word}
use Rattle.registers.specs.declared.word.Word.TheVariants.{Init, Aux, Parm, At, Img, Ptrn, Reserved, Unmodelled, Unknown}
use Rattle.registers.specs.declared.Registers.{Registers}
use Rattle.registers.specs.Record.{settings}
use Rattle.registers.specs.Next.{record_after}
use Rattle.refusals.specs.Refusal.{is_init, is_cold, refusal_of}
use Rattle.registers.proofs.Effects.{parm_leaves, coordinate_leaves}
use Rattle.refusals.proofs.Refusals.{accepted_when}

-- INIT starts the record, and no other word changes whether it is started
begun_after : (r : Registers) (w : Word) → not (is_init w) && is_cold r ≡ false → is_cold (record_after r w) ≡ false
unfolding record_after settings
begun_after r (Init d) h = refl
begun_after r (Aux n) h = h
begun_after r (Parm v) h = rw (parm_leaves r v).started h
begun_after r (At c n) h = rw (coordinate_leaves r c n).0 h
begun_after r (Img d) h = h
begun_after r (Ptrn v) h = h
begun_after r Reserved h = h
begun_after r Unmodelled h = h
begun_after r Unknown h = h

-- so behind an accepted word an INIT was accepted
pub accepted_begun : (ni nz : ℕ) (r : Registers) (w : Word) → refusal_of ni nz r w ≡ 0 → is_cold (record_after r w) ≡ false
accepted_begun ni nz r w e = begun_after r w ((accepted_when ni nz r w).0 e).begun
