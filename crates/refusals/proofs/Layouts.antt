-- The record in another layout (document 02, [8] and [9]): a word and the read call get the same number. Assumes nothing.
use mathlib.Core.Path.{◌≡◌, refl, ap, ◌∙◌}
use mathlib.Core.Bool.{Bool}
use Prim.Native.Nat.{ℕ, ◌≤◌}
use borrow.Author.Tests.{le-leb, eq-eqb}
use Rattle.registers.specs.declared.Registers.{Registers}
use Rattle.registers.specs.declared.word.Word.{Word}
use Rattle.registers.specs.declared.word.Word.TheVariants.{Init, Aux, Parm, At, Img, Ptrn, Reserved, Unmodelled, Unknown}
use Rattle.registers.specs.Record.{laid}
use Rattle.refusals.specs.Bounds.{largest_layout, frame_fits, in_bounds}
use Rattle.refusals.specs.Refusal.{table, lowest, is_unfit, refusal_of, read_table, read_refusal_of}

-- a layout up to the largest breaks no bound
bounds_laid : (k : ℕ) (r : Registers) → k ≤ largest_layout → in_bounds (laid k r) ≡ in_bounds (laid 0 r)
unfolding in_bounds frame_fits
bounds_laid k r h = rw (le-leb k largest_layout h)

unfit_laid : (k ni nz : ℕ) (r : Registers) → k ≤ largest_layout → is_unfit ni nz (laid k r) ≡ is_unfit ni nz (laid 0 r)
unfit_laid k ni nz r h = rw (bounds_laid k r h)

-- of lengths that are equal it does not matter which they are
unfit_even : (n n' : ℕ) (r : Registers) → is_unfit n n r ≡ is_unfit n' n' r
unfit_even n n' r = rw (eq-eqb n n refl, eq-eqb n' n' refl)

-- no row of the table asks for the layout
table_laid : (u : Bool) (k : ℕ) (r : Registers) (w : Word) → table u (laid k r) w ≡ table u (laid 0 r) w
table_laid u k r (Init d) = refl
table_laid u k r (Aux n) = refl
table_laid u k r (Parm v) = refl
table_laid u k r (At c n) = refl
table_laid u k r (Img d) = refl
table_laid u k r (Ptrn v) = refl
table_laid u k r Reserved = refl
table_laid u k r Unmodelled = refl
table_laid u k r Unknown = refl

-- the number that a word gets
pub number_laid : (k ni nz : ℕ) (r : Registers) (w : Word) → k ≤ largest_layout → refusal_of ni nz (laid k r) w ≡ refusal_of ni nz (laid 0 r) w
unfolding refusal_of
number_laid k ni nz r w h =
    ap (lowest 1) (table_laid (is_unfit ni nz (laid k r)) k r w ∙ ap (λ (u : Bool). table u (laid 0 r) w) (unfit_laid k ni nz r h))

-- over memories of whichever length, if both have one
pub number_even : (n n' : ℕ) (r : Registers) (w : Word) → refusal_of n n r w ≡ refusal_of n' n' r w
unfolding refusal_of
number_even n n' r w = ap (λ (u : Bool). lowest 1 (table u r w)) (unfit_even n n' r)

-- and the read call
pub read_laid : (k ni nz : ℕ) (r : Registers) → k ≤ largest_layout → read_refusal_of ni nz (laid k r) ≡ read_refusal_of ni nz (laid 0 r)
unfolding read_refusal_of
read_laid k ni nz r h = ap (λ (u : Bool). lowest 2 (read_table u (laid 0 r))) (unfit_laid k ni nz r h)

-- over memories of whichever length, if both have one
pub read_even : (n n' : ℕ) (r : Registers) → read_refusal_of n n r ≡ read_refusal_of n' n' r
unfolding read_refusal_of
read_even n n' r = ap (λ (u : Bool). lowest 2 (read_table u r)) (unfit_even n n' r)
