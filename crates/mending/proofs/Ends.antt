-- Where a damaged stream ends: the bits that belong to no word, and the closing half byte. Assumes nothing.
use mathlib.Core.Path.{◌≡◌, refl, sym, ap, ◌∙◌}
use mathlib.Core.Logic.{◌≢◌}
use mathlib.Core.Bool.{Bool, true, false, not, cond, ◌&&◌, ◌||◌, true≢false}
use mathlib.Core.List.{List}
use Prim.Native.Nat.{ℕ, zero, suc, ◌+◌, ◌-◌, ◌*◌, ◌/◌, ◌%◌}
use native.Mathlib.Omega.{arith}
use lib.Dec.{eqb}
use lib.ListN.{length, get_or}
use borrow.Author.Tests.{eq-eqb, ne_eqb, eqb-true}
use Rattle.stream.specs.Format.{unpack_of}
use Rattle.stream.specs.Calls.{bad_length, bad_tail, checked}
use Rattle.stream.proofs.Stream.{length_unpack}
use Rattle.mending.specs.Mend.{cut_at, cut_of, cleared_of}

-- ---- the bits that are cut

module _ (s : List ℕ) where
  -- each bit belongs to a whole word, to the closing half byte of an odd stream, or is cut
  pub cut_rest : length s * 8 ≡ length (unpack_of s) * 20 + cond (eqb (length s % 5) 3) 4 0 + cut_of s
  unfolding cut_of
  cut_rest = go (length s % 5) refl
    where
      go : (m : ℕ) → length s % 5 ≡ m → length s * 8 ≡ length (unpack_of s) * 20 + cond (eqb m 3) 4 0 + cut_at m
      go zero e = let w : length (unpack_of s) ≡ 2 * (length s / 5) = omega (arith, length_unpack s) in omega arith
      go (suc zero) e = let w : length (unpack_of s) ≡ 2 * (length s / 5) = omega (arith, length_unpack s) in omega arith
      go (suc (suc zero)) e = let w : length (unpack_of s) ≡ 2 * (length s / 5) = omega (arith, length_unpack s) in omega arith
      go (suc (suc (suc zero))) e = let w : length (unpack_of s) ≡ 2 * (length s / 5) + 1 = omega (arith, length_unpack s) in omega arith
      go (suc (suc (suc (suc zero)))) e = let w : length (unpack_of s) ≡ 2 * (length s / 5) + 1 = omega (arith, length_unpack s) in omega arith
      go (suc (suc (suc (suc (suc m))))) e = absurd (omega arith)

  -- of whole words none is cut
  pub cut_none : bad_length s ≡ false → cut_of s ≡ 0
  unfolding bad_length cut_of
  cut_none = go (length s % 5)
    where
      go : (m : ℕ) → eqb m 1 || eqb m 2 || eqb m 4 ≡ false → cut_at m ≡ 0
      go zero e = refl
      go (suc zero) e = absurd (true≢false e)
      go (suc (suc zero)) e = absurd (true≢false e)
      go (suc (suc (suc zero))) e = refl
      go (suc (suc (suc (suc zero)))) e = absurd (true≢false e)
      go (suc (suc (suc (suc (suc m))))) e = refl

-- ---- the closing half byte

-- 12 is told exactly where a closing half byte is not 0
tail_told : (s : List ℕ) → eqb (checked s 0) 12 ≡ bad_tail s
unfolding checked bad_length bad_tail
tail_told s = go (length s % 5) (not (eqb (get_or s (length s - 1) 0 % 16) 0))
  where
    odd : (t : Bool) → eqb (cond t 12 0) 12 ≡ t
    odd true = refl
    odd false = refl

    none : (a : Bool) → eqb (cond a 11 0) 12 ≡ false
    none true = refl
    none false = refl

    go : (m : ℕ) (t : Bool) → eqb (cond (eqb m 1 || eqb m 2 || eqb m 4) 11 (cond (eqb m 3 && t) 12 0)) 12 ≡ eqb m 3 && t
    go m t = three (eqb m 3) refl
      where
        three : (b : Bool) → eqb m 3 ≡ b → eqb (cond (eqb m 1 || eqb m 2 || eqb m 4) 11 (cond (eqb m 3 && t) 12 0)) 12 ≡ eqb m 3 && t
        three true e = rw (eqb-true m 3 e) (odd t)
        three false e = rw e (none (eqb m 1 || eqb m 2 || eqb m 4))

module _ (s : List ℕ) {number : ℕ} (says : number ≡ checked s 0) where
  tail_is : eqb number 12 ≡ bad_tail s
  tail_is = ap (λ (n : ℕ). eqb n 12) says ∙ tail_told s

  -- so it is cleared
  pub half_cleared : number ≡ 12 → 1 ≡ cleared_of s
  unfolding cleared_of
  half_cleared e = rw (sym tail_is, eq-eqb number 12 e)

  -- and of any other stream it is not
  pub half_none : number ≢ 12 → 0 ≡ cleared_of s
  unfolding cleared_of
  half_none e = rw (sym tail_is, ne_eqb number 12 e)

-- where there is no such half byte, none is cleared
pub none_cleared : (s : List ℕ) → bad_tail s ≡ false → cleared_of s ≡ 0
unfolding cleared_of
none_cleared s e = rw e
