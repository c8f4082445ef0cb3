-- Whether a number below a bound, or a pixel of a square, passes a test: what such an answer gives, and how it is had. Assumes nothing.
use mathlib.Core.Path.{◌≡◌, refl, sym}
use mathlib.Core.Bool.{Bool, true, false, ◌&&◌, ◌||◌, or-true, true≢false}
use Prim.Native.Nat.{ℕ, zero, suc, ◌+◌, ◌≤◌, ◌<◌}
use native.Mathlib.Nat.{eq-or-lt_of_le}
use native.Mathlib.Numerals.{add-one}
use native.Mathlib.Omega.{arith}
use mathlib.Core.Logic.{⊎_elim}
use Rattle.squares.specs.Squares.{any_below, any_in}

-- ---- numbers below a bound

-- no number below 0 passes a test
pub any_none : (test : ℕ → Bool) → any_below 0 test ≡ false
unfolding any_below
any_none test = refl

-- where a number below n passes the test, the answer is that some number does
pub any_here : (n : ℕ) (test : ℕ → Bool) (i : ℕ) → i < n → test i ≡ true → any_below n test ≡ true
unfolding any_below
any_here zero test i h e = absurd (omega arith)
any_here (suc n) test i h e =
    let l : i ≤ n = omega arith in
    ⊎_elim
    (λ (p : i ≡ n). rw (← p, e) (or-true (any_below i test)))
    (λ (b : i < n). rw (any_here n test i b e))
    (eq-or-lt_of_le l)

-- where the answer is that some number below n passes the test, there is one that does
pub any_found : (n : ℕ) (test : ℕ → Bool) → any_below n test ≡ true → (i : ℕ) × (i < n) × (test i ≡ true)
unfolding any_below
any_found zero test e = absurd (true≢false (sym e))
any_found (suc n) test e = go (any_found n test) (any_below n test) refl e
  where
    go : (any_below n test ≡ true → (i : ℕ) × (i < n) × (test i ≡ true))
        → (b : Bool) → any_below n test ≡ b → b || test n ≡ true → (i : ℕ) × (i < suc n) × (test i ≡ true)
    go rest true t u = let f = rest t in (f.0, omega (arith, f.1), f.2)
    go rest false t u = (n, omega arith, u)

-- a test that does not hold
pub fails : (b : Bool) → (b ≡ true → ⊥) → b ≡ false
fails true h = absurd (h refl)
fails false h = refl

-- one number more
pub any_next : (n : ℕ) (test : ℕ → Bool) → any_below n test ≡ false → test n ≡ false → any_below (n + 1) test ≡ false
unfolding any_below
any_next n test e f = rw (add-one n) (rw (e, f))

-- ---- pixels of a square

module _ (marked : ℕ → ℕ → Bool) (side x y : ℕ) where
  -- where a pixel of a square is marked, the answer is that the square holds a marked pixel
  pub in_here : (i j : ℕ) → i < side → j < side → marked (x + i) (y + j) ≡ true → any_in marked side x y ≡ true
  unfolding any_in
  in_here i j h k e =
      any_here side (λ j'. any_below side (λ i'. marked (x + i') (y + j'))) j k
      (any_here side (λ i'. marked (x + i') (y + j)) i h e)

  -- where the answer is that a square holds a marked pixel, one of its pixels is marked
  pub in_found : any_in marked side x y ≡ true → (i : ℕ) × (j : ℕ) × (i < side) × (j < side) × (marked (x + i) (y + j) ≡ true)
  unfolding any_in
  in_found e =
      let row = any_found side (λ j. any_below side (λ i. marked (x + i) (y + j))) e in
      let pixel = any_found side (λ i. marked (x + i) (y + row.0)) row.2 in
      (pixel.0, row.0, pixel.1, row.1, pixel.2)

-- of two tests that do not hold both, one fails
pub one_fails : {P : Type 0} (a b : Bool) → a && b ≡ false → (a ≡ false → P) → (b ≡ false → P) → P
one_fails false b e f g = f refl
one_fails true b e f g = g e

-- a test and two more, one after the other or the two first
pub two_more : (a b c : Bool) → a && (b && c) ≡ a && b && c
two_more true b c = refl
two_more false b c = refl
