-- Where a number lies: in a run of numbers or in a part of it, and where a place lies in a row of a picture. Assumes nothing.
use mathlib.Core.Path.{◌≡◌, refl, ap, ◌∙◌}
use mathlib.Core.Bool.{Bool, true, false, ◌&&◌, ◌||◌}
use Prim.Native.Nat.{ℕ, ◌+◌, ◌*◌, ◌-◌, ◌/◌, ◌%◌, ◌≤◌, ◌<◌, min}
use native.Mathlib.Nat.{div-add-mod'}
use native.Mathlib.Omega.{arith}
use borrow.Author.Tests.{lt-ltb, le-ltb, le-leb, lt-leb, ltb-true, ltb-false, leb-true}
use lib.Arith.{digits_div, digits_mod}
use lib.Dec.{ltb, leb}
use Rattle.ground.proofs.Truth.{both, same_test}
use Rattle.squares.specs.Copy.{is_among}

module _ (n a v : ℕ) where
  -- a number that is at least a and below a + n is one of the n numbers from a on
  pub among_in : a ≤ v → v < a + n → is_among n a v ≡ true
  unfolding is_among
  among_in h k = rw (le-leb a v h, lt-ltb v (a + n) k)

  -- a number below a is none of them
  pub among_low : v < a → is_among n a v ≡ false
  unfolding is_among
  among_low h = rw (lt-leb a v h)

  -- a number that is at least a + n is none of them
  pub among_high : a + n ≤ v → is_among n a v ≡ false
  unfolding is_among
  among_high h = rw (le-leb a v (omega arith), le-ltb v (a + n) h)

  -- one of the n numbers from a on is at least a and below a + n
  pub among_parts : is_among n a v ≡ true → (a ≤ v) × (v < a + n)
  unfolding is_among
  among_parts e = let p = both (leb a v) (ltb v (a + n)) e in (leb-true a v p.0, ltb-true v (a + n) p.1)

-- in none
pub among_none : (a v : ℕ) → is_among 0 a v ≡ false
among_none a v = go (ltb v a) refl
  where
    go : (b : Bool) → ltb v a ≡ b → is_among 0 a v ≡ false
    go true p = among_low 0 a v (ltb-true v a p)
    go false p = among_high 0 a v (omega (arith, ltb-false v a p))

-- in one of two runs, the second behind the first
pub among_add : (m n a v : ℕ) → is_among (m + n) a v ≡ is_among m a v || is_among n (a + m) v
among_add m n a v = go (ltb v a) (ltb v (a + m)) (ltb v (a + (m + n))) refl refl refl
  where
    go : (b c d : Bool) → ltb v a ≡ b → ltb v (a + m) ≡ c → ltb v (a + (m + n)) ≡ d → is_among (m + n) a v ≡ is_among m a v || is_among n (a + m) v
    go true c d p q r =
        let h = ltb-true v a p in
        rw (among_low (m + n) a v h, among_low m a v h, among_low n (a + m) v (omega arith))
    go false true d p q r =
        let h = ltb-false v a p in
        let k = ltb-true v (a + m) q in
        rw (among_in (m + n) a v h (omega arith), among_in m a v h k)
    go false false true p q r =
        let h = ltb-false v (a + m) q in
        let k = ltb-true v (a + (m + n)) r in
        rw (among_in (m + n) a v (omega arith) k, among_high m a v h, among_in n (a + m) v h (omega arith))
    go false false false p q r =
        let h = ltb-false v (a + m) q in
        let k = ltb-false v (a + (m + n)) r in
        rw (among_high (m + n) a v k, among_high m a v h, among_high n (a + m) v (omega arith))

-- a run is cut off where the numbers end
pub among_clip : (n limit a v : ℕ) → v < limit → is_among (min n (limit - a)) a v ≡ is_among n a v
among_clip n limit a v h =
    same_test _ _
    (λ e. let p = among_parts (min n (limit - a)) a v e in among_in n a v p.0 (omega (arith, p.1)))
    (λ e. let p = among_parts n a v e in among_in (min n (limit - a)) a v p.0 (omega (arith, p.0, p.1)))

-- a run of places inside row r of a picture is a run of that row's columns
pub among_row : (width columns x r at : ℕ) → x + columns ≤ width
    → is_among columns (r * width + x) at ≡ is_among columns x (at % width) && is_among 1 r (at / width)
among_row width columns x r at fits =
    same_test _ _
    (λ e.
    let p = among_parts columns (r * width + x) at e in
    let is : at ≡ r * width + (at - r * width) = omega (arith, p.0) in
    let l : at - r * width < width = omega (arith, p.0, p.1) in
    let m : at % width ≡ at - r * width = ap (λ (k : ℕ). k % width) is ∙ digits_mod r l in
    let d : at / width ≡ r = ap (λ (k : ℕ). k / width) is ∙ digits_div r l in
    rw (among_in columns x (at % width) (omega (arith, p.0)) (omega (arith, p.1)), among_in 1 r (at / width) (omega arith) (omega arith)))
    (λ e.
    let p = both (is_among columns x (at % width)) (is_among 1 r (at / width)) e in
    let c = among_parts columns x (at % width) p.0 in
    let y = among_parts 1 r (at / width) p.1 in
    let d : at / width ≡ r = omega (arith, y.0, y.1) in
    let is : r * width + at % width ≡ at = rw d at (div-add-mod' at width) in
    among_in columns (r * width + x) at (omega (arith, c.0)) (omega (arith, c.1)))
