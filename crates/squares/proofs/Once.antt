-- A marked pixel lies in exactly one of the squares that remain, and each of these holds a marked pixel: a square's pixels are those of its
-- four quarters, each in one of them, and a square that is dropped holds no marked pixel. Assumes nothing.
use mathlib.Core.Path.{◌≡◌, refl, sym, subst, ◌∙◌}
use mathlib.Core.Logic.{⊎_elim}
use mathlib.Core.Bool.{Bool, true, false, cond, ◌&&◌, true≢false}
use mathlib.Core.List.Memᴰ
use mathlib.Core.List.{List, [], ◌∷◌, ◌++◌, Memᴰ}
use Prim.Native.Nat.{ℕ, zero, suc, ◌+◌, ◌*◌, ◌-◌, ◌%◌, ◌≤◌, ◌<◌}
use native.Mathlib.Nat.{add-zero, add-mul, mul-add, one-mul, zero-mul}
use native.Mathlib.Omega.{arith}
use borrow.Author.Tests.{ltb-true, ltb-false}
use lib.Dec.{ltb}
use Rattle.ground.proofs.Truth.{both}
use Rattle.squares.specs.declared.size.Corner.{Corner}
use Rattle.squares.specs.Squares.{any_in, corner, side_of, kept, squares}
use Rattle.squares.specs.Copy.{is_among, covers, holds, holders}
use Rattle.squares.proofs.Any.{fails, in_here, in_found}
use Rattle.squares.proofs.Among.{among_in, among_low, among_high, among_parts}

-- ---- where a pixel lies

-- how often: once where a test holds
abbrev once : Bool → ℕ
once b = cond b 1 0

once_and : (b c : Bool) → once (b && c) ≡ once b * once c
once_and true c = sym (one-mul (once c))
once_and false c = sym (zero-mul (once c))

-- in one of two halves
halves : (s a v : ℕ) → once (is_among (2 * s) a v) ≡ once (is_among s a v) + once (is_among s (a + s) v)
halves s a v = go (ltb v a) (ltb v (a + s)) (ltb v (a + 2 * s)) refl refl refl
  where
    go : (b c d : Bool) → ltb v a ≡ b → ltb v (a + s) ≡ c → ltb v (a + 2 * s) ≡ d
        → once (is_among (2 * s) a v) ≡ once (is_among s a v) + once (is_among s (a + s) v)
    go true c d p q r =
        let h = ltb-true v a p in
        rw (among_low (2 * s) a v h, among_low s a v h, among_low s (a + s) v (omega arith))
    go false true d p q r =
        let h = ltb-false v a p in
        let k = ltb-true v (a + s) q in
        rw (among_in (2 * s) a v h (omega arith), among_in s a v h k, among_low s (a + s) v k)
    go false false true p q r =
        let h = ltb-false v (a + s) q in
        let k = ltb-true v (a + 2 * s) r in
        rw (among_in (2 * s) a v (omega arith) k, among_high s a v h, among_in s (a + s) v h (omega arith))
    go false false false p q r =
        let h = ltb-false v (a + s) q in
        let k = ltb-false v (a + 2 * s) r in
        rw (among_high (2 * s) a v k, among_high s a v h, among_high s (a + s) v (omega arith))

-- in one of four quarters
four : (s a b x y : ℕ)
    → once (covers (2 * s) a b x y)
    ≡ once (covers s a b x y) + once (covers s (a + s) b x y) + once (covers s a (b + s) x y) + once (covers s (a + s) (b + s) x y)
unfolding covers
four s a b x y =
    simp (once_and, halves, add-mul, mul-add) (omega arith)

-- ---- pixels of a square

module _ (marked : ℕ → ℕ → Bool) where
  covered : (side a b x y : ℕ) → covers side a b x y ≡ true → marked x y ≡ true → any_in marked side a b ≡ true
  unfolding covers
  covered side a b x y e m =
      let p = both (is_among side a x) (is_among side b y) e in
      let h = among_parts side a x p.0 in
      let k = among_parts side b y p.1 in
      let column : a + (x - a) ≡ x = omega arith in
      let row : b + (y - b) ≡ y = omega arith in
      in_here marked side a b (x - a) (y - b) (omega arith) (omega arith) (rw (column, row) m)

  found : (side a b : ℕ) → any_in marked side a b ≡ true → (x : ℕ) × (y : ℕ) × (covers side a b x y ≡ true) × (marked x y ≡ true)
  unfolding covers
  found side a b e =
      let f = in_found marked side a b e in (
        a + f.0,
        b + f.1,
        rw (among_in side a (a + f.0) (omega arith) (omega (arith, f.2)), among_in side b (b + f.1) (omega arith) (omega (arith, f.3))),
        f.4,
      )

-- ---- exactly one square

holders_append : (x y : ℕ) (l m : List Corner) → holders x y (l ++ m) ≡ holders x y l + holders x y m
unfolding holders
holders_append x y [] m = omega arith
holders_append x y (c ∷ l) m = omega (arith, holders_append x y l m)

module _ (marked : ℕ → ℕ → Bool) (x y : ℕ) (is-marked : marked x y ≡ true) where
  -- to drop a square loses no marked pixel
  kept_once : (side a b : ℕ) (l : List Corner) → holders x y l ≡ once (covers side a b x y) → holders x y (kept marked side a b l) ≡ once (covers side a b x y)
  unfolding kept holders
  kept_once side a b l e = go (any_in marked side a b) refl
    where
      go : (t : Bool) → any_in marked side a b ≡ t → holders x y (cond t l []) ≡ once (covers side a b x y)
      go true p = e
      go false p =
          let out : covers side a b x y ≡ false = fails _ (λ c. true≢false (sym (covered marked side a b x y c is-marked) ∙ p)) in
          rw out

  -- a marked pixel lies in exactly one of the squares that remain of a square if it lies in that square, and in none of them if it does not
  pub once_in : (n a b : ℕ) → holders x y (squares marked n a b) ≡ once (covers (side_of n) a b x y)
  unfolding squares side_of holders
  once_in zero a b = kept_once 8 a b (corner a b ∷ []) (add-zero _)
  once_in (suc n) a b =
      let s = side_of n in
      let k = squares marked n a b in
      let l = squares marked n (a + s) b in
      let m = squares marked n a (b + s) in
      let o = squares marked n (a + s) (b + s) in
      kept_once (2 * s) a b (k ++ l ++ m ++ o)
      (omega (
        arith,
        four s a b x y,
        once_in n a b,
        once_in n (a + s) b,
        once_in n a (b + s),
        once_in n (a + s) (b + s),
        holders_append x y k l,
        holders_append x y (k ++ l) m,
        holders_append x y (k ++ l ++ m) o,
      ))

-- ---- each square that remains

-- a side is a number of eights
eights : (n : ℕ) → side_of n % 8 ≡ 0
unfolding side_of
eights zero = refl
eights (suc n) = omega (arith, eights n)

-- it holds a marked pixel, and lies in the square that it remains of, a number of eights from its corner
pub record Remains (marked : ℕ → ℕ → Bool) (side a b : ℕ) (c : Corner) : Type 0 where
  pub some : any_in marked 8 c.x c.y ≡ true
  pub left : a ≤ c.x
  pub right : c.x + 8 ≤ a + side
  pub bottom : b ≤ c.y
  pub top : c.y + 8 ≤ b + side
  pub column : c.x % 8 ≡ a % 8
  pub row : c.y % 8 ≡ b % 8

module _ (marked : ℕ → ℕ → Bool) (c : Corner) where
  kept_member : (side a b : ℕ) (l : List Corner) → Memᴰ c (kept marked side a b l) → (any_in marked side a b ≡ true) × Memᴰ c l
  unfolding kept
  kept_member side a b l = go (any_in marked side a b) refl
    where
      go : (t : Bool) → any_in marked side a b ≡ t → Memᴰ c (cond t l []) → (any_in marked side a b ≡ true) × Memᴰ c l
      go true p m = (p, m)
      go false p m = absurd (Memᴰ.not-nil m)

  four_cases : {P : Type 0} (k l r o : List Corner) → (Memᴰ c k → P) → (Memᴰ c l → P) → (Memᴰ c r → P) → (Memᴰ c o → P)
      → Memᴰ c (k ++ l ++ r ++ o) → P
  four_cases k l r o f g h i m =
      ⊎_elim
      (λ u. ⊎_elim (λ v. ⊎_elim f g (Memᴰ.append_cases k v)) h (Memᴰ.append_cases (k ++ l) u))
      i
      (Memᴰ.append_cases (k ++ l ++ r) m)

  -- what remains of a quarter remains of the square
  of_quarter : (side a b d e : ℕ) → d ≤ side → e ≤ side → d % 8 ≡ 0 → e % 8 ≡ 0
      → Remains marked side (a + d) (b + e) c → Remains marked (2 * side) a b c
  of_quarter side a b d e h k p q m = record {
    some = m.some;
    left = omega (arith, m.left);
    right = omega (arith, m.right);
    bottom = omega (arith, m.bottom);
    top = omega (arith, m.top);
    column = omega (arith, m.column);
    row = omega (arith, m.row);
  }

  -- each square that remains of a square holds a marked pixel, and lies in that square a number of eights from its corner
  pub remains : (n a b : ℕ) → Memᴰ c (squares marked n a b) → Remains marked (side_of n) a b c
  unfolding squares side_of
  remains zero a b m =
      let k = kept_member 8 a b (corner a b ∷ []) m in
      let e : c ≡ corner a b = Memᴰ.eq_of_singleton k.1 in
      subst (Remains marked 8 a b) (sym e) (record { some = k.0; left = omega arith; right = omega arith; bottom = omega arith; top = omega arith; column = refl; row = refl })
  remains (suc n) a b m =
      let s = side_of n in
      let f = eights n in
      four_cases
      (squares marked n a b)
      (squares marked n (a + s) b)
      (squares marked n a (b + s))
      (squares marked n (a + s) (b + s))
      (λ u. of_quarter s a b 0 0 (omega arith) (omega arith) refl refl (rw (add-zero a, add-zero b) (remains n a b u)))
      (λ u. of_quarter s a b s 0 (omega arith) (omega arith) f refl (rw (add-zero b) (remains n (a + s) b u)))
      (λ u. of_quarter s a b 0 s (omega arith) (omega arith) refl f (rw (add-zero a) (remains n a (b + s) u)))
      (λ u. of_quarter s a b s s (omega arith) (omega arith) f f (remains n (a + s) (b + s) u))
      (kept_member (2 * s) a b _ m).1

  -- the marked pixel that it holds
  pub some_in : {side a b : ℕ} → Remains marked side a b c → (x : ℕ) × (y : ℕ) × (holds x y c ≡ true) × (marked x y ≡ true)
  some_in r = found marked 8 c.x c.y r.some

-- ---- the square of side 256

-- the square of side 256 from (0, 0) on covers each pixel with both coordinates below 256
pub covers_all : (x y : ℕ) → x < 256 → y < 256 → covers (side_of 5) 0 0 x y ≡ true
unfolding covers side_of
covers_all x y h k = rw (among_in 256 0 x (omega arith) (omega arith), among_in 256 0 y (omega arith) (omega arith))
