-- The squares that remain fit into the square that they remain of, each with its 64 pixels: so at most 1024 are listed. Assumes nothing.
use mathlib.Core.Path.{◌≡◌}
use mathlib.Core.Bool.{Bool}
use mathlib.Core.List.{List, [], ◌++◌}
use Prim.Native.Nat.{ℕ, zero, suc, ◌+◌, ◌*◌, ◌≤◌}
use native.Mathlib.Nat.{mul_assoc, mul_left_comm}
use native.Mathlib.Omega.{arith}
use lib.ListN.{length, length-append, length-map}
use Rattle.ground.proofs.Truth.{either}
use Rattle.squares.specs.declared.size.Corner.{Corner}
use Rattle.squares.specs.Squares.{any_in, side_of, kept, squares, numbers, number_of}

module _ (marked : ℕ → ℕ → Bool) where
  kept_area : (area side x y : ℕ) (l : List Corner) → 64 * length l ≤ area → 64 * length (kept marked side x y l) ≤ area
  unfolding kept
  kept_area area side x y l h = either (λ k. 64 * length k ≤ area) (any_in marked side x y) {x = l} {y = []} (λ _. h) (λ _. omega arith)

  -- the squares that remain of a square, 64 pixels each, have together at most as many pixels as it has
  pub area : (n x y : ℕ) → 64 * length (squares marked n x y) ≤ side_of n * side_of n
  unfolding squares side_of
  area zero x y = kept_area 64 8 x y _ (omega arith)
  area (suc n) x y =
      let s = side_of n in
      let a = squares marked n x y in
      let b = squares marked n (x + s) y in
      let c = squares marked n x (y + s) in
      let d = squares marked n (x + s) (y + s) in
      let e : 2 * s * (2 * s) ≡ 4 * (s * s) = simp (mul_assoc, mul_left_comm) (omega arith) in
      kept_area (2 * s * (2 * s)) (2 * s) x y (a ++ b ++ c ++ d)
      (omega (
        arith,
        e,
        area n x y,
        area n (x + s) y,
        area n x (y + s),
        area n (x + s) (y + s),
        length-append a b,
        length-append (a ++ b) c,
        length-append (a ++ b ++ c) d,
      ))

  -- of a square of side 256
  pub few : (n x y : ℕ) → 256 ≡ side_of n → length (numbers (squares marked n x y)) ≤ 1024
  few n x y e =
      let h : 64 * length (squares marked n x y) ≤ 256 * 256 = rw (← e) at (area n x y) in
      omega (arith, length-map (squares marked n x y) number_of)
