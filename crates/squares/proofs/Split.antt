-- What remains of a square, as the code finds it: of one of side 8 itself, or nothing where no pixel is marked; of a larger one what remains of its
-- four quarters, put one behind the other. (A square in which no pixel is marked is dropped, and so is each of its quarters.) Assumes nothing.
use mathlib.Core.Path.{◌≡◌, refl, sym, ◌∙◌}
use mathlib.Core.Bool.{Bool, true, false, cond, true≢false}
use mathlib.Core.List.{List, [], ◌∷◌, ◌++◌, map-append, append_assoc}
use Prim.Native.Nat.{ℕ, zero, suc, ◌+◌, ◌*◌, ◌/◌, ◌≤◌, ◌<◌}
use native.Mathlib.Nat.{add-zero}
use native.Mathlib.Omega.{arith}
use lib.ListN.{length, length-append}
use Rattle.std.proofs.lemmas.List.{append-nil}
use Rattle.squares.specs.declared.size.Corner.{Corner}
use Rattle.squares.specs.Squares.{any_in, corner, side_of, kept, squares, numbers}
use Rattle.squares.specs.Room.{Side, Room, AddsSquares}
use Rattle.squares.proofs.Any.{fails, in_here, in_found}

-- ---- sides

side_least : (n : ℕ) → 8 ≤ side_of n
unfolding side_of
side_least zero = omega arith
side_least (suc n) = omega (arith, side_least n)

doubled : (side n : ℕ) → side ≡ 2 * side_of n → side ≡ side_of (suc n)
unfolding side_of
doubled side n e = e

-- a side above 8 is twice another
module _ (side : ℕ) (large : 8 < side) where
  split_side : (P : ℕ → Type 0) → ((n : ℕ) → side ≡ 2 * side_of n → P (suc n)) → (n : ℕ) → side ≡ side_of n → P n
  unfolding side_of
  split_side P more zero e = absurd (omega arith)
  split_side P more (suc n) e = more n e

  -- half of a side above 8 that can be split down to side 8 can be split so as well
  pub half_side : Side side → Side (side / 2)
  half_side s = split_side (λ _. Side (side / 2)) (λ n e. record { splits = n; is = omega arith }) s.splits s.is

  -- and where its half is split n times down to side 8, it is twice the side of a square that is split so
  pub twice : Side side → (n : ℕ) → side / 2 ≡ side_of n → side ≡ 2 * side_of n
  twice s n h = split_side (λ _. side ≡ 2 * side_of n) (λ m e. omega arith) s.splits s.is

-- ---- what remains

module _ (marked : ℕ → ℕ → Bool) (x y : ℕ) where
  -- where a square holds no marked pixel, no part of it does
  part_none : (side part dx dy : ℕ) → dx + part ≤ side → dy + part ≤ side → any_in marked side x y ≡ false → any_in marked part (x + dx) (y + dy) ≡ false
  part_none side part dx dy h k none =
      fails _ (λ some.
      let f = in_found marked part (x + dx) (y + dy) some in
      let column : x + (dx + f.0) ≡ x + dx + f.0 = omega arith in
      let row : y + (dy + f.1) ≡ y + dy + f.1 = omega arith in
      let here = in_here marked side x y (dx + f.0) (dy + f.1) (omega (arith, f.2)) (omega (arith, f.3)) (rw (column, row) f.4) in
      true≢false (sym here ∙ none))

  dropped : (n : ℕ) → any_in marked (side_of n) x y ≡ false → squares marked n x y ≡ []
  unfolding squares kept side_of
  dropped zero e = rw e
  dropped (suc n) e = rw e

  itself : any_in marked 8 x y ≡ true → squares marked 0 x y ≡ corner x y ∷ []
  unfolding squares kept
  itself e = rw e

-- the four quarters of a square that is split
abbrev quarters : (ℕ → ℕ → Bool) → ℕ → ℕ → ℕ → ℕ → List Corner
quarters marked n half x y =
    squares marked n x y ++ squares marked n (x + half) y ++ squares marked n x (y + half) ++ squares marked n (x + half) (y + half)

module _ (marked : ℕ → ℕ → Bool) (n x y : ℕ) where
  -- nothing remains of them where the square holds no marked pixel
  quarters_none : any_in marked (2 * side_of n) x y ≡ false → quarters marked n (side_of n) x y ≡ []
  quarters_none none =
      let s = side_of n in
      let a = dropped marked x y n (rw (add-zero x, add-zero y) at (part_none marked x y (2 * s) s 0 0 (omega arith) (omega arith) none)) in
      let b = dropped marked (x + s) y n (rw (add-zero y) at (part_none marked x y (2 * s) s s 0 (omega arith) (omega arith) none)) in
      let c = dropped marked x (y + s) n (rw (add-zero x) at (part_none marked x y (2 * s) s 0 s (omega arith) (omega arith) none)) in
      let d = dropped marked (x + s) (y + s) n (part_none marked x y (2 * s) s s s (omega arith) (omega arith) none) in
      rw (a, b, c, d)

  -- so what remains of a square is what remains of its quarters, whether it holds one or not
  pub split : squares marked (suc n) x y ≡ quarters marked n (side_of n) x y
  unfolding squares kept side_of
  split = go (any_in marked (2 * side_of n) x y) refl
    where
      go : (b : Bool) → any_in marked (2 * side_of n) x y ≡ b → cond b (quarters marked n (side_of n) x y) [] ≡ quarters marked n (side_of n) x y
      go true some = refl
      go false none = sym (quarters_none none)

-- ---- what remains, found

module _ (marked : ℕ → ℕ → Bool) (side x y : ℕ) (found : List ℕ) where
  -- nothing of a square in which no pixel is marked
  pub adds_none : any_in marked side x y ≡ false → AddsSquares marked side (corner x y) found found
  adds_none none n e = rw (dropped marked x y n (rw e at none)) (sym (append-nil found))

  -- a square of side 8
  module _ (last : side ≤ 8) where
    at_last : (P : ℕ → Type 0) → P 0 → (n : ℕ) → side ≡ side_of n → P n
    unfolding side_of
    at_last P here zero e = here
    at_last P here (suc n) e = absurd (omega (arith, side_least n))

    -- of a square of side 8 with no marked pixel nothing remains
    pub adds_unlisted : any_in marked 8 x y ≡ false → AddsSquares marked side (corner x y) found found
    unfolding side_of
    adds_unlisted none =
        at_last (λ n. found ≡ found ++ numbers (squares marked n x y)) (rw (dropped marked x y 0 none) (sym (append-nil found)))

    module _ (some : any_in marked 8 x y ≡ true) where
      -- of one with a marked pixel it remains itself
      pub adds_itself : AddsSquares marked side (corner x y) found (found ++ (y * 65536 + x) ∷ [])
      adds_itself =
          at_last (λ n. found ++ (y * 65536 + x) ∷ [] ≡ found ++ numbers (squares marked n x y)) (rw (itself marked x y some))

      -- and where there is room for what remains of it, there is room for one square more
      pub room_itself : Side side → Room marked side (corner x y) found → length found < 1024
      room_itself s room =
          at_last (λ n. length found + length (numbers (squares marked n x y)) ≤ 1024 → length found < 1024)
          (λ r. let one : length found + 1 ≤ 1024 = rw (itself marked x y some) at r in omega arith)
          s.splits s.is (room s.splits s.is)

-- the quarters of a larger one, where there is room for it
pub record Splitting (marked : ℕ → ℕ → Bool) (side x y : ℕ) (found : List ℕ) : Type 0 where
  pub large : 8 < side
  pub splits : Side side
  pub room : Room marked side (corner x y) found

module _ {marked : ℕ → ℕ → Bool} {side x y : ℕ} {found : List ℕ} (w : Splitting marked side x y found) where
  four : (n : ℕ) → side / 2 ≡ side_of n
      → numbers (squares marked (suc n) x y)
      ≡ numbers (squares marked n x y) ++ numbers (squares marked n (x + side / 2) y)
      ++ numbers (squares marked n x (y + side / 2)) ++ numbers (squares marked n (x + side / 2) (y + side / 2))
  four n h = rw h (rw (split marked n x y) (simp map-append))

  -- there is room for them
  whole : (n : ℕ) → side / 2 ≡ side_of n
      → length found + (length (numbers (squares marked n x y)) + length (numbers (squares marked n (x + side / 2) y))
      + length (numbers (squares marked n x (y + side / 2))) + length (numbers (squares marked n (x + side / 2) (y + side / 2)))) ≤ 1024
  whole n h =
      let room : length found + length (numbers (squares marked (suc n) x y)) ≤ 1024 = w.room (suc n) (doubled side n (twice side w.large w.splits n h)) in
      simp length-append at (rw (four n h) at room)

  -- for each, behind those before it
  pub room_lower_left : Room marked (side / 2) (corner x y) found
  room_lower_left n h = omega (arith, whole n h)

  module _ {a : List ℕ} (p : AddsSquares marked (side / 2) (corner x y) found a) where
    -- behind what remains of the lower left quarter there is room for what remains of the lower right one
    pub room_lower_right : Room marked (side / 2) (corner (x + side / 2) y) a
    room_lower_right n h = rw (p n h) (simp length-append (omega (arith, whole n h)))

    module _ {b : List ℕ} (q : AddsSquares marked (side / 2) (corner (x + side / 2) y) a b) where
      -- behind what remains of both lower quarters there is room for what remains of the upper left one
      pub room_upper_left : Room marked (side / 2) (corner x (y + side / 2)) b
      room_upper_left n h = rw (q n h) (rw (p n h) (simp length-append (omega (arith, whole n h))))

      module _ {c : List ℕ} (r : AddsSquares marked (side / 2) (corner x (y + side / 2)) b c) where
        -- behind what remains of those three there is room for what remains of the upper right one
        pub room_upper_right : Room marked (side / 2) (corner (x + side / 2) (y + side / 2)) c
        room_upper_right n h = rw (r n h) (rw (q n h) (rw (p n h) (simp length-append (omega (arith, whole n h)))))

        -- and together they are what remains of the square
        pub adds_quarters : {left : List ℕ} → AddsSquares marked (side / 2) (corner (x + side / 2) (y + side / 2)) c left
            → AddsSquares marked side (corner x y) found left
        adds_quarters {left} t =
            split_side side w.large (λ n. left ≡ found ++ numbers (squares marked n x y))
            (λ n e.
            let h : side / 2 ≡ side_of n = omega arith in
            t n h ∙ rw (r n h, q n h, p n h, four n h) (simp append_assoc))
