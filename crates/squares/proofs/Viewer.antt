-- What a viewer may rely on: each differing pixel lies in exactly one listed square, each listed square has a difference, and copying the squares
-- that the call lists makes the new picture of the old one. Assumes nothing.
use mathlib.Core.Path.{◌≡◌, refl, sym, ap, ap₂, ◌∙◌}
use mathlib.Core.Bool.{true}
use mathlib.Core.List.{List, [], ◌∷◌, map, Memᴰ}
use Prim.Native.Nat.{ℕ, ◌+◌, ◌/◌, ◌%◌, ◌^◌, ◌<◌}
use native.Mathlib.Nat.{mul_comm, mod-lt, div-add-mod', div-lt_iff_lt-mul}
use native.Mathlib.Omega.{arith}
use borrow.Author.Tests.{lt-ltb, eq-eqb, ne_eqb}
use lib.Arith.{digits_div, digits_mod}
use lib.ListN.{length, take, drop, get_or}
use lib.Seq.{take-append_seam}
use Rattle.stream.specs.Calls.{over, Answer, answer}
use Rattle.squares.specs.declared.size.Corner.{Corner}
use Rattle.squares.specs.Squares.{corner, corner_of, numbers}
use Rattle.squares.specs.Change.{unlike, differs, changed}
use Rattle.squares.specs.Copy.{holds, holders, copy_squares}
use Rattle.squares.specs.Calls.{is_square, are_squares, listing, copying}
use Rattle.squares.proofs.Any.{in_found}
use Rattle.squares.proofs.Clip.{differs_parts, differs_of}
use Rattle.squares.proofs.Calls.{Sized, sized_told, listed_whole, copy_done, copied_or_not}
use Rattle.squares.proofs.Once.{covers_all, once_in, remains, some_in}
use Rattle.squares.proofs.Copies.{untouched, becomes}

-- squares each of which copying takes
squares_each : (width rows : ℕ) (cs : List Corner)
    → ((c : Corner) → Memᴰ c cs → (c.x % 8 ≡ 0) × (c.y % 8 ≡ 0) × (c.x < width) × (c.y < rows)) → are_squares width rows cs ≡ true
unfolding are_squares is_square
squares_each width rows [] h = refl
squares_each width rows (c ∷ cs) h =
    let g = h c (Memᴰ.head refl) in
    rw (eq-eqb (c.x % 8) 0 g.0, eq-eqb (c.y % 8) 0 g.1, lt-ltb c.x width g.2, lt-ltb c.y rows g.3)
    (squares_each width rows cs (λ d m. h d (Memᴰ.tail m)))

-- ---- the list

module _ (old new : List ℕ) (width rows : ℕ) where
  -- each listed square has a difference inside the picture
  pub each_differs : (c : Corner) → Memᴰ c (changed old new width rows) → (x : ℕ) × (y : ℕ) × (holds x y c ≡ true) × (differs old new width rows x y ≡ true)
  each_differs c m = let p = differs old new width rows in some_in p c (remains p c 5 0 0 m)

  -- it is one such as copying takes
  listed_inside : (c : Corner) → Memᴰ c (changed old new width rows) → (c.x % 8 ≡ 0) × (c.y % 8 ≡ 0) × (c.x < width) × (c.y < rows)
  listed_inside c m =
      let p = differs old new width rows in
      let r = remains p c 5 0 0 m in
      let s = in_found p 8 c.x c.y r.some in
      let d = differs_parts old new width rows (c.x + s.0) (c.y + s.1) s.4 in
      (r.column, r.row, omega (arith, d.0), omega (arith, d.1))

  -- all listed squares are such as copying takes
  pub all_squares : are_squares width rows (changed old new width rows) ≡ true
  all_squares = squares_each width rows (changed old new width rows) listed_inside

  module _ (z : Sized (length old) (length new) width rows) where
    -- each differing pixel lies in exactly one listed square
    pub exactly_one : (x y : ℕ) → differs old new width rows x y ≡ true → holders x y (changed old new width rows) ≡ 1
    exactly_one x y e =
        let p = differs_parts old new width rows x y e in
        once_in (differs old new width rows) x y e 5 0 0 ∙ rw (covers_all x y (omega (arith, z.narrow, p.0)) (omega (arith, z.low, p.1)))

    -- a place that differs holds such a pixel
    place_differs : (i : ℕ) → i < length old → (get_or old i 0 ≡ get_or new i 0 → ⊥) → differs old new width rows (i % width) (i / width) ≡ true
    unfolding unlike
    place_differs i h e =
        let row : i / width < rows = (div-lt_iff_lt-mul z.some).1 (omega (arith, z.old, mul_comm width rows)) in
        differs_of old new width rows (i % width) (i / width) (mod-lt i z.some) row (rw (div-add-mod' i width) (rw (ne_eqb _ _ e)))

    -- copying the listed squares turns the old picture into the new one
    pub copied : copy_squares width new old (changed old new width rows) ≡ new
    copied =
        becomes width new old (changed old new width rows) (z.new ∙ sym z.old)
        (λ i h e. let o = exactly_one (i % width) (i / width) (place_differs i h e) in omega (arith, o))

-- ---- the list as it is told

-- a square is told back from its number
told_back : (cs : List Corner) → ((c : Corner) → Memᴰ c cs → c.x < 65536) → map corner_of (numbers cs) ≡ cs
told_back [] h = refl
told_back (c ∷ cs) h =
    let l = h c (Memᴰ.head refl) in
    ap₂ (λ (d : Corner) (ds : List Corner). d ∷ ds)
    (ap₂ corner (digits_mod c.y l) (digits_div c.y l))
    (told_back cs (λ d m. h d (Memᴰ.tail m)))

-- what listing tells and leaves, where it does not refuse: the number of squares, and they
pub told_squares : (old new out left : List ℕ) (width rows r : ℕ) → answer r left ≡ listing old new width rows out → r < 2 ^ 63
    → Sized (length old) (length new) width rows × (map corner_of (take r left) ≡ changed old new width rows) × (r ≡ length (take r left))
unfolding over
told_squares old new out left width rows r e h =
    let list = changed old new width rows in
    let u = listed_whole old new width rows out (rw (sym (ap (λ (a : Answer). a.told) e)) h) in
    let q = e ∙ u.1 in
    let t : take r left ≡ numbers list =
    ap (λ (a : Answer). take a.told a.left) q ∙ take-append_seam (numbers list) (drop (length (numbers list)) out) in
    let back : map corner_of (take r left) ≡ list =
    ap (map corner_of) t ∙ told_back list (λ c m. omega (arith, u.0.narrow, (listed_inside old new width rows c m).2)) in
    (u.0, back, ap (λ (a : Answer). a.told) q ∙ sym (ap length t))

-- listed and copied: a view of the old picture becomes the new one, whatever the two calls are allowed to answer and leave, and no square is refused
pub viewer : (old new out left view : List ℕ) (width rows r s : ℕ)
    → answer r left ≡ listing old new width rows out → r < 2 ^ 63
    → answer s view ≡ copying (take r left) new width rows old
    → (s ≡ r) × (view ≡ new)
viewer old new out left view width rows r s p h q =
    let t = told_squares old new out left width rows r p h in
    let z = t.0 in
    let list = take r left in
    let good : are_squares width rows (map corner_of list) ≡ true = rw t.1 (all_squares old new width rows) in
    let c = copy_done list new width rows old (sized_told (length old) (length new) width rows z) good refl in
    let e = q ∙ sym c in (
      ap (λ (a : Answer). a.told) e ∙ sym t.2,
      ap (λ (a : Answer). a.left) e ∙ ap (copy_squares width new old) t.1 ∙ copied old new width rows z,
    )

-- copying leaves each place outside the listed squares as it was, whatever the squares and the two pictures
pub copy_elsewhere : (list new view left : List ℕ) (width rows s i : ℕ) → answer s left ≡ copying list new width rows view
    → holders (i % width) (i / width) (map corner_of list) ≡ 0 → get_or left i 0 ≡ get_or view i 0
copy_elsewhere list new view left width rows s i e h =
    rw (ap (λ (a : Answer). a.left) e)
    (copied_or_not list new width rows view (λ l. get_or l i 0 ≡ get_or view i 0)
    (λ l. untouched width new i view (map corner_of list) l h) refl)
