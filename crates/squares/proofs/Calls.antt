-- What each call comes to, from the tests on its way. Assumes nothing.
use mathlib.Core.Path.{◌≡◌, refl, sym, ap, ◌∙◌}
use mathlib.Core.Bool.{Bool, true, false, cond, ◌&&◌}
use mathlib.Core.List.{List, map}
use Prim.Native.Nat.{ℕ, ◌+◌, ◌*◌, ◌^◌, ◌≤◌, ◌<◌}
use native.Mathlib.Omega.{arith}
use borrow.Author.Tests.{ltb-true, leb-true, eqb-true, eqb-false, lt-ltb, le-leb, eq-eqb, ne_eqb}
use lib.ListN.{length}
use lib.Dec.{ltb, leb, eqb}
use Rattle.ground.proofs.Numbers.{number_positive}
use Rattle.ground.proofs.Truth.{both}
use Rattle.stream.specs.Calls.{no_room, over, Answer, answer}
use Rattle.stream.proofs.Calls.{no_room_lem, room}
use Rattle.ground.specs.declared.Refusal.{Refusal}
use Rattle.ground.specs.Refusal.{number}
use Rattle.squares.specs.declared.size.Corner.{Corner}
use Rattle.squares.specs.Squares.{corner_of, side_of}
use Rattle.squares.specs.Copy.{copy_squares}
use Rattle.squares.specs.Calls.{good_size, checked, are_squares, answered, listed, listing, copying}

-- the code's test of width and rows
pub small : (width rows : ℕ) → ltb 0 width && leb width 256 && leb rows 256 ≡ true → (0 < width) × (width ≤ 256) × (rows ≤ 256)
small width rows e =
    let p = both (ltb 0 width && leb width 256) (leb rows 256) e in
    let q = both (ltb 0 width) (leb width 256) p.0 in
    (ltb-true 0 width q.0, leb-true width 256 q.1, leb-true rows 256 p.1)

-- ---- the checks

-- two pictures of one allowed size
pub record Sized (n m width rows : ℕ) : Type 0 where
  pub old : n ≡ width * rows
  pub new : m ≡ width * rows
  pub some : 0 < width
  pub narrow : width ≤ 256
  pub low : rows ≤ 256

module _ (n m width rows : ℕ) where
  -- where nothing is wrong, the size is allowed, and the next check tells
  pub sized : (next : ℕ) → checked n m width rows next ≡ 0 → Sized n m width rows
  unfolding checked good_size
  sized next e = go (eqb n m) (good_size n width rows) refl refl e
    where
      go : (a b : Bool) → eqb n m ≡ a → good_size n width rows ≡ b → cond a (cond b next 9) 2 ≡ 0 → Sized n m width rows
      go true true p q z =
          let r = both (ltb 0 width && leb width 256 && leb rows 256) (eqb n (width * rows)) q in
          let s = small width rows r.0 in
          let l = eqb-true n (width * rows) r.1 in
          record { old = l; new = sym (eqb-true n m p) ∙ l; some = s.0; narrow = s.1; low = s.2 }
      go true false p q z = absurd (omega arith)
      go false b p q z = absurd (omega arith)

  -- two pictures of one allowed size are not refused
  pub sized_told : Sized n m width rows → checked n m width rows 0 ≡ 0
  unfolding checked good_size
  sized_told z =
      rw (eq-eqb n m (z.old ∙ sym z.new), lt-ltb 0 width z.some, le-leb width 256 z.narrow, le-leb rows 256 z.low, eq-eqb n (width * rows) z.old)

  -- where neither the lengths nor the size are refused, the next check tells
  pub good_told : (next : ℕ) → checked n m width rows 0 ≡ 0 → checked n m width rows next ≡ next
  unfolding checked
  good_told next = go (eqb n m) (good_size n width rows)
    where
      go : (a b : Bool) → ◌≡◌ {A = ℕ} (cond a (cond b 0 9) 2) 0 → cond a (cond b next 9) 2 ≡ next
      go true true z = refl
      go true false z = absurd (omega arith)
      go false b z = absurd (omega arith)

  -- what is wrong is told whatever the next check says
  pub flaw_told : (next : ℕ) → (checked n m width rows 0 ≡ 0 → ⊥) → checked n m width rows next ≡ checked n m width rows 0
  unfolding checked
  flaw_told next = go (eqb n m) (good_size n width rows)
    where
      go : (a b : Bool) → (◌≡◌ {A = ℕ} (cond a (cond b 0 9) 2) 0 → ⊥) → cond a (cond b next 9) 2 ≡ cond a (cond b 0 9) 2
      go true true z = absurd (z refl)
      go true false z = refl
      go false b z = refl

  -- the number of what is wrong is at most 9
  pub flaw_small : checked n m width rows 0 ≤ 9
  unfolding checked
  flaw_small = go (eqb n m) (good_size n width rows)
    where
      go : (a b : Bool) → cond a (cond b 0 9) 2 ≤ 9
      go true true = omega arith
      go true false = omega arith
      go false b = omega arith

-- ---- answers

module _ (value : ℕ) (result lent : List ℕ) where
  refused : (number : ℕ) → (number ≡ 0 → ⊥) → answer (2 ^ 63 + number) lent ≡ answered number value result lent
  unfolding answered
  refused number h = rw (ne_eqb number 0 h)

  done : answer value result ≡ answered 0 value result lent
  unfolding answered
  done = refl

  -- an answer below 2 ^ 63 is no refusal
  unrefused : (number : ℕ) → (answered number value result lent).told < 2 ^ 63 → (number ≡ 0) × (answered number value result lent ≡ answer value result)
  unrefused number h = go (eqb number 0) refl
    where
      go : (b : Bool) → eqb number 0 ≡ b → (number ≡ 0) × (answered number value result lent ≡ answer value result)
      go true t =
          let e : number ≡ 0 = eqb-true number 0 t in
          (e, rw e (sym done))
      go false t =
          let e = ap (λ (a : Answer). a.told) (refused number (eqb-false number 0 t)) in
          absurd (omega (arith, e, h))

-- ---- listing

-- a square of side 256 is split five times
pub five : 256 ≡ side_of 5
unfolding side_of
five = refl

module _ (old new : List ℕ) (width rows : ℕ) (out : List ℕ) where
  -- listing tells 2 ^ 63 plus the number of what is wrong with the pictures, and leaves the output as it was
  pub list_flawed : {number : ℕ} → number ≡ checked (length old) (length new) width rows 0 → (number ≡ 0 → ⊥)
      → answer (2 ^ 63 + number) out ≡ listing old new width rows out
  unfolding listing
  list_flawed {number} e h =
      let list = listed old new width rows in
      let f = flaw_told (length old) (length new) width rows (no_room list out) (λ z. h (e ∙ z)) in
      rw (f, ← e) (refused (length list) (over list out) out number h)

  -- so of the refusal that has that number
  pub list_refused : (refusal : Refusal) → number refusal ≡ checked (length old) (length new) width rows 0
      → answer (2 ^ 63 + number refusal) out ≡ listing old new width rows out
  list_refused refusal e = list_flawed e (λ z. omega (arith, number_positive refusal, z))

  module _ (good : checked (length old) (length new) width rows 0 ≡ 0) where
    -- where the output has fewer places than there are squares, listing tells 2 ^ 63 + 13 and leaves the output as it was
    pub list_short : length out < length (listed old new width rows) → answer (2 ^ 63 + 13) out ≡ listing old new width rows out
    unfolding listing
    list_short h =
        let list = listed old new width rows in
        rw (good_told (length old) (length new) width rows (no_room list out) good, no_room_lem list out h)
        (refused (length list) (over list out) out 13 (λ z. omega arith))

    -- where it has as many, the list over its front, and how many squares there are
    pub list_done : {left : List ℕ} → length (listed old new width rows) ≤ length out → left ≡ over (listed old new width rows) out
        → answer (length (listed old new width rows)) left ≡ listing old new width rows out
    unfolding listing
    list_done fits e =
        let list = listed old new width rows in
        rw (good_told (length old) (length new) width rows (no_room list out) good, room list out fits) (rw e (done (length list) (over list out) out))

  -- an answer below 2 ^ 63: the size is allowed, and the whole list is written
  pub listed_whole : (listing old new width rows out).told < 2 ^ 63
      → Sized (length old) (length new) width rows
      × (listing old new width rows out ≡ answer (length (listed old new width rows)) (over (listed old new width rows) out))
  unfolding listing
  listed_whole h =
      let list = listed old new width rows in
      let u = unrefused (length list) (over list out) out (checked (length old) (length new) width rows (no_room list out)) h in
      (sized (length old) (length new) width rows (no_room list out) u.0, u.1)

-- ---- copying

module _ (list new : List ℕ) (width rows : ℕ) (view : List ℕ) where
  abbrev corners : List Corner
  corners = map corner_of list

  -- copying tells 2 ^ 63 plus the number of what is wrong with the pictures, and leaves the view as it was
  pub copy_flawed : {number : ℕ} → number ≡ checked (length view) (length new) width rows 0 → (number ≡ 0 → ⊥)
      → answer (2 ^ 63 + number) view ≡ copying list new width rows view
  unfolding copying
  copy_flawed {number} e h =
      let f = flaw_told (length view) (length new) width rows (cond (are_squares width rows corners) 0 9) (λ z. h (e ∙ z)) in
      rw (f, ← e) (refused (length list) (copy_squares width new view corners) view number h)

  -- so of the refusal that has that number
  pub copy_refused : (refusal : Refusal) → number refusal ≡ checked (length view) (length new) width rows 0
      → answer (2 ^ 63 + number refusal) view ≡ copying list new width rows view
  copy_refused refusal e = copy_flawed e (λ z. omega (arith, number_positive refusal, z))

  module _ (good : checked (length view) (length new) width rows 0 ≡ 0) where
    -- where one of the list is no square of the picture, copying tells 2 ^ 63 + 9 and leaves the view as it was
    pub copy_strange : are_squares width rows corners ≡ false → answer (2 ^ 63 + 9) view ≡ copying list new width rows view
    unfolding copying
    copy_strange h =
        rw (h, good_told (length view) (length new) width rows 9 good)
        (refused (length list) (copy_squares width new view corners) view 9 (λ z. omega arith))

    -- where all are squares of the picture, copying tells how many they are and leaves the view with these copied
    pub copy_done : {left : List ℕ} → are_squares width rows corners ≡ true → left ≡ copy_squares width new view corners
        → answer (length list) left ≡ copying list new width rows view
    unfolding copying
    copy_done h e = rw (h, good_told (length view) (length new) width rows 0 good) (rw e (done (length list) (copy_squares width new view corners) view))

  -- what is left is the view with the squares copied, or the view as it was
  pub copied_or_not : (P : List ℕ → Type 0) → (length new ≡ length view → P (copy_squares width new view corners)) → P view → P (copying list new width rows view).left
  unfolding copying answered
  copied_or_not P f g = go (eqb number 0) refl
    where
      number : ℕ
      number = checked (length view) (length new) width rows (cond (are_squares width rows corners) 0 9)

      go : (b : Bool) → eqb number 0 ≡ b
          → P (cond {A = Answer} b (answer (length list) (copy_squares width new view corners)) (answer (2 ^ 63 + number) view)).left
      go true t =
          let z = sized (length view) (length new) width rows (cond (are_squares width rows corners) 0 9) (eqb-true number 0 t) in
          f (z.new ∙ sym z.old)
      go false t = g
