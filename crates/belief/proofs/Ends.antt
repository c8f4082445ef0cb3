-- Offers that stay where they win, one after the other, leave the least depth and the intensity that goes with it. Assumes nothing.
use mathlib.Core.Path.{◌≡◌, refl, sym, ap, ◌∙◌}
use mathlib.Core.Bool.{Bool, true, false, cond, ◌&&◌, false≢true}
use mathlib.Core.List.{List, [], ◌∷◌, foldl}
use Prim.Native.Nat.{ℕ, min, ◌≤◌, ◌<◌}
use native.Mathlib.Omega.{arith}
use lib.Dec.{eqb, ltb}
use borrow.Author.Tests.{ltb-true, ltb-false, lt-ltb, le-ltb, eqb-true, eqb-false, eq-eqb, ne_eqb}
use Rattle.std.proofs.Common.{Less, Equal, Greater}
use Rattle.picture.specs.Offer.{Offer}
use Rattle.picture.specs.Picture.{compared_of, is_edge, wins}
use Rattle.picture.specs.Cell.{Cell, cell}
use Rattle.belief.specs.Belief.{least, earliest, last_line, unlined, intensity, Believed}

-- an offer stays where it wins over what stands there
abbrev pub lands : Cell → Offer → Cell
lands c o = cond (wins o.kind (compared_of o.z c.z)) (cell o.i o.z) c

-- what is believed of a place, as the two numbers that end there
abbrev ends : Cell → List Offer → Cell
ends c os = cell (intensity (least c.z os) c os) (least c.z os)

-- the least depth is at most the starting depth
pub least_low : (z : ℕ) (os : List Offer) → least z os ≤ z
unfolding least
least_low z [] = omega arith
least_low z (o ∷ os) = omega (arith, least_low (min z o.z) os)

-- ---- one offer more at the front: what a line and what others bring, a line or not

module _ (o : Offer) (os : List Offer) (c : Cell) (depth : ℕ) where
  -- it is nearer: the rest goes on from it
  front_nearer : (line : Bool) → o.z < c.z → depth ≤ o.z
      → cond (line && eqb o.z depth) o.i (unlined depth c (o ∷ os)) ≡ unlined depth (cell o.i o.z) os
  unfolding unlined earliest
  front_nearer line h l = rw (lt-ltb depth c.z (omega arith)) (go line (ltb depth o.z) refl)
    where
      go : (line b : Bool) → ltb depth o.z ≡ b
          → cond (line && eqb o.z depth) o.i (cond (eqb o.z depth) o.i (earliest depth os)) ≡ cond b (earliest depth os) o.i
      go true true e = rw (ne_eqb o.z depth (omega (arith, ltb-true depth o.z e)))
      go false true e = rw (ne_eqb o.z depth (omega (arith, ltb-true depth o.z e)))
      go true false e = rw (eq-eqb o.z depth (omega (arith, ltb-false depth o.z e)))
      go false false e = rw (eq-eqb o.z depth (omega (arith, ltb-false depth o.z e)))

  -- it is a line at equal depth: the rest goes on from it
  front_equal : o.z ≡ c.z → depth ≤ o.z → cond (eqb o.z depth) o.i (unlined depth c (o ∷ os)) ≡ unlined depth (cell o.i o.z) os
  unfolding unlined earliest
  front_equal h l = rw (← h) (go (ltb depth o.z) refl)
    where
      go : (b : Bool) → ltb depth o.z ≡ b
          → cond (eqb o.z depth) o.i (cond b (cond (eqb o.z depth) o.i (earliest depth os)) c.i) ≡ cond b (earliest depth os) o.i
      go true e = rw (ne_eqb o.z depth (omega (arith, ltb-true depth o.z e)))
      go false e = rw (eq-eqb o.z depth (omega (arith, ltb-false depth o.z e)))

  -- it is neither: the rest goes on from what stood there
  front_farther : (line : Bool) → c.z ≤ o.z → (line ≡ true → c.z < o.z) → depth ≤ c.z
      → cond (line && eqb o.z depth) o.i (unlined depth c (o ∷ os)) ≡ unlined depth c os
  unfolding unlined earliest
  front_farther line h n l = go line (ltb depth c.z) refl n
    where
      go : (line b : Bool) → ltb depth c.z ≡ b → (line ≡ true → c.z < o.z)
          → cond (line && eqb o.z depth) o.i (cond b (cond (eqb o.z depth) o.i (earliest depth os)) c.i) ≡ cond b (earliest depth os) c.i
      go true b e n = let k = n refl in rw (ne_eqb o.z depth (omega (arith, k)))
      go false true e n = rw (ne_eqb o.z depth (omega (arith, ltb-true depth c.z e)))
      go false false e n = refl

front_ends : (o : Offer) (os : List Offer) (c : Cell) → ends (lands c o) os ≡ ends c (o ∷ os)
unfolding least intensity last_line compared_of
front_ends o os c = go (ltb o.z c.z) (eqb o.z c.z) refl refl
  where
    tie : (line : Bool) → is_edge o.kind ≡ line → o.z ≡ c.z → ends (cond line (cell o.i o.z) c) os ≡ ends c (o ∷ os)
    tie true e h =
        let m : min c.z o.z ≡ o.z = omega arith in
        rw (m, e, front_equal o os c (least o.z os) h (least_low o.z os))
        (ap (λ (v : ℕ). cell (last_line (least v os) os (unlined (least o.z os) (cell o.i o.z) os)) (least o.z os)) (sym m))
    tie false e h =
        let m : min c.z o.z ≡ c.z = omega arith in
        rw (m, e, front_farther o os c (least c.z os) false (omega arith) (λ q. absurd (false≢true q)) (least_low c.z os))
        (ap (λ (v : ℕ). cell (last_line (least v os) os (unlined (least c.z os) c os)) (least c.z os)) (sym m))

    go : (a b : Bool) → ltb o.z c.z ≡ a → eqb o.z c.z ≡ b
        → ends (cond (wins o.kind (cond a Less (cond b Equal Greater))) (cell o.i o.z) c) os ≡ ends c (o ∷ os)
    go true b e f =
        let h : o.z < c.z = ltb-true _ _ e in
        let m : min c.z o.z ≡ o.z = omega arith in
        rw (m, front_nearer o os c (least o.z os) (is_edge o.kind) h (least_low o.z os))
        (ap (λ (v : ℕ). cell (last_line (least v os) os (unlined (least o.z os) (cell o.i o.z) os)) (least o.z os)) (sym m))
    go false true e f = tie (is_edge o.kind) refl (eqb-true _ _ f)
    go false false e f =
        let h : c.z < o.z = omega (arith, ltb-false o.z c.z e, eqb-false o.z c.z f) in
        let m : min c.z o.z ≡ c.z = omega arith in
        rw (m, front_farther o os c (least c.z os) (is_edge o.kind) (omega arith) (λ q. h) (least_low c.z os))
        (ap (λ (v : ℕ). cell (last_line (least v os) os (unlined (least c.z os) c os)) (least c.z os)) (sym m))

-- ---- all of them

fold_ends : (os : List Offer) (c : Cell) → foldl lands c os ≡ ends c os
unfolding least intensity last_line unlined
fold_ends [] c = rw (le-ltb c.z c.z (omega arith))
fold_ends (o ∷ os) c = fold_ends os (lands c o) ∙ front_ends o os c

-- a place where offers have landed ends as is believed
pub lands_believed : (os : List Offer) (c end : Cell) → end ≡ foldl lands c os → Believed c os end
lands_believed os c end e =
    let same = e ∙ fold_ends os c in
    record { depth = ap (λ (d : Cell). d.z) same; shown = ap (λ (d : Cell). d.i) same }
