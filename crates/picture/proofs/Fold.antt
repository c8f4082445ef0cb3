-- The laws of the fold: offers in two parts, the count apart from the memories, lengths kept. Assumes nothing.
use Rattle.std.proofs.Common.{◌≡◌, ℕ, ◌+◌, ◌≤◌, Bool, true, false, cond, List, [], ◌∷◌, ◌++◌, length, get_or, set, sym, refl, ap, ◌∙◌, le_refl, add-zero, add_assoc, arith, length-set}
use mathlib.Core.List.{foldl-append}
use Rattle.picture.specs.declared.Pen.{Pen}
use Rattle.picture.specs.declared.Kind.{Kind}
use Rattle.picture.specs.Place.{place_of}
use Rattle.picture.specs.Offer.{Offer}
use Rattle.picture.specs.Picture.{passes, new_i, new_z, Picture, picture, step_at, draw_one, drawn}

-- no offers leave the picture as it was
pub drawn_nil : (pen : Pen) (p : Picture) → drawn pen [] p ≡ p
unfolding drawn
drawn_nil pen p = refl

-- a list of one offer draws that offer
pub drawn_one : (pen : Pen) (o : Offer) (p : Picture) → drawn pen (o ∷ []) p ≡ draw_one pen p o
unfolding drawn
drawn_one pen o p = refl

-- offers in two parts are drawn the one part after the other
pub drawn_append : (pen : Pen) (os ps : List Offer) (p : Picture) → drawn pen (os ++ ps) p ≡ drawn pen ps (drawn pen os p)
unfolding drawn
drawn_append pen os ps p = foldl-append (draw_one pen) p os ps

-- ---- what one offer does goes by whether it passes

module _ (pen : Pen) (kind : Kind) (at i z : ℕ) (p : Picture) where
  -- an offer that passes stores in both memories what it leaves of the numbers that stood there, and counts one
  pub step_pass : passes pen kind z (get_or p.z at 0) ≡ true
      → step_at pen kind at i z p ≡ picture (set p.i at (new_i pen i (get_or p.i at 0))) (set p.z at (new_z pen kind z (get_or p.z at 0))) (p.passed + 1)
  unfolding step_at
  step_pass e = rw e

  -- an offer that does not pass leaves the picture as it was
  pub step_fail : passes pen kind z (get_or p.z at 0) ≡ false → step_at pen kind at i z p ≡ p
  unfolding step_at
  step_fail e = rw e

-- ---- the count apart

-- a picture with n counted before
abbrev pub counted : ℕ → Picture → Picture
counted n p = picture p.i p.z (n + p.passed)

step_counted : (pen : Pen) (n : ℕ) (p : Picture) (o : Offer) → draw_one pen (counted n p) o ≡ counted n (draw_one pen p o)
unfolding draw_one step_at
step_counted pen n p o = go (passes pen o.kind o.z (get_or p.z (place_of pen.frame o.x o.y) 0))
  where
    i : List ℕ
    i = set p.i (place_of pen.frame o.x o.y) (new_i pen o.i (get_or p.i (place_of pen.frame o.x o.y) 0))

    z : List ℕ
    z = set p.z (place_of pen.frame o.x o.y) (new_z pen o.kind o.z (get_or p.z (place_of pen.frame o.x o.y) 0))

    go : (b : Bool) → cond b (picture i z (n + p.passed + 1)) (counted n p) ≡ counted n (cond b (picture i z (p.passed + 1)) p)
    go true = ap (picture i z) (add_assoc n p.passed 1)
    go false = refl

drawn_counted : (pen : Pen) (n : ℕ) (os : List Offer) (p : Picture) → drawn pen os (counted n p) ≡ counted n (drawn pen os p)
unfolding drawn
drawn_counted pen n [] p = refl
drawn_counted pen n (o ∷ os) p = ap (drawn pen os) (step_counted pen n p o) ∙ drawn_counted pen n os (draw_one pen p o)

-- offers over a picture with n counted draw what they do from a count of 0, and n is added to the count
pub drawn_from : (pen : Pen) (os : List Offer) (i z : List ℕ) (n : ℕ) → drawn pen os (picture i z n) ≡ counted n (drawn pen os (picture i z 0))
drawn_from pen os i z n = ap (λ (m : ℕ). drawn pen os (picture i z m)) (sym (add-zero n)) ∙ drawn_counted pen n os (picture i z 0)

-- ---- lengths kept

kept_i : (b : Bool) (q p : Picture) → length q.i ≡ length p.i → length (cond b q p).i ≡ length p.i
kept_i true q p e = e
kept_i false q p e = refl

kept_z : (b : Bool) (q p : Picture) → length q.z ≡ length p.z → length (cond b q p).z ≡ length p.z
kept_z true q p e = e
kept_z false q p e = refl

-- one offer keeps the length of I
pub step_i : (pen : Pen) (p : Picture) (o : Offer) → length (draw_one pen p o).i ≡ length p.i
unfolding draw_one step_at
step_i pen p o = kept_i (passes pen o.kind o.z (get_or p.z (place_of pen.frame o.x o.y) 0)) _ p (length-set p.i _ _)

-- one offer keeps the length of Z
pub step_z : (pen : Pen) (p : Picture) (o : Offer) → length (draw_one pen p o).z ≡ length p.z
unfolding draw_one step_at
step_z pen p o = kept_z (passes pen o.kind o.z (get_or p.z (place_of pen.frame o.x o.y) 0)) _ p (length-set p.z _ _)

-- any offers keep the length of I
pub drawn_i : (pen : Pen) (os : List Offer) (p : Picture) → length (drawn pen os p).i ≡ length p.i
unfolding drawn
drawn_i pen [] p = refl
drawn_i pen (o ∷ os) p = drawn_i pen os (draw_one pen p o) ∙ step_i pen p o

-- any offers keep the length of Z
pub drawn_z : (pen : Pen) (os : List Offer) (p : Picture) → length (drawn pen os p).z ≡ length p.z
unfolding drawn
drawn_z pen [] p = refl
drawn_z pen (o ∷ os) p = drawn_z pen os (draw_one pen p o) ∙ step_z pen p o

-- ---- no more pass than are offered

step_passed : (pen : Pen) (p : Picture) (o : Offer) → (draw_one pen p o).passed ≤ p.passed + 1
unfolding draw_one step_at
step_passed pen p o = go (passes pen o.kind o.z (get_or p.z (place_of pen.frame o.x o.y) 0)) _ _
  where
    go : (b : Bool) (i z : List ℕ) → (cond b (picture i z (p.passed + 1)) p).passed ≤ p.passed + 1
    go true i z = le_refl _
    go false i z = omega arith

-- the count grows by no more than the number of offers
pub drawn_passed : (pen : Pen) (os : List Offer) (p : Picture) → (drawn pen os p).passed ≤ p.passed + length os
unfolding drawn
drawn_passed pen [] p = omega arith
drawn_passed pen (o ∷ os) p = omega (arith, drawn_passed pen os (draw_one pen p o), step_passed pen p o)
