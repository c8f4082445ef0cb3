-- What a place sees of a fold: its own offers, and no others. Nothing here knows what an offer does. Assumes nothing.
use Rattle.std.proofs.Common.{◌≡◌, ℕ, ◌+◌, ◌<◌, Bool, true, false, cond, eqb, ◌≢◌, List, [], ◌∷◌, length, get_or, set, sym, refl, ap, ◌∙◌, ⊎_elim, get_or-set_other, get_or-set_same, eqb-true}
use mathlib.Core.List.Memᴰ
use mathlib.Core.List.{foldl, Memᴰ}
use borrow.Author.Tests.{eqb-false}
use Rattle.picture.specs.declared.Frame.{Frame}
use Rattle.picture.specs.declared.Pen.{Pen}
use Rattle.picture.specs.Place.{place_of}
use Rattle.picture.specs.Offer.{Offer}
use Rattle.picture.specs.Picture.{passes, new_i, new_z, Picture, picture, step_at, draw_one, drawn}
use Rattle.picture.specs.Cell.{Cell, cell, cell_at, offer_leaves, there}
use Rattle.picture.proofs.Fold.{step_i, step_z}

-- at its own place an offer does what it does to the two numbers there
pub step_here : (pen : Pen) (p : Picture) (o : Offer) (at : ℕ) → place_of pen.frame o.x o.y ≡ at → at < length p.i → at < length p.z
    → cell_at (draw_one pen p o) at ≡ offer_leaves pen (cell_at p at) o
unfolding draw_one step_at offer_leaves
step_here pen p o at e hi hz = rw e (go (passes pen o.kind o.z (get_or p.z at 0)))
  where
    i' : ℕ
    i' = new_i pen o.i (get_or p.i at 0)

    z' : ℕ
    z' = new_z pen o.kind o.z (get_or p.z at 0)

    go : (b : Bool) → cell_at (cond b (picture (set p.i at i') (set p.z at z') (p.passed + 1)) p) at ≡ cond b (cell i' z') (cell_at p at)
    go true = rw (get_or-set_same p.i, get_or-set_same p.z)
    go false = refl

-- at every other place it does nothing
pub step_away : (pen : Pen) (p : Picture) (o : Offer) (at : ℕ) → at ≢ place_of pen.frame o.x o.y → cell_at (draw_one pen p o) at ≡ cell_at p at
unfolding draw_one step_at
step_away pen p o at h = go (passes pen o.kind o.z (get_or p.z (place_of pen.frame o.x o.y) 0)) _ _
  where
    go : (b : Bool) (i' z' : ℕ)
        → cell_at (cond b (picture (set p.i (place_of pen.frame o.x o.y) i') (set p.z (place_of pen.frame o.x o.y) z') (p.passed + 1)) p) at ≡ cell_at p at
    go true i' z' = rw (get_or-set_other p.i, get_or-set_other p.z)
    go false i' z' = refl

-- what a fold leaves at a place is what the offers made there leave of the two numbers that stood there, if both memories have the place
-- of each of them
pub drawn_cell : (pen : Pen) (os : List Offer) (p : Picture) (at : ℕ)
    → ((o : Offer) → Memᴰ o os → place_of pen.frame o.x o.y ≡ at → (at < length p.i) × (at < length p.z))
    → cell_at (drawn pen os p) at ≡ foldl (offer_leaves pen) (cell_at p at) (there pen.frame at os)
unfolding drawn there
drawn_cell pen [] p at has = refl
drawn_cell pen (o ∷ os) p at has =
    drawn_cell pen os (draw_one pen p o) at (λ q m e. let k = has q (Memᴰ.tail m) e in (rw (step_i pen p o) k.0, rw (step_z pen p o) k.1))
    ∙ go (eqb (place_of pen.frame o.x o.y) at) refl
  where
    go : (b : Bool) → eqb (place_of pen.frame o.x o.y) at ≡ b
        → foldl (offer_leaves pen) (cell_at (draw_one pen p o) at) (there pen.frame at os)
        ≡ foldl (offer_leaves pen) (cell_at p at) (cond b (o ∷ there pen.frame at os) (there pen.frame at os))
    go true e =
        let same = eqb-true _ _ e in
        let k = has o (Memᴰ.head refl) same in
        ap (λ (c : Cell). foldl (offer_leaves pen) c (there pen.frame at os)) (step_here pen p o at same k.0 k.1)
    go false e = ap (λ (c : Cell). foldl (offer_leaves pen) c (there pen.frame at os)) (step_away pen p o at (λ q. eqb-false _ _ e (sym q)))

-- offers made at a place are among the offers
pub there_member : (frame : Frame) (at : ℕ) (os : List Offer) (o : Offer) → Memᴰ o (there frame at os) → Memᴰ o os
unfolding there
there_member frame at [] o m = m
there_member frame at (p ∷ os) o m = go (eqb (place_of frame p.x p.y) at) (there_member frame at os o) m
  where
    go : (b : Bool) → (Memᴰ o (there frame at os) → Memᴰ o os) → Memᴰ o (cond b (p ∷ there frame at os) (there frame at os)) → Memᴰ o (p ∷ os)
    go true rest u = ⊎_elim (λ e. Memᴰ.head e) (λ v. Memᴰ.tail (rest v)) (Memᴰ.cases_cons u)
    go false rest u = Memᴰ.tail (rest u)
