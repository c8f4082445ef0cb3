-- A pixel passes where it is not hidden, so that of the offered as many pass as are not hidden. Assumes nothing.
use Rattle.std.proofs.Common.{◌≡◌, ℕ, ◌+◌, Bool, true, false, cond, not, ◌&&◌, ◌||◌, List, [], ◌∷◌, length, get_or, refl, ap, ◌∙◌, arith}
use Rattle.picture.specs.declared.Pen.{Pen}
use Rattle.picture.specs.declared.Kind.{Kind}
use Rattle.picture.specs.Offer.{Offer}
use Rattle.picture.specs.Picture.{is_deep, compared_of, wins, passes, Picture, picture, draw_one, drawn}
use Rattle.picture.specs.Passed.{spot}
use Rattle.picture.proofs.Fold.{step_pass, step_fail}
use Rattle.tally.specs.Hidden.{hides, offered_of, hidden_of}

-- it passes where it is not hidden
passes_unhidden : (pen : Pen) (kind : Kind) (z old : ℕ) → passes pen kind z old ≡ not (hides pen kind z old)
unfolding passes hides
passes_unhidden pen kind z old = go (pen.depth && is_deep kind) (wins kind (compared_of z old))
  where
    go : (d w : Bool) → not d || w ≡ not (d && not w)
    go true true = refl
    go true false = refl
    go false w = refl

-- one pixel passes or is hidden
step_hidden : (pen : Pen) (o : Offer) (p : Picture) → (draw_one pen p o).passed + cond (hides pen o.kind o.z (get_or p.z (spot pen o) 0)) 1 0 ≡ p.passed + 1
unfolding draw_one
step_hidden pen o p = go (hides pen o.kind o.z (get_or p.z (spot pen o) 0)) refl
  where
    go : (b : Bool) → hides pen o.kind o.z (get_or p.z (spot pen o) 0) ≡ b → (draw_one pen p o).passed + cond b 1 0 ≡ p.passed + 1
    go true e = rw (step_fail pen o.kind (spot pen o) o.i o.z p (passes_unhidden pen o.kind o.z _ ∙ ap not e))
    go false e = rw (step_pass pen o.kind (spot pen o) o.i o.z p (passes_unhidden pen o.kind o.z _ ∙ ap not e)) (omega arith)

-- what drawing some pixels adds to the passed, and how many of them are hidden, come to all of them
pub drawn_hidden : (pen : Pen) (os : List Offer) (p : Picture) → (drawn pen os p).passed + hidden_of pen os p ≡ p.passed + length os
unfolding drawn hidden_of
drawn_hidden pen [] p = refl
drawn_hidden pen (o ∷ os) p = omega (arith, drawn_hidden pen os (draw_one pen p o), step_hidden pen o p)

module _ (pen : Pen) (os : List Offer) (i z : List ℕ) where
  -- every pixel that is offered passes or is hidden
  pub figure_balanced : offered_of os ≡ (drawn pen os (picture i z 0)).passed + hidden_of pen os (picture i z 0)
  figure_balanced = omega (arith, drawn_hidden pen os (picture i z 0))

-- without the depth test none is hidden
untested_hides : (pen : Pen) (kind : Kind) (z old : ℕ) → pen.depth ≡ false → hides pen kind z old ≡ false
unfolding hides
untested_hides pen kind z old h = ap (λ (b : Bool). b && is_deep kind && not (wins kind (compared_of z old))) h

-- without the depth test no pixel is hidden, whatever the picture
pub untested_hidden : (pen : Pen) (os : List Offer) (p : Picture) → pen.depth ≡ false → hidden_of pen os p ≡ 0
unfolding hidden_of
untested_hidden pen [] p h = refl
untested_hidden pen (o ∷ os) p h =
    omega (arith, ap {B = ℕ} (λ (b : Bool). cond b 1 0) (untested_hides pen o.kind o.z (get_or p.z (spot pen o) 0) h), untested_hidden pen os (draw_one pen p o) h)
