-- Pixels that are offered for nothing (document 02, [11]): the depth test is made of them, and fails.
use Rattle.std.specs.Prelude.{ℕ, ◌+◌, Bool, cond, not, ◌&&◌, List, [], ◌∷◌, length, slice_index}
use Rattle.picture.specs.declared.Pen.{Pen}
use Rattle.picture.specs.declared.Kind.{Kind}
use Rattle.picture.specs.Offer.{Offer}
use Rattle.picture.specs.Picture.{is_deep, compared_of, wins, Picture, draw_one}
use Rattle.picture.specs.Passed.{spot}

-- a pixel is hidden by the depth that stands at its place: the depth test is on, the pixel has depth, and its depth does not win
unfoldable pub hides : Pen → Kind → ℕ → ℕ → Bool
hides pen kind z old = pen.depth && is_deep kind && not (wins kind (compared_of z old))

-- how many pixels are offered
abbrev pub offered_of : List Offer → ℕ
offered_of os = length os

-- how many of them are hidden, each by what stands at its place when it comes
unfoldable pub hidden_of : Pen → List Offer → Picture → ℕ
hidden_of pen [] p = 0
hidden_of pen (o ∷ os) p = cond (hides pen o.kind o.z (slice_index p.z (spot pen o))) 1 0 + hidden_of pen os (draw_one pen p o)
