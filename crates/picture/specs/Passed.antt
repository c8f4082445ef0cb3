-- Where the pixels pass that are drawn over a picture.
use Rattle.std.specs.Prelude.{ℕ, cond, List, [], ◌∷◌, slice_index}
use Rattle.picture.specs.declared.Pen.{Pen}
use Rattle.picture.specs.Place.{place_of}
use Rattle.picture.specs.Offer.{Offer}
use Rattle.picture.specs.Picture.{Picture, passes, draw_one}

-- the place of an offered pixel
abbrev pub spot : Pen → Offer → ℕ
spot pen o = place_of pen.frame o.x o.y

-- the places of the pixels that pass, in drawing order
unfoldable pub passed_at : Pen → List Offer → Picture → List ℕ
passed_at pen [] p = []
passed_at pen (o ∷ os) p =
    cond (passes pen o.kind o.z (slice_index p.z (spot pen o))) (spot pen o ∷ passed_at pen os (draw_one pen p o)) (passed_at pen os (draw_one pen p o))
