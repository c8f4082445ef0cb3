-- What the calls of this crate draw.
use Rattle.std.specs.Prelude.{ℕ, zero, suc, ◌+◌, ◌-◌, ◌*◌, ◌/◌, ◌%◌, ◌^◌, Bool, true, cond, not, ◌&&◌, ◌||◌, List, [], ◌∷◌, ◌++◌, length, ◌==◌, nat_lt}
use Rattle.picture.specs.declared.Frame.{Frame}
use Rattle.picture.specs.declared.Pen.{Pen}
use Rattle.picture.specs.declared.Kind.{Kind}
use Rattle.picture.specs.declared.Kind.TheVariants.{Gouraud}
use Rattle.picture.specs.declared.Carried.{Carried}
use Rattle.picture.specs.Place.{lies_tiled, in_memory}
use Rattle.picture.specs.Picture.{is_deep, is_edge, Picture, step_at}
use Rattle.picture.specs.Offer.{Offer, offer, lets_through, is_masked}

-- the offers of f 0, then those of f 1, up to and without f n
unfoldable pub spans : (ℕ → List Offer) → ℕ → List Offer
spans f zero = []
spans f (suc n) = spans f n ++ f n

-- an offer at a place that both memories have; at any other it does nothing
unfoldable pub placed : Pen → Kind → ℕ → ℕ → ℕ → Picture → Picture
placed pen kind at i z p = cond (nat_lt at (length p.i) && nat_lt at (length p.z)) (step_at pen kind at i z p) p

-- a pixel, as the transparency pattern lets it through: itself or nothing
unfoldable pub shown : Pen → Offer → List Offer
shown pen o = cond (lets_through pen o.kind o.x o.y) (o ∷ []) []

-- a pixel about which the window is not asked
unfoldable pub seen : Pen → ℕ → Offer → List Offer
seen pen rows o = cond (in_memory pen.frame rows o.x o.y) (shown pen o) []

-- what 1 is as a carried number: a number is carried as so many times itself, and a part
abbrev pub carried_one : ℕ
carried_one = 2 ^ 48

-- the number that is carried, so many pixels on: the sum modulo 2 ^ 64, without its part
unfoldable pub carried_to : Carried → ℕ → ℕ
carried_to c j = (c.first + j * c.add) % 2 ^ 64 / carried_one

-- a number that stays the same along a row, carried: each pixel adds nothing to it
abbrev pub steady_of : ℕ → Carried
steady_of v = record { first = v * carried_one; add = 0 }

-- pixel j of a run in row y from column lo on, its numbers carried
abbrev pub span_pixel : Kind → ℕ → ℕ → Carried → Carried → ℕ → Offer
span_pixel kind lo y i z j = offer kind (lo + j) y (carried_to i j) (carried_to z j)

-- the pixels of row y from column lo up to and without hi
unfoldable pub span_offers : Pen → ℕ → Kind → ℕ → ℕ → ℕ → Carried → Carried → List Offer
span_offers pen rows kind lo hi y i z = spans (λ j. seen pen rows (span_pixel kind lo y i z j)) (hi - lo)

-- of a figure's pixels that are in the window and the memory nothing but a nearer depth decides, and both numbers are stored whole
abbrev pub is_plain : Pen → Kind → Bool
is_plain pen kind =
    (not (is_masked kind) || pen.transparency == 65535) && is_deep kind && not (is_edge kind) && pen.depth && pen.ienable && pen.zenable
    && pen.planes == 65535

-- the pen of a frame with the depth test, both enables, all planes, a pattern that hides nothing and the widest window
abbrev pub nearer_pen : Frame → Pen
nearer_pen frame =
    record {
      frame = frame;
      left = 0;
      right = 65535;
      bottom = 0;
      top = 65535;
      transparency = 65535;
      planes = 65535;
      depth = true;
      ienable = true;
      zenable = true;
    }

-- what is offered of row y from column lo up to and without hi, each pixel with the same two numbers; where pixels lie in tiles nothing
abbrev pub steady_offers : Frame → ℕ → ℕ → ℕ → ℕ → ℕ → ℕ → List Offer
steady_offers frame rows lo hi y i z = cond (lies_tiled frame) [] (span_offers (nearer_pen frame) rows Gouraud lo hi y (steady_of i) (steady_of z))
