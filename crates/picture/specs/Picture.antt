-- What offers do to the two memories, and which of them pass (document 01, "Passed").
use Rattle.std.specs.Prelude.{ℕ, ◌+◌, ◌-◌, Bool, true, false, cond, not, ◌&&◌, ◌||◌, List, ◌==◌, bit_and, bit_or, nat_lt, slice_index, slice_set}
use mathlib.Core.List.{foldl}
use Rattle.picture.specs.declared.Pen.{Pen}
use Rattle.picture.specs.declared.Kind.{Kind}
use Rattle.picture.specs.declared.Kind.TheVariants.{Gouraud, Constant, Line0, Line1, Line2}
use Rattle.std.specs.declared.cmp.Ordering.{Ordering}
use Rattle.std.specs.declared.cmp.Ordering.TheVariants.{Less, Equal, Greater}
use Rattle.picture.specs.Place.{place_of}
use Rattle.picture.specs.Offer.{Offer}

-- the depth test and the Z memory concern triangles and mode 2 lines; lines of the modes 0 and 1 never touch Z
abbrev pub is_deep : Kind → Bool
is_deep Gouraud = true
is_deep Constant = true
is_deep Line0 = false
is_deep Line1 = false
is_deep Line2 = true

-- how a new depth stands to the old one: nearer where it is less, equal, or farther where it is greater
unfoldable pub compared_of : ℕ → ℕ → Ordering
compared_of new old = cond (nat_lt new old) Less (cond (new == old) Equal Greater)

-- edges lie over faces: lines of mode 2 pass at equal depth (document 02, [10]), triangles do not
abbrev pub is_edge : Kind → Bool
is_edge Gouraud = false
is_edge Constant = false
is_edge Line0 = false
is_edge Line1 = false
is_edge Line2 = true

-- a pixel whose depth stands so passes the depth test
abbrev pub wins : Kind → Ordering → Bool
wins kind Less = true
wins kind Equal = is_edge kind
wins kind Greater = false

-- an offer passes where a depth stands: tested, it wins; everything else passes
unfoldable pub passes : Pen → Kind → ℕ → ℕ → Bool
passes pen kind z old = not (pen.depth && is_deep kind) || wins kind (compared_of z old)

-- the new number in the set planes, the old one in the others
unfoldable pub in_planes : ℕ → ℕ → ℕ → ℕ
in_planes planes old new = bit_or (bit_and old (65535 - planes)) (bit_and new planes)

-- what a passed pixel leaves of the number that stood in I, and of the depth that stood in Z
unfoldable pub new_i : Pen → ℕ → ℕ → ℕ
new_i pen i old = cond pen.ienable (in_planes pen.planes old i) old

-- the new depth where the Z enable is on and the kind has depth, and elsewhere the old one
unfoldable pub new_z : Pen → Kind → ℕ → ℕ → ℕ
new_z pen kind z old = cond (pen.zenable && is_deep kind) z old

-- the two memories, and how many pixels have passed
pub record Picture : Type 0 where
  pub i : List ℕ
  pub z : List ℕ
  pub passed : ℕ

-- a picture of two memories and a count
abbrev pub picture : List ℕ → List ℕ → ℕ → Picture
picture i z n = record { i = i; z = z; passed = n }

-- one offer at a place: if it passes it is stored and counted, enables or not
unfoldable pub step_at : Pen → Kind → ℕ → ℕ → ℕ → Picture → Picture
step_at pen kind at i z p =
    cond (passes pen kind z (slice_index p.z at))
    (picture (slice_set p.i at (new_i pen i (slice_index p.i at))) (slice_set p.z at (new_z pen kind z (slice_index p.z at))) (p.passed + 1))
    p

-- one offer
unfoldable pub draw_one : Pen → Picture → Offer → Picture
draw_one pen p o = step_at pen o.kind (place_of pen.frame o.x o.y) o.i o.z p

-- offers, one after the other
unfoldable pub drawn : Pen → List Offer → Picture → Picture
drawn pen os p = foldl (draw_one pen) p os
