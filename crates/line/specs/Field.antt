-- What is asked of a step's pixel before it is drawn.
use Rattle.std.specs.Prelude.{◌≡◌, ℕ, Bool, true, cond, not, ◌&&◌, ◌||◌, ◌==◌, Option, Some, None, nat_lt}
use Rattle.picture.specs.declared.Frame.{Frame}
use Rattle.picture.specs.declared.Pen.{Pen}
use Rattle.picture.specs.declared.Vertex.{Vertex}
use Rattle.picture.specs.declared.Kind.{Kind}
use Rattle.picture.specs.Place.{lies_plain, lies_tiled}
use Rattle.picture.specs.Offer.{in_window, is_masked}
use Rattle.picture.specs.Picture.{is_deep}

-- the transparency pattern hides nothing: it does not concern the kind, or is all ones
abbrev pub is_open : Pen → Kind → Bool
is_open pen kind = not (is_masked kind) || pen.transparency == 65535

-- pixels lie in rows or in tiles, so that the memory has every column
abbrev pub lies_whole : Frame → Bool
lies_whole frame = lies_plain frame || lies_tiled frame

-- the rows in use, where nothing but the window and the memory is asked
abbrev pub direct_rows : Pen → Kind → ℕ → Option ℕ
direct_rows pen kind rows = cond (lies_whole pen.frame && is_open pen kind) (Some rows) None

-- a pixel is inside the window, and in a column of the line and a row in use
unfoldable pub in_field : Pen → ℕ → ℕ → ℕ → Bool
in_field pen rows x y = in_window pen x y && (nat_lt x pen.frame.line && nat_lt y rows)

-- both ends of a segment are
abbrev pub ends_within : Pen → ℕ → Vertex → Vertex → Bool
ends_within pen rows a b = in_field pen rows a.x a.y && in_field pen rows b.x b.y

-- a segment of which every pixel is offered in a column that the memory has: its ends are inside, and the transparency pattern hides nothing of its kind
pub record AllOffered (pen : Pen) (rows : ℕ) (kind : Kind) (a b : Vertex) : Type 0 where
  pub ends : ends_within pen rows a b ≡ true
  pub clear : is_open pen kind ≡ true

-- a pen that stores whole numbers, and depths where they are tested
abbrev pub is_bare : Pen → Kind → Bool
is_bare pen kind = (not (is_deep kind) || (pen.depth && pen.zenable)) && (pen.ienable && pen.planes == 65535)
