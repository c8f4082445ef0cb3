-- Which pixels of a figure are offered (document 01, "Offered"). Nothing here looks at what the memories hold.
use Rattle.std.specs.Prelude.{ℕ, ◌+◌, ◌*◌, ◌/◌, ◌%◌, ◌^◌, Bool, true, false, cond, not, ◌&&◌, ◌||◌, List, [], ◌∷◌, ◌==◌, nat_le}
use Rattle.picture.specs.declared.Pen.{Pen}
use Rattle.picture.specs.declared.Kind.{Kind}
use Rattle.picture.specs.declared.Kind.TheVariants.{Gouraud, Constant, Line0, Line1, Line2}
use Rattle.picture.specs.Place.{in_memory}

-- a pixel of a figure: where it is, its two numbers, and the figure's kind
pub record Offer : Type 0 where
  pub kind : Kind
  pub x : ℕ
  pub y : ℕ
  pub i : ℕ
  pub z : ℕ

-- an offer of a kind, at a column and a row, with its two numbers
abbrev pub offer : Kind → ℕ → ℕ → ℕ → ℕ → Offer
offer kind x y i z = record { kind = kind; x = x; y = y; i = i; z = z }

-- bit j of a number is set
abbrev pub has_bit : ℕ → ℕ → Bool
has_bit n j = n / 2 ^ j % 2 == 1

-- the transparency pattern concerns constant triangles and lines of the modes 0 and 1 only
abbrev pub is_masked : Kind → Bool
is_masked Gouraud = false
is_masked Constant = true
is_masked Line0 = true
is_masked Line1 = true
is_masked Line2 = false

-- inside the window, borders counted
unfoldable pub in_window : Pen → ℕ → ℕ → Bool
in_window pen x y = nat_le pen.left x && nat_le x pen.right && nat_le pen.bottom y && nat_le y pen.top

-- the bit of the transparency pattern for pixel (x, y)
abbrev pub pattern_bit : ℕ → ℕ → ℕ
pattern_bit x y = 4 * (y % 4) + x % 4

-- the transparency pattern's bit for pixel (x, y) is set
unfoldable pub shows : Pen → ℕ → ℕ → Bool
shows pen x y = has_bit pen.transparency (pattern_bit x y)

-- pixel (x, y) of a figure is not hidden by the transparency pattern: the pattern does not concern the kind, or the pixel's bit is set
abbrev pub lets_through : Pen → Kind → ℕ → ℕ → Bool
lets_through pen kind x y = not (is_masked kind) || shows pen x y

-- a pixel is offered: inside the window, inside the memory, and not hidden by the pattern
unfoldable pub offered : Pen → ℕ → Offer → Bool
offered pen rows o = in_window pen o.x o.y && in_memory pen.frame rows o.x o.y && lets_through pen o.kind o.x o.y

-- a pixel of a figure, as the list of what is offered of it: itself or nothing
unfoldable pub keep : Pen → ℕ → Offer → List Offer
keep pen rows o = cond (offered pen rows o) (o ∷ []) []

-- of some offers, those of pixel (x, y)
unfoldable pub on_pixel : ℕ → ℕ → List Offer → List Offer
on_pixel x y [] = []
on_pixel x y (o ∷ os) = cond (o.x == x && o.y == y) (o ∷ on_pixel x y os) (on_pixel x y os)
