-- Document 01's expressions of a triangle as it writes them, over the integers: the laws of `Integers` in proofs/ tie to them what the other
-- definitions say in numbers from 0 on.
use Rattle.std.specs.Prelude.{◌≡◌, ℕ, zero, suc, ◌*◌, ◌/◌, Bool, true, false, ℤ, pos, negsuc, ◌+ℤ◌, ◌-ℤ◌, ◌*ℤ◌}
use Rattle.picture.specs.declared.Vertex.{Vertex}
use Rattle.triangle.specs.declared.Corners.{Corners}

-- document 01's expression of the edge from a to b at pixel (x, y), over the integers
abbrev pub expression : Vertex → Vertex → ℕ → ℕ → ℤ
expression a b x y = (pos b.x -ℤ pos a.x) *ℤ (pos y -ℤ pos a.y) -ℤ (pos b.y -ℤ pos a.y) *ℤ (pos x -ℤ pos a.x)

-- the signs of an integer
abbrev pub is_positive : ℤ → Bool
is_positive (pos zero) = false
is_positive (pos (suc k)) = true
is_positive (negsuc k) = false

-- whether an integer is zero
abbrev pub is_zero : ℤ → Bool
is_zero (pos zero) = true
is_zero (pos (suc k)) = false
is_zero (negsuc k) = false

-- D, the doubled area: the expression of one edge at the corner opposite
abbrev pub doubled_area : Corners → ℤ
doubled_area t = expression t.a t.b t.c.x t.c.y

-- N, the sum of each corner's number times the expression of the edge opposite it
abbrev pub weighted : Corners → ℕ → ℕ → ℕ → ℕ → ℕ → ℤ
weighted t p q r x y =
    pos p *ℤ expression t.b t.c x y +ℤ pos q *ℤ expression t.c t.a x y +ℤ pos r *ℤ expression t.a t.b x y

-- a number is 2 N + D divided by 2 D, rounded down: neither is negative there
pub record Rounded (t : Corners) (p q r x y number : ℕ) : Type 0 where
  pub sum : ℕ
  pub area : ℕ
  pub sum_is : pos sum ≡ pos 2 *ℤ weighted t p q r x y +ℤ doubled_area t
  pub area_is : pos area ≡ doubled_area t
  pub number_is : number ≡ sum / (2 * area)
