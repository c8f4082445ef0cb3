-- Where the steps of a segment are: no step leaves the box between the two points, and both of them belong to it. Assumes nothing.
use Rattle.std.proofs.Common.{◌≡◌, ℕ, ◌+◌, ◌-◌, ◌<◌, ◌≤◌, Bool, true, false, cond, leb, sym, refl, ap, ◌∙◌, le_of_lt, arith, le-leb, leb-false, leb-true}
use native.Mathlib.Nat.{max-eq_left, max-eq_right, min-eq_left, min-eq_right}
use borrow.Author.Tests.{lt-leb}
use Rattle.picture.specs.declared.Pen.{Pen}
use Rattle.picture.specs.declared.Vertex.{Vertex}
use Rattle.picture.specs.declared.Kind.TheVariants.{Line2}
use Rattle.picture.specs.Offer.{offer, keep}
use Rattle.line.specs.Segment.{distance, towards, larger, smaller, x_leads, side_at, x_at, y_at, shade_offers}
use Rattle.line.proofs.Rounding.{side_first, side_last, number_first, number_last}

-- nowhere from a number is the number, and all of the distance is the other
pub towards_first : (from to : ℕ) → towards from to 0 ≡ from
towards_first from to = go (leb from to)
  where
    go : (t : Bool) → cond t (from + 0) (from - 0) ≡ from
    go true = omega arith
    go false = omega arith

-- all of the distance from one number towards another comes to the other
pub towards_last : (from to : ℕ) → towards from to (distance from to) ≡ to
towards_last from to = go (leb from to) refl
  where
    go : (t : Bool) → leb from to ≡ t → cond t (from + distance from to) (from - distance from to) ≡ to
    go true e = omega (arith, leb-true from to e)
    go false e = omega (arith, leb-false from to e)

module _ (a b : Vertex) where
  abbrev across : ℕ
  across = distance a.x b.x

  abbrev up : ℕ
  up = distance a.y b.y

  -- the slope where x leads, and where y does
  pub x_first : up ≤ across → (x_leads a b ≡ true) × (larger a b ≡ across) × (smaller a b ≡ up)
  unfolding x_leads larger smaller
  x_first h = (le-leb _ _ h, max-eq_left h, min-eq_right h)

  -- where the distance along y is the larger, y leads, n is that distance, and m is the one along x
  pub y_first : across < up → (x_leads a b ≡ false) × (larger a b ≡ up) × (smaller a b ≡ across)
  unfolding x_leads larger smaller
  y_first h = (lt-leb _ _ h, max-eq_right (le_of_lt h), min-eq_left (le_of_lt h))

  -- each axis has the distance that the slope says
  pub reaches : (across ≡ cond (x_leads a b) (larger a b) (smaller a b)) × (up ≡ cond (x_leads a b) (smaller a b) (larger a b))
  unfolding x_leads
  reaches = go (leb up across) refl
    where
      go : (t : Bool) → leb up across ≡ t → (across ≡ cond t (larger a b) (smaller a b)) × (up ≡ cond t (smaller a b) (larger a b))
      go true e = let s = x_first (leb-true _ _ e) in (sym s.1, sym s.2)
      go false e = let s = y_first (leb-false _ _ e) in (sym s.2, sym s.1)

  -- the smaller distance is at most the larger
  pub smaller_le : smaller a b ≤ larger a b
  unfolding smaller larger
  smaller_le = omega arith

  -- step 0 is the first point
  pub first_point : (x_at a b 0 ≡ a.x) × (y_at a b 0 ≡ a.y)
  unfolding x_at y_at
  first_point = (go (x_leads a b) a.x b.x, go' (x_leads a b) a.y b.y)
    where
      go : (t : Bool) (from to : ℕ) → towards from to (cond t 0 (side_at (larger a b) (smaller a b) 0)) ≡ from
      go true from to = towards_first from to
      go false from to = rw (side_first (larger a b) (smaller a b)) (towards_first from to)

      go' : (t : Bool) (from to : ℕ) → towards from to (cond t (side_at (larger a b) (smaller a b) 0) 0) ≡ from
      go' true from to = rw (side_first (larger a b) (smaller a b)) (towards_first from to)
      go' false from to = towards_first from to

  -- step n is the second
  pub last_point : (x_at a b (larger a b) ≡ b.x) × (y_at a b (larger a b) ≡ b.y)
  unfolding x_at y_at
  last_point =
      let e = side_last (larger a b) (smaller a b) smaller_le in (
        ap (λ (far : ℕ). towards a.x b.x (cond (x_leads a b) (larger a b) far)) e ∙ ap (towards a.x b.x) (sym reaches.0) ∙ towards_last a.x b.x,
        ap (λ (far : ℕ). towards a.y b.y (cond (x_leads a b) far (larger a b))) e ∙ ap (towards a.y b.y) (sym reaches.1) ∙ towards_last a.y b.y,
      )

  -- in mode 2 the first step is the first vertex, if there is a step to take, and the last is always the second
  module _ (pen : Pen) (rows : ℕ) where
    -- with a step to take, step 0 offers the first vertex with its own two numbers
    pub first_vertex : 0 < larger a b → shade_offers pen rows a b 0 ≡ keep pen rows (offer Line2 a.x a.y a.i a.z)
    unfolding shade_offers
    first_vertex p = rw (first_point.0, first_point.1, number_first (larger a b) a.i b.i p, number_first (larger a b) a.z b.z p)

    -- the last step offers the second vertex with its own two numbers
    pub last_vertex : shade_offers pen rows a b (larger a b) ≡ keep pen rows (offer Line2 b.x b.y b.i b.z)
    unfolding shade_offers
    last_vertex = rw (last_point.0, last_point.1, number_last (larger a b) a.i b.i, number_last (larger a b) a.z b.z)
