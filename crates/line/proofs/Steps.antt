-- One step of a segment: where it is by the slope that was computed, and that it counts one pixel at most. Assumes nothing.
use Rattle.std.proofs.Common.{◌≡◌, ℕ, ◌+◌, ◌-◌, ◌%◌, ◌<◌, ◌≤◌, Bool, true, false, cond, leb, ◌⊎◌, List, [], sym, refl, ap, ◌∙◌, inl, inr, zero-le, arith, leb-false}
use Rattle.std.proofs.Math.Path.{path_j}
use Rattle.picture.specs.declared.Pen.{Pen}
use Rattle.picture.specs.declared.Vertex.{Vertex}
use Rattle.picture.specs.Offer.{Offer, keep}
use Rattle.picture.specs.Picture.{Picture, picture, drawn}
use Rattle.picture.proofs.Fold.{drawn_nil}
use Rattle.picture.proofs.Offers.{keep_counts}
use Rattle.line.specs.declared.slope.Slope.{Slope}
use Rattle.line.specs.Segment.{distance, towards, larger, smaller, x_leads, side_at, x_at, y_at}
use Rattle.line.specs.Step.{slope_of, OnStep}
use Rattle.line.proofs.Rounding.{side_le}
use Rattle.line.proofs.Segments.{reaches}

-- ---- a slope

-- is that of its two points, by what it says of itself
pub slope_is : (s : Slope) → s ≡ slope_of s.a s.b
slope_is s =
    path_j (λ (l : Bool) (e : x_leads s.a s.b ≡ l). record { a = s.a; b = s.b; level = l; n = s.n; m = s.m; leads = e; longer = s.longer; shorter = s.shorter } ≡ slope_of s.a s.b)
    (path_j (λ (n : ℕ) (e : larger s.a s.b ≡ n). record { a = s.a; b = s.b; level = x_leads s.a s.b; n = n; m = s.m; leads = refl; longer = e; shorter = s.shorter } ≡ slope_of s.a s.b)
    (path_j (λ (m : ℕ) (e : smaller s.a s.b ≡ m). record { a = s.a; b = s.b; level = x_leads s.a s.b; n = larger s.a s.b; m = m; leads = refl; longer = refl; shorter = e } ≡ slope_of s.a s.b)
    refl
    s.shorter)
    s.longer)
    s.leads

-- so up to the last step each is one of the segment
pub on_step : (s : Slope) {k : ℕ} → k ≤ s.n → OnStep s.a s.b s k
on_step s h = record { slope = slope_is s; step = h }

-- ---- where step k is

-- far along x and far along y is the pixel of step k, and neither leaves the box between the two points
pub record Lands (a b : Vertex) (k across up : ℕ) : Type 0 where
  pub across_fits : across ≤ distance a.x b.x
  pub up_fits : up ≤ distance a.y b.y
  pub x : towards a.x b.x across ≡ x_at a b k
  pub y : towards a.y b.y up ≡ y_at a b k

module _ (a b : Vertex) (s : Slope) (k side : ℕ) (h : OnStep a b s k) (e : side ≡ side_at s.n s.m k) where
  side_is : side ≡ side_at (larger a b) (smaller a b) k
  side_is = e ∙ ap (λ (s : Slope). side_at s.n s.m k) h.slope

  k_le : k ≤ larger a b
  k_le = rw h.slope at h.step

  side_fits : side ≤ smaller a b
  side_fits = rw side_is (side_le (larger a b) (smaller a b) k k_le)

  -- where x leads, step k is k far along x, and as far along y as it moves to the side
  pub lands_level : s.level ≡ true → Lands a b k k side
  unfolding x_at y_at
  lands_level t =
      let u : x_leads a b ≡ true = sym (ap (λ (s : Slope). s.level) h.slope) ∙ t in
      let r = rw u at (reaches a b) in
      record { across_fits = omega (arith, r.0, k_le); up_fits = omega (arith, r.1, side_fits); x = rw u; y = rw (u, side_is) }

  -- where y leads, step k is k far along y, and as far along x as it moves to the side
  pub lands_steep : s.level ≡ false → Lands a b k side k
  unfolding x_at y_at
  lands_steep t =
      let u : x_leads a b ≡ false = sym (ap (λ (s : Slope). s.level) h.slope) ∙ t in
      let r = rw u at (reaches a b) in
      record { across_fits = omega (arith, r.0, side_fits); up_fits = omega (arith, r.1, k_le); x = rw (u, side_is); y = rw u }

-- where x leads, two steps are as many columns apart as steps
pub steps_apart : (a b : Vertex) (s : Slope) (k j : ℕ) → OnStep a b s k → OnStep a b s j → s.level ≡ true → k < j
    → (x_at a b j ≡ x_at a b k + (j - k)) ⊎ (x_at a b k ≡ x_at a b j + (j - k))
steps_apart a b s k j h l t q =
    let u = lands_level a b s k _ h refl t in
    let v = lands_level a b s j _ l refl t in
    rw (← u.x, ← v.x) (go (leb a.x b.x) refl v.across_fits)
  where
    go : (t : Bool) → leb a.x b.x ≡ t → j ≤ distance a.x b.x
        → (cond t (a.x + j) (a.x - j) ≡ cond t (a.x + k) (a.x - k) + (j - k)) ⊎ (cond t (a.x + k) (a.x - k) ≡ cond t (a.x + j) (a.x - j) + (j - k))
    go true e d = inl (omega arith)
    go false e d = let u = leb-false a.x b.x e in inr (omega arith)

-- ---- the position in the pattern

-- so far modulo 32 it is the same
pub position_is : (steps k : ℕ) → (steps + k % 32) % 32 ≡ (steps + k) % 32
position_is steps k = omega arith

-- ---- one pixel at most passes

-- a pixel that was put is what the step offers, and counts one at most
pub put_step : (pen : Pen) (rows : ℕ) (o : Offer) (i₀ z₀ : List ℕ) {os : List Offer} {i z : List ℕ} {r : ℕ} → keep pen rows o ≡ os
    → picture i z r ≡ drawn pen (keep pen rows o) (picture i₀ z₀ 0) → (picture i z r ≡ drawn pen os (picture i₀ z₀ 0)) × (r ≤ 1)
put_step pen rows o i₀ z₀ e d = (
  d ∙ ap (λ (os : List Offer). drawn pen os (picture i₀ z₀ 0)) e,
  rw (ap (λ (p : Picture). p.passed) d) (keep_counts pen rows o (picture i₀ z₀ 0)),
)

-- a step that offers nothing puts nothing
pub no_step : (pen : Pen) (i₀ z₀ : List ℕ) {os : List Offer} → os ≡ [] → (picture i₀ z₀ 0 ≡ drawn pen os (picture i₀ z₀ 0)) × (0 ≤ 1)
no_step pen i₀ z₀ e = (sym (drawn_nil pen _) ∙ ap (λ (os : List Offer). drawn pen os (picture i₀ z₀ 0)) (sym e), zero-le)
