-- Which pixels corners that turn anticlockwise cover, and what a covered pixel is good for.
-- Assumes nothing.
use Rattle.std.proofs.Common.{◌≡◌, ℕ, ◌+◌, ◌≤◌, min, max, Bool, true, false, ◌&&◌, ◌||◌, eqb, ltb, sym, refl, true≢false, arith, ltb-false, ltb-true, lt-ltb, eq-eqb, eqb-true}
use Rattle.ground.proofs.Truth.{both}
use Rattle.triangle.specs.declared.Corners.{Corners}
use Rattle.triangle.specs.declared.Edge.{Edge}
use Rattle.triangle.specs.declared.Edges.{Edges}
use Rattle.triangle.specs.Edge.{edge_at, inside, passes_edge, covers, area_of}
use Rattle.triangle.specs.Loops.{edges_at, Turned, Ready, short, Keeps}
use Rattle.triangle.proofs.Plane.{weights, across, upward}

-- ---- the test of an edge

-- an edge leaves a pixel inside just where plus exceeds minus by what it must
pub keep_in : (e : Edge) (own : Bool) → e.minus + short own ≤ e.plus → inside e own ≡ true
unfolding inside
keep_in e false h = rw (lt-ltb e.minus e.plus (omega arith))
keep_in e true h = go (ltb e.minus e.plus) refl
  where
    go : (b : Bool) → ltb e.minus e.plus ≡ b → b || (eqb e.minus e.plus && true) ≡ true
    go true q = refl
    go false q =
        let same : e.minus ≡ e.plus = omega (arith, ltb-false e.minus e.plus q) in
        rw (eq-eqb e.minus e.plus same)

-- and where the edge leaves a pixel inside, plus exceeds minus by what it must
pub in_keep : (e : Edge) (own : Bool) → inside e own ≡ true → e.minus + short own ≤ e.plus
unfolding inside
in_keep e own h = go (ltb e.minus e.plus) own refl h
  where
    go : (b own : Bool) → ltb e.minus e.plus ≡ b → b || (eqb e.minus e.plus && own) ≡ true → e.minus + short own ≤ e.plus
    go true true q h = omega (arith, ltb-true e.minus e.plus q)
    go true false q h = omega (arith, ltb-true e.minus e.plus q)
    go false true q h = omega (arith, eqb-true e.minus e.plus (both (eqb e.minus e.plus) true h).0)
    go false false q h = absurd (true≢false (sym (both (eqb e.minus e.plus) false h).1))

-- ---- a covered pixel

-- all three edges keep a covered pixel
pub keeps_of : (t : Corners) (x y : ℕ) → covers t x y ≡ true → (Keeps t.a t.b x y) × (Keeps t.b t.c x y) × (Keeps t.c t.a x y)
unfolding covers
keeps_of t x y h =
    let k = both (passes_edge t.a t.b x y && passes_edge t.b t.c x y) (passes_edge t.c t.a x y) h in
    let l = both (passes_edge t.a t.b x y) (passes_edge t.b t.c x y) k.0 in (
      record { so = in_keep (edge_at t.a t.b x y) _ l.0 },
      record { so = in_keep (edge_at t.b t.c x y) _ l.1 },
      record { so = in_keep (edge_at t.c t.a x y) _ k.1 },
    )

-- a pixel that all three edges keep is covered
pub covered_of : (t : Corners) (x y : ℕ) → Keeps t.a t.b x y → Keeps t.b t.c x y → Keeps t.c t.a x y → covers t x y ≡ true
unfolding covers
covered_of t x y p q r =
    rw (
      keep_in (edge_at t.a t.b x y) _ p.so,
      keep_in (edge_at t.b t.c x y) _ q.so,
      keep_in (edge_at t.c t.a x y) _ r.so,
    )

-- no edge leaves a covered pixel outside
pub record Within (e : Edges) : Type 0 where
  pub ab : e.ab.minus ≤ e.ab.plus
  pub bc : e.bc.minus ≤ e.bc.plus
  pub ca : e.ca.minus ≤ e.ca.plus

-- at a covered pixel the expression of no edge is negative
pub covered_within : (t : Corners) (x y : ℕ) → covers t x y ≡ true → Within (edges_at t x y)
covered_within t x y h =
    let k = keeps_of t x y h in
    record { ab = omega (arith, k.0.so); bc = omega (arith, k.1.so); ca = omega (arith, k.2.so) }

module _ (t : Corners) (k : Turned t) (x y : ℕ) (h : covers t x y ≡ true) where
  w : Within (edges_at t x y)
  w = covered_within t x y h

  -- a covered pixel has all that its numbers lean on, where the doubled area is at most 12,884,508,675
  pub covered_ready : area_of t ≤ 12884508675 → Ready t (area_of t) (edges_at t x y)
  covered_ready fits =
      record {
        area = refl;
        some = omega (arith, k.turns);
        small = fits;
        ab = w.ab;
        bc = w.bc;
        ca = w.ca;
        whole = weights t.a.x t.a.y t.b.x t.b.y t.c.x t.c.y x y k.turns w.ab w.bc w.ca;
      }

  -- a covered pixel lies in the corners' box
  pub covered_upward : (min t.a.y (min t.c.y t.b.y) ≤ y) × (y ≤ max t.a.y (max t.c.y t.b.y))
  covered_upward = upward t.a.x t.a.y t.b.x t.b.y t.c.x t.c.y x y k.turns w.ab w.bc w.ca

  -- and its column lies between the least and the greatest of the corners
  pub covered_across : (min t.a.x (min t.b.x t.c.x) ≤ x) × (x ≤ max t.a.x (max t.b.x t.c.x))
  covered_across = across t.a.x t.a.y t.b.x t.b.y t.c.x t.c.y x y k.turns w.ab w.bc w.ca

-- a test that both holds and does not
pub off : {A : Type 0} → false ≡ true → A
off h = absurd (true≢false (sym h))

-- what the numbers of a covered pixel lean on, by the computed edges and area
pub ready_of : (t : Corners) (x y d : ℕ) (e : Edges) → Turned t → d ≡ area_of t → d ≤ 12884508675 → covers t x y ≡ true → e ≡ edges_at t x y → Ready t d e
ready_of t x y d e k p l h at = rw (p, at) (covered_ready t k x y h (rw p at l))
