-- The edge that two triangles share. Run the other way, an edge exchanges what it adds and what it takes away, and of the two ways just
-- one is closed: so of the two tests just one holds, and two triangles on different sides never cover the same pixel. A pixel strictly
-- between the ends is strictly inside the other edges of both, so there the two tests alone decide. Assumes nothing.
use Rattle.std.proofs.Common.{◌≡◌, ℕ, ◌+◌, ◌<◌, ◌≤◌, Bool, true, false, not, ◌&&◌, ◌||◌, eqb, ltb, sym, refl, ap, ◌∙◌, true≢false, mul_comm, arith, ltb-false, ltb-true, le-ltb, lt-ltb, eq-eqb, ne_eqb}
use Rattle.picture.specs.declared.Vertex.{Vertex}
use Rattle.ground.proofs.Truth.{both}
use Rattle.triangle.specs.declared.Corners.{Corners}
use Rattle.triangle.specs.Edge.{plus_of, minus_of, edge_at, closed, inside, passes_edge, covers}
use Rattle.triangle.specs.Offers.{corners_of}
use Rattle.triangle.specs.Loops.{Turned, short}
use Rattle.triangle.specs.Shared.{SamePoint, Apart, HasEdge, first, second, third, Amid}
use Rattle.triangle.proofs.Plane.{next_plus, next_minus, lt_of_not}
use Rattle.triangle.proofs.Covers.{keep_in}
use Rattle.triangle.proofs.Amid.{amid_first, amid_second}

-- ---- one of the two tests

-- the other way round, what is added is taken away
swap_plus : (ax ay bx by x y : ℕ) → plus_of bx by ax ay x y ≡ minus_of ax ay bx by x y
unfolding plus_of minus_of
swap_plus ax ay bx by x y = omega arith

swap_minus : (ax ay bx by x y : ℕ) → minus_of bx by ax ay x y ≡ plus_of ax ay bx by x y
unfolding plus_of minus_of
swap_minus ax ay bx by x y = omega (arith, mul_comm ax by)

-- m < n, or they are equal and o holds: of this and of the same from n to m just one holds, if of o and s just one does
other_side : (m n : ℕ) (o s : Bool) → (m ≡ n → s ≡ not o) → ltb n m || (eqb n m && s) ≡ not (ltb m n || (eqb m n && o))
other_side m n o s h = go (ltb m n) (ltb n m) refl refl
  where
    go : (p q : Bool) → ltb m n ≡ p → ltb n m ≡ q → q || (eqb n m && s) ≡ not (p || (eqb m n && o))
    go true true u v = absurd (omega (arith, ltb-true m n u, ltb-true n m v))
    go true false u v = rw (ne_eqb n m (λ e. omega (arith, ltb-true m n u)))
    go false true u v = rw (ne_eqb m n (λ e. omega (arith, ltb-true n m v)))
    go false false u v =
        let e : m ≡ n = omega (arith, ltb-false m n u, ltb-false n m v) in
        rw (eq-eqb n m (sym e), eq-eqb m n e) (h e)

ltb_other : (m n : ℕ) → (m ≡ n → ⊥) → ltb n m ≡ not (ltb m n)
ltb_other m n h = go (ltb m n) refl
  where
    go : (p : Bool) → ltb m n ≡ p → ltb n m ≡ not p
    go true u = le-ltb n m (omega (arith, ltb-true m n u))
    go false u = lt-ltb n m (lt_of_not (λ l. h (omega (arith, ltb-false m n u))))

-- an edge is closed one way
closed_once : (a b : Vertex) → Apart a b → closed b a ≡ not (closed a b)
unfolding closed
closed_once a b h = other_side b.y a.y (ltb a.x b.x) (ltb b.x a.x) (λ e. ltb_other a.x b.x (λ d. h.so (d, sym e)))

-- of every pixel just one holds: the test of an edge, or the test of the edge the other way round
pub edge_once : (a b : Vertex) (x y : ℕ) → Apart a b → passes_edge b a x y ≡ not (passes_edge a b x y)
unfolding inside
edge_once a b x y h =
    rw (swap_plus a.x a.y b.x b.y x y, swap_minus a.x a.y b.x b.y x y)
    (other_side (edge_at a b x y).minus (edge_at a b x y).plus (closed a b) (closed b a) (λ e. closed_once a b h))

-- ---- the corners, named from an edge on

-- only the points count
same_covers : (t : Corners) (a b : Vertex) (x y : ℕ) → SamePoint t.a a → SamePoint t.b b → covers t x y ≡ covers (corners_of a b t.c t.c) x y
unfolding covers inside closed
same_covers t a b x y p q = rw (p.0, p.1, q.0, q.1)

same_turned : (t : Corners) (a b : Vertex) → SamePoint t.a a → SamePoint t.b b → Turned t → Turned (corners_of a b t.c t.c)
same_turned t a b p q k = record { turns = rw (p.0, p.1, q.0, q.1) at k.turns }

-- the same corners, named from c on
abbrev next : Corners → Corners
next t = corners_of t.c t.a t.b t.last

next_covers : (t : Corners) (x y : ℕ) → covers t x y ≡ covers (next t) x y
unfolding covers
next_covers t x y = go (passes_edge t.a t.b x y) (passes_edge t.b t.c x y) (passes_edge t.c t.a x y)
  where
    go : (p q r : Bool) → p && q && r ≡ r && p && q
    go true true true = refl
    go true true false = refl
    go true false true = refl
    go true false false = refl
    go false q true = refl
    go false q false = refl

next_turned : (t : Corners) → Turned t → Turned (next t)
next_turned t k =
    record {
      turns = rw (
        next_plus t.a.x t.a.y t.b.x t.b.y t.c.x t.c.y,
        next_minus t.a.x t.a.y t.b.x t.b.y t.c.x t.c.y,
      ) k.turns;
    }

-- the corner opposite an edge, and the same corners with the edge first
opposite : {t : Corners} {a b : Vertex} → HasEdge t a b → Vertex
opposite {t} (first p q) = t.c
opposite {t} (second p q) = t.a
opposite {t} (third p q) = t.b

abbrev from : {t : Corners} {a b : Vertex} → HasEdge t a b → Corners
from {t} {a} {b} e = corners_of a b (opposite e) (opposite e)

from_covers : (t : Corners) (a b : Vertex) (e : HasEdge t a b) (x y : ℕ) → covers t x y ≡ covers (from e) x y
unfolding opposite
from_covers t a b (first p q) x y = same_covers t a b x y p q
from_covers t a b (second p q) x y = next_covers t x y ∙ next_covers (next t) x y ∙ same_covers (next (next t)) a b x y p q
from_covers t a b (third p q) x y = next_covers t x y ∙ same_covers (next t) a b x y p q

from_turned : (t : Corners) (a b : Vertex) (e : HasEdge t a b) → Turned t → Turned (from e)
unfolding opposite
from_turned t a b (first p q) k = same_turned t a b p q k
from_turned t a b (second p q) k = same_turned (next (next t)) a b p q (next_turned (next t) (next_turned t k))
from_turned t a b (third p q) k = same_turned (next t) a b p q (next_turned t k)

-- ---- two triangles

-- a covered pixel passes the test of each edge
passes : (t : Corners) (a b : Vertex) (x y : ℕ) → HasEdge t a b → covers t x y ≡ true → passes_edge a b x y ≡ true
unfolding covers
passes t a b x y e h =
    (both (passes_edge a b x y) (passes_edge b (opposite e) x y)
    (both (passes_edge a b x y && passes_edge b (opposite e) x y) (passes_edge (opposite e) a x y) (sym (from_covers t a b e x y) ∙ h)).0
    ).0

-- two triangles on different sides of a shared edge never both cover a pixel
pub never_both : (t u : Corners) (a b : Vertex) (x y : ℕ) → HasEdge t a b → HasEdge u b a → Apart a b → covers t x y ≡ true → covers u x y ≡ true → ⊥
never_both t u a b x y et eu h ct cu = true≢false (sym (passes u b a x y eu cu) ∙ edge_once a b x y h ∙ ap not (passes t a b x y et ct))

-- ---- a pixel strictly between the ends

-- the ends are not at the same point
amid_apart : (a b : Vertex) (x y : ℕ) → Amid a b x y → Apart a b
amid_apart a b x y m = record { so = λ e. m.off_a (omega (arith, m.left, m.right, e.0), omega (arith, m.low, m.high, e.1)) }

-- the edge the other way round
amid_back : (a b : Vertex) (x y : ℕ) → Amid a b x y → Amid b a x y
amid_back a b x y m =
    record {
      on = rw (swap_plus a.x a.y b.x b.y x y, swap_minus a.x a.y b.x b.y x y) (sym m.on);
      left = omega (arith, m.left);
      right = omega (arith, m.right);
      low = omega (arith, m.low);
      high = omega (arith, m.high);
      off_a = m.off_b;
      off_b = m.off_a;
    }

strictly : {m p : ℕ} (own : Bool) → m < p → m + short own ≤ p
strictly true h = omega arith
strictly false h = omega arith

-- there a triangle covers what the test of that edge says
amid_covers : (t : Corners) (a b : Vertex) (x y : ℕ) → HasEdge t a b → Turned t → Amid a b x y → covers t x y ≡ passes_edge a b x y
unfolding covers
amid_covers t a b x y e k m =
    let c = opposite e in
    let l = from_turned t a b e k in
    from_covers t a b e x y
    ∙ rw (
      keep_in (edge_at b c x y) (closed b c) (strictly (closed b c) (amid_second a b c x y l m)),
      keep_in (edge_at c a x y) (closed c a) (strictly (closed c a) (amid_first a b c x y l m)),
    ) (go (passes_edge a b x y))
  where
    go : (p : Bool) → p && true && true ≡ p
    go true = refl
    go false = refl

-- a pixel strictly between the ends of a shared edge is covered by just one of the two triangles on its different sides
pub exactly_one : (t u : Corners) (a b : Vertex) (x y : ℕ) → HasEdge t a b → HasEdge u b a → Turned t → Turned u → Amid a b x y
    → covers u x y ≡ not (covers t x y)
exactly_one t u a b x y et eu kt ku m =
    amid_covers u b a x y eu ku (amid_back a b x y m)
    ∙ edge_once a b x y (amid_apart a b x y m)
    ∙ ap not (sym (amid_covers t a b x y et kt m))
