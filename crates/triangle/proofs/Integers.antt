-- An edge's expression, kept as what is added and what is taken away, is document 01's over the integers, and its test is on that
-- integer's sign. An integer is the gap between two numbers if adding it to the second gives the first; differences and products of gaps
-- are gaps again, and one gap has one integer. Assumes nothing.
use Rattle.std.proofs.Common.{◌≡◌, ℕ, zero, suc, ◌+◌, ◌-◌, ◌*◌, ◌≤◌, Bool, true, false, cond, ◌&&◌, ◌||◌, eqb, ltb, ℤ, pos, negsuc, ◌+ℤ◌, ◌-ℤ◌, ◌*ℤ◌, neg_ℤ, sym, refl, ap, mul_comm, add-mul, mul-add, arith, ltb-false, ltb-true, le-ltb, lt-ltb, eq-eqb, ne_eqb}
use lib.IntN.{sub_ℕ}
use Rattle.picture.specs.declared.Vertex.{Vertex}
use Rattle.triangle.specs.declared.Corners.{Corners}
use Rattle.triangle.specs.Edge.{plus_of, minus_of, edge_at, closed, inside, passes_edge, covers, amount, area_of}
use Rattle.triangle.specs.Number.{mass_of, mixed, shade}
use Rattle.triangle.specs.Integers.{expression, is_positive, is_zero, doubled_area, Rounded}
use Rattle.triangle.specs.Loops.{Turned}
use Rattle.triangle.proofs.Covers.{covered_within}

-- z = p − m
abbrev Gap : ℤ → ℕ → ℕ → Type 0
Gap (pos k) p m = p ≡ m + k
Gap (negsuc k) p m = m ≡ p + suc k

-- two numbers have the same gap as two others
gap_move : (z : ℤ) (p m q n : ℕ) → p + n ≡ q + m → Gap z p m → Gap z q n
gap_move (pos k) p m q n e g = omega arith
gap_move (negsuc k) p m q n e g = omega arith

gap_one : (z w : ℤ) (p m : ℕ) → Gap z p m → Gap w p m → z ≡ w
gap_one (pos k) (pos l) p m g h = let e : k ≡ l = omega arith in ap pos e
gap_one (pos k) (negsuc l) p m g h = absurd (omega arith)
gap_one (negsuc k) (pos l) p m g h = absurd (omega arith)
gap_one (negsuc k) (negsuc l) p m g h = let e : k ≡ l = omega arith in ap negsuc e

-- the negative, the sum, the product
gap_neg : (z : ℤ) (p m : ℕ) → Gap z p m → Gap (neg_ℤ z) m p
gap_neg (pos zero) p m g = omega arith
gap_neg (pos (suc k)) p m g = g
gap_neg (negsuc k) p m g = g

gap_sub : (p m : ℕ) → Gap (sub_ℕ p m) p m
gap_sub p m = go (ltb p m) refl
  where
    go : (b : Bool) → ltb p m ≡ b → Gap (cond b (negsuc (m - suc p)) (pos (p - m))) p m
    go true q = omega (arith, ltb-true p m q)
    go false q = omega (arith, ltb-false p m q)

gap_plus : (z w : ℤ) (p m q n : ℕ) → Gap z p m → Gap w q n → Gap (z +ℤ w) (p + q) (m + n)
gap_plus (pos k) (pos l) p m q n g h = omega arith
gap_plus (pos k) (negsuc l) p m q n g h = gap_move (sub_ℕ k (suc l)) k (suc l) (p + q) (m + n) (omega arith) (gap_sub k (suc l))
gap_plus (negsuc k) (pos l) p m q n g h = gap_move (sub_ℕ l (suc k)) l (suc k) (p + q) (m + n) (omega arith) (gap_sub l (suc k))
gap_plus (negsuc k) (negsuc l) p m q n g h = omega arith

times : (p m q n k l : ℕ) → p ≡ m + k → q ≡ n + l → p * q + m * n ≡ p * n + m * q + k * l
times p m q n k l e f = rw (e, f) (simp (add-mul, mul-add) (omega arith))

gap_times : (z w : ℤ) (p m q n : ℕ) → Gap z p m → Gap w q n → Gap (z *ℤ w) (p * q + m * n) (p * n + m * q)
gap_times (pos k) (pos l) p m q n g h = times p m q n k l g h
gap_times (pos k) (negsuc l) p m q n g h = gap_neg (pos (k * suc l)) _ _ (times p m n q k (suc l) g h)
gap_times (negsuc k) (pos l) p m q n g h = gap_neg (pos (suc k * l)) _ _ (omega (arith, times m p q n (suc k) l g h))
gap_times (negsuc k) (negsuc l) p m q n g h = omega (arith, times m p n q (suc k) (suc l) g h)

-- a difference of two integers, and of two numbers
gap_minus : (z w : ℤ) (p m q n : ℕ) → Gap z p m → Gap w q n → Gap (z -ℤ w) (p + n) (m + q)
gap_minus z w p m q n g h = gap_plus z (neg_ℤ w) p m n q g (gap_neg w q n h)

gap_of : (p m : ℕ) → Gap (pos p -ℤ pos m) p m
gap_of p m = gap_move (pos p -ℤ pos m) (p + 0) (0 + m) p m (omega arith) (gap_minus (pos p) (pos m) p 0 m 0 (omega arith) (omega arith))

-- ---- an edge

-- what is added and what is taken away are as far apart as document 01's expression says
edge_gap : (a b : Vertex) (x y : ℕ) → Gap (expression a b x y) (edge_at a b x y).plus (edge_at a b x y).minus
unfolding plus_of minus_of
edge_gap a b x y =
    gap_move (expression a b x y) _ _ _ _ (omega (arith, mul_comm a.x b.y, mul_comm a.x a.y))
    (gap_minus
    ((pos b.x -ℤ pos a.x) *ℤ (pos y -ℤ pos a.y))
    ((pos b.y -ℤ pos a.y) *ℤ (pos x -ℤ pos a.x))
    _ _ _ _
    (gap_times (pos b.x -ℤ pos a.x) (pos y -ℤ pos a.y) _ _ _ _ (gap_of b.x a.x) (gap_of y a.y))
    (gap_times (pos b.y -ℤ pos a.y) (pos x -ℤ pos a.x) _ _ _ _ (gap_of b.y a.y) (gap_of x a.x)))

-- what is added less what is taken away is the expression
pub edge_integer : (a b : Vertex) (x y : ℕ) → pos (edge_at a b x y).plus -ℤ pos (edge_at a b x y).minus
    ≡ (pos b.x -ℤ pos a.x) *ℤ (pos y -ℤ pos a.y) -ℤ (pos b.y -ℤ pos a.y) *ℤ (pos x -ℤ pos a.x)
edge_integer a b x y =
    gap_one (pos (edge_at a b x y).plus -ℤ pos (edge_at a b x y).minus) (expression a b x y) _ _
    (gap_of (edge_at a b x y).plus (edge_at a b x y).minus)
    (edge_gap a b x y)

-- ---- its sign

gap_positive : (z : ℤ) (p m : ℕ) → Gap z p m → ltb m p ≡ is_positive z
gap_positive (pos zero) p m g = le-ltb m p (omega arith)
gap_positive (pos (suc k)) p m g = lt-ltb m p (omega arith)
gap_positive (negsuc k) p m g = le-ltb m p (omega arith)

gap_zero : (z : ℤ) (p m : ℕ) → Gap z p m → eqb m p ≡ is_zero z
gap_zero (pos zero) p m g = eq-eqb m p (omega arith)
gap_zero (pos (suc k)) p m g = ne_eqb m p (λ e. omega arith)
gap_zero (negsuc k) p m g = ne_eqb m p (λ e. omega arith)

-- the test of an edge: the expression is positive, or is zero on an edge that runs downward or runs level to the right
pub edge_sign : (a b : Vertex) (x y : ℕ) → passes_edge a b x y ≡ is_positive (expression a b x y) || (is_zero (expression a b x y) && closed a b)
unfolding inside
edge_sign a b x y = rw (gap_positive (expression a b x y) _ _ (edge_gap a b x y), gap_zero (expression a b x y) _ _ (edge_gap a b x y))

-- ---- the doubled area and the numbers

-- where an expression is not negative, its amount is it
amount_integer : (a b : Vertex) (x y : ℕ) → (edge_at a b x y).minus ≤ (edge_at a b x y).plus → pos (amount (edge_at a b x y)) ≡ expression a b x y
amount_integer a b x y h = gap_one (pos (amount (edge_at a b x y))) (expression a b x y) (edge_at a b x y).plus (edge_at a b x y).minus (omega (arith, h)) (edge_gap a b x y)

module _ (t : Corners) (k : Turned t) where
  -- the doubled area of corners that turn anticlockwise is document 01's D
  pub area_integer : pos (area_of t) ≡ doubled_area t
  area_integer = amount_integer t.a t.b t.c.x t.c.y (omega (arith, k.turns))

  -- the Gouraud number of a covered pixel is document 01's (2 N + D) divided by 2 D, rounded down
  pub number_integer : (p q r x y : ℕ) → covers t x y ≡ true → Rounded t p q r x y (shade t p q r x y)
  unfolding shade mixed
  number_integer p q r x y h =
      let w = covered_within t x y h in
      record {
        sum = mass_of (amount (edge_at t.b t.c x y)) (amount (edge_at t.c t.a x y)) (amount (edge_at t.a t.b x y)) (area_of t) p q r;
        area = area_of t;
        sum_is = rw (sym (amount_integer t.b t.c x y w.bc), sym (amount_integer t.c t.a x y w.ca), sym (amount_integer t.a t.b x y w.ab), sym area_integer) refl;
        area_is = area_integer;
        number_is = refl;
      }
