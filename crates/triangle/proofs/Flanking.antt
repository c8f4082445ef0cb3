-- Two edges bound a row: an edge whose ends both lie below the row, or both above it, leaves nothing outside that the two others keep. So a row between the lowest
-- corner and the next is bounded by the edges at the lowest, and above that the third edge takes the place of the one that has ended. Assumes nothing.
use Rattle.std.proofs.Common.{◌≡◌, ℕ, ◌+◌, ◌-◌, ◌*◌, ◌/◌, ◌<◌, ◌≤◌, min, max, Bool, true, false, ◌&&◌, eqb, ltb, sym, refl, ap, ◌∙◌, le_of_lt, mul-le-mul_right, mul_assoc, mul_comm, add-mul, add-sub_of_le, mul-zero, mul-add, mul_left_comm, arith, le-ltb, lt-ltb, eqb-true}
use Rattle.picture.specs.declared.Vertex.{Vertex}
use Rattle.picture.specs.declared.Pen.{Pen}
use Rattle.triangle.specs.declared.Corners.{Corners}
use Rattle.triangle.specs.declared.Side.{Side}
use Rattle.triangle.specs.declared.Flanks.{Flanks}
use Rattle.triangle.specs.declared.Limits.{Limits}
use Rattle.triangle.specs.Edge.{plus_of, minus_of, closed, covers}
use Rattle.triangle.specs.Loops.{short, Keeps, Stands, Bounds, raised_of, Crosses, Cuts, CutsAll, Spanned, Crossed, turn_of, taken_of, Flanked}
use Rattle.triangle.proofs.Plane.{whole, next_plus, next_minus}
use Rattle.triangle.proofs.Sides.{short_low, bound_at, side_next, edge_low, either}
use Rattle.triangle.proofs.Covers.{keeps_of, covered_of}

-- ---- the third edge

-- the corners, weighted by the edges opposite, add up to the pixel's row
level : (ax ay bx by cx cy x y : ℕ) →
    plus_of bx by cx cy x y * ay + plus_of cx cy ax ay x y * by + plus_of ax ay bx by x y * cy + minus_of ax ay bx by cx cy * y
    ≡ minus_of bx by cx cy x y * ay + minus_of cx cy ax ay x y * by + minus_of ax ay bx by x y * cy + plus_of ax ay bx by cx cy * y
unfolding plus_of minus_of
level ax ay bx by cx cy x y = simp (add-mul, mul_assoc, mul_comm, mul_left_comm) (omega arith)

-- weights of two corners that add up to more than the whole, and the third corner's that is below 0 by as much: no row below both corners, and none above both,
-- has their mean
module _ (u v g d p q r y : ℕ) (sum : u + v ≡ d + g) (mean : u * p + v * q ≡ d * y + g * r) (some : 0 < d) where
  spread : y * u + y * v ≡ y * d + y * g
  spread = sym (mul-add y u v) ∙ ap (λ (k : ℕ). y * k) sum ∙ mul-add y d g

  not_below : y < p → y < q → r ≤ y → ⊥
  not_below hp hq hr =
      omega (
        arith,
        spread,
        mul-le-mul_right {m = y + 1} {n = p} u (omega arith),
        mul-le-mul_right {m = y + 1} {n = q} v (omega arith),
        mul-le-mul_right g hr,
        add-mul y 1 u,
        add-mul y 1 v,
        mul_comm p u,
        mul_comm q v,
        mul_comm y d,
        mul_comm r g,
      )

  not_above : p < y → q < y → y ≤ r → ⊥
  not_above hp hq hr =
      omega (
        arith,
        spread,
        mul-le-mul_right {m = p + 1} {n = y} u (omega arith),
        mul-le-mul_right {m = q + 1} {n = y} v (omega arith),
        mul-le-mul_right g hr,
        add-mul p 1 u,
        add-mul q 1 v,
        mul_comm p u,
        mul_comm q v,
        mul_comm y d,
        mul_comm r g,
      )

-- a greater number times k is the lesser times k and their difference times k
split : (k : ℕ) {p m : ℕ} → m ≤ p → p * k ≡ m * k + (p - m) * k
split k {p} {m} h = ap (λ (q : ℕ). q * k) (sym (add-sub_of_le h)) ∙ add-mul m (p - m) k

module _ (a b c : Vertex) (x y : ℕ)
    (turns : minus_of a.x a.y b.x b.y c.x c.y < plus_of a.x a.y b.x b.y c.x c.y) where
  all : plus_of b.x b.y c.x c.y x y + plus_of c.x c.y a.x a.y x y + plus_of a.x a.y b.x b.y x y
      + minus_of a.x a.y b.x b.y c.x c.y
      ≡ minus_of b.x b.y c.x c.y x y + minus_of c.x c.y a.x a.y x y + minus_of a.x a.y b.x b.y x y
      + plus_of a.x a.y b.x b.y c.x c.y
  all = whole a.x a.y b.x b.y c.x c.y x y

  -- a row below the edge from b to c, and not below a: what the edges at a keep, that edge keeps
  third_below : a.y ≤ y → y < b.y → y < c.y → Keeps a b x y → Keeps c a x y → Keeps b c x y
  third_below ha hb hc kab kca =
      either (minus_of b.x b.y c.x c.y x y) (plus_of b.x b.y c.x c.y x y)
      (λ l. record { so = omega (arith, l, short_low (closed b c)) })
      (λ l.
      let ab : minus_of a.x a.y b.x b.y x y ≤ plus_of a.x a.y b.x b.y x y = omega (arith, kab.so) in
      let ca : minus_of c.x c.y a.x a.y x y ≤ plus_of c.x c.y a.x a.y x y = omega (arith, kca.so) in
      absurd (not_below
      (plus_of c.x c.y a.x a.y x y - minus_of c.x c.y a.x a.y x y)
      (plus_of a.x a.y b.x b.y x y - minus_of a.x a.y b.x b.y x y)
      (minus_of b.x b.y c.x c.y x y - plus_of b.x b.y c.x c.y x y)
      (plus_of a.x a.y b.x b.y c.x c.y - minus_of a.x a.y b.x b.y c.x c.y)
      b.y c.y a.y y (omega (arith, all, ab, ca, l, turns))
      (omega (arith, level a.x a.y b.x b.y c.x c.y x y, split b.y ca, split c.y ab, split a.y l, split y (le_of_lt turns)))
      (omega (arith, turns)) hb hc ha))

  -- a row above the edge from a to b, and not above c: what the edges at c keep, that edge keeps
  third_above : a.y < y → b.y < y → y ≤ c.y → Keeps b c x y → Keeps c a x y → Keeps a b x y
  third_above ha hb hc kbc kca =
      either (minus_of a.x a.y b.x b.y x y) (plus_of a.x a.y b.x b.y x y)
      (λ l. record { so = omega (arith, l, short_low (closed a b)) })
      (λ l.
      let bc : minus_of b.x b.y c.x c.y x y ≤ plus_of b.x b.y c.x c.y x y = omega (arith, kbc.so) in
      let ca : minus_of c.x c.y a.x a.y x y ≤ plus_of c.x c.y a.x a.y x y = omega (arith, kca.so) in
      absurd (not_above
      (plus_of b.x b.y c.x c.y x y - minus_of b.x b.y c.x c.y x y)
      (plus_of c.x c.y a.x a.y x y - minus_of c.x c.y a.x a.y x y)
      (minus_of a.x a.y b.x b.y x y - plus_of a.x a.y b.x b.y x y)
      (plus_of a.x a.y b.x b.y c.x c.y - minus_of a.x a.y b.x b.y c.x c.y)
      a.y b.y c.y y (omega (arith, all, bc, ca, l, turns))
      (omega (arith, level a.x a.y b.x b.y c.x c.y x y, split a.y bc, split b.y ca, split c.y l, split y (le_of_lt turns)))
      (omega (arith, turns)) ha hb hc))

-- ---- a side between its ends

-- between its ends an edge that falls takes away more than it adds, by its two columns in the shares of the row
fall_share : (ax ay bx by y : ℕ) → by ≤ y → y ≤ ay → minus_of ax ay bx by 0 y ≡ plus_of ax ay bx by 0 y + (bx * (ay - y) + ax * (y - by))
unfolding plus_of minus_of
fall_share ax ay bx by y h k =
    omega (
      arith,
      mul-add bx y (ay - y),
      ap (λ (n : ℕ). bx * n) (add-sub_of_le k),
      mul-add ax by (y - by),
      ap (λ (n : ℕ). ax * n) (add-sub_of_le h),
      mul-zero ay,
      mul-zero by,
    )

-- and one that rises adds more than it takes away
rise_share : (ax ay bx by y : ℕ) → ay ≤ y → y ≤ by → plus_of ax ay bx by 0 y ≡ minus_of ax ay bx by 0 y + (bx * (y - ay) + ax * (by - y))
unfolding plus_of minus_of
rise_share ax ay bx by y h k =
    omega (
      arith,
      mul-add bx ay (y - ay),
      ap (λ (n : ℕ). bx * n) (add-sub_of_le h),
      mul-add ax y (by - y),
      ap (λ (n : ℕ). ax * n) (add-sub_of_le k),
      mul-zero ay,
      mul-zero by,
    )

-- shares of two columns are at most as many times the last column
share_low : (p q m n : ℕ) → p ≤ 65535 → q ≤ 65535 → p * m + q * n ≤ 65535 * (m + n)
share_low p q m n hp hq = omega (arith, mul-le-mul_right m hp, mul-le-mul_right n hq)

-- an edge that falls is closed, and one that rises is not
fall_closed : (a b : Vertex) → b.y < a.y → short (closed a b) ≡ 0
unfolding closed
fall_closed a b h = rw (lt-ltb b.y a.y h)

rise_open : (a b : Vertex) → a.y < b.y → short (closed a b) ≡ 1
unfolding closed
rise_open a b h = rw (le-ltb b.y a.y (le_of_lt h)) (go (eqb b.y a.y) refl)
  where
    go : (e : Bool) → eqb b.y a.y ≡ e → short (e && ltb a.x b.x) ≡ 1
    go true q = absurd (omega (arith, eqb-true b.y a.y q))
    go false q = refl

-- coordinates of 16 bits
pub record Small (v : Vertex) : Type 0 where
  pub x : v.x ≤ 65535
  pub y : v.y ≤ 65535

module _ (a b : Vertex) (y : ℕ) (s : Side) (k : Stands a b y s) (sa : Small a) (sb : Small b) where
  -- an edge that falls, in a row between its ends, bounds it at a column
  pub fall_crosses : b.y < a.y → b.y ≤ y → y ≤ a.y → Crosses s
  fall_crosses h l u =
      let tall : s.height.tall ≡ a.y - b.y = omega (arith, k.height.is) in
      let some : 0 < s.height.tall = omega (arith, tall) in
      let e = edge_low a b y sa.x sa.y sb.x sb.y (omega (arith, sa.y)) in
      let m = share_low b.x a.x (a.y - y) (y - b.y) sb.x sa.x in
      record {
        some = some;
        low = omega (arith, tall, sa.y);
        near = omega (arith, (k.falls h).0, k.fits, tall, fall_share a.x a.y b.x b.y y l u, fall_closed a b h, m, e.0, e.1, sa.y);
        least = k.height.least some;
        most = k.height.most some;
      }

  -- and so does one that rises
  pub rise_crosses : a.y < b.y → a.y ≤ y → y ≤ b.y → Crosses s
  rise_crosses h l u =
      let tall : s.height.tall ≡ b.y - a.y = omega (arith, k.height.is) in
      let some : 0 < s.height.tall = omega (arith, tall) in
      let e = edge_low a b y sa.x sa.y sb.x sb.y (omega (arith, sb.y)) in
      let m = share_low b.x a.x (y - a.y) (b.y - y) sb.x sa.x in
      record {
        some = some;
        low = omega (arith, tall, sb.y);
        near = omega (arith, (k.rises (le_of_lt h)).0, k.fits, tall, rise_share a.x a.y b.x b.y y l u, rise_open a b h, m, e.0, e.1, sb.y);
        least = k.height.least some;
        most = k.height.most some;
      }

  -- the quotient of its number by its height is its bound
  pub crosses_bound : (r : ℕ) → y ≤ 65535 → Crosses s → r ≡ s.at / s.height.tall → Bounds a b y r
  crosses_bound r low c e =
      let n = edge_low a b y sa.x sa.y sb.x sb.y low in
      bound_at a b y s k c.low n.0 n.1 r c.near e

  -- a row on
  stands_on : y ≤ 65535 → Stands a b (y + 1) (raised_of s)
  stands_on low =
      let n = edge_low a b y sa.x sa.y sb.x sb.y low in
      side_next a b y s _ k (omega (arith, k.height.is, sa.y, sb.y)) n.0 n.1 sa.x sb.x refl

-- ---- a row between its edges

-- of row y the corners cover the columns from l on and below r
pub record Tells (t : Corners) (y l r : ℕ) : Type 0 where
  pub inner : (x : ℕ) → x < 65536 → l ≤ x → x < r → covers t x y ≡ true
  pub outer : (x : ℕ) → x < 65536 → covers t x y ≡ true → (l ≤ x) × (x < r)

module _ (t : Corners) (y : ℕ) (f : Flanks) (w : Crossed t y) (k : Flanked t y f) (sa : Small t.a) (sb : Small t.b) (sc : Small t.c) where
  low : y ≤ 65535
  low = omega (arith, w.below, sb.y, sc.y)

  -- the rows above the turn of corners whose last two are level: there are none
  apart : {A : Type 0} → turn_of t < y → (t.b.y < t.c.y → A) → (t.c.y < t.b.y → A) → A
  apart h p q = either t.b.y t.c.y p (λ l. q (omega (arith, w.below)))

  left_crosses : y < turn_of t → Crosses f.left
  left_crosses h = fall_crosses t.c t.a y f.left (k.left (omega arith)) sc sa (omega (arith, w.above)) w.above (omega arith)

  right_crosses : y < turn_of t → Crosses f.right
  right_crosses h = rise_crosses t.a t.b y f.right (k.right (omega arith)) sa sb (omega (arith, w.above)) w.above (omega arith)

  -- in a row in which no edge ends, both edges have a column
  pub flank_crosses : (y ≡ turn_of t → ⊥) → (Crosses f.left) × (Crosses f.right)
  flank_crosses n =
      either y (turn_of t) (λ h. (left_crosses h, right_crosses h))
      (λ h.
      let g : turn_of t < y = either (turn_of t) y (λ (p : turn_of t < y). p) (λ p. absurd (n (omega arith))) in
      apart g
      (λ l. (
        fall_crosses t.c t.a y f.left (k.rises g l).0 sc sa (omega (arith, w.lowest.of_b)) w.above (omega (arith, w.below)),
        rise_crosses t.b t.c y f.right (k.rises g l).1 sb sc l (omega arith) (omega (arith, w.below)),
      ))
      (λ l. (
        fall_crosses t.b t.c y f.left (k.falls g l).0 sb sc l (omega arith) (omega (arith, w.below)),
        rise_crosses t.a t.b y f.right (k.falls g l).1 sa sb (omega (arith, w.lowest.of_c)) w.above (omega (arith, w.below)),
      )))

  -- and these two columns tell what is covered
  module _ (n : y ≡ turn_of t → ⊥) (l r : ℕ) (el : l ≡ f.left.at / f.left.height.tall) (er : r ≡ f.right.at / f.right.height.tall) where
    below_tells : y < turn_of t → Tells t y l r
    below_tells h =
        let c = flank_crosses n in
        let p = (crosses_bound t.c t.a y f.left (k.left (omega arith)) sc sa l low c.0 el).falls (omega (arith, w.above)) in
        let q = (crosses_bound t.a t.b y f.right (k.right (omega arith)) sa sb r low c.1 er).rises (omega (arith, w.above)) in
        record {
          inner = λ x u g m.
              let ca = (p x u).0 g in
              let ab = (q x u).0 m in
              covered_of t x y ab (third_below t.a t.b t.c x y w.turned.turns w.above (omega arith) (omega arith) ab ca) ca;
          outer = λ x u g. let o = keeps_of t x y g in ((p x u).1 o.2, (q x u).1 o.0);
        }

    rises_tells : turn_of t < y → t.b.y < t.c.y → Tells t y l r
    rises_tells h d =
        let c = flank_crosses n in
        let p = (crosses_bound t.c t.a y f.left (k.rises h d).0 sc sa l low c.0 el).falls (omega (arith, w.lowest.of_b)) in
        let q = (crosses_bound t.b t.c y f.right (k.rises h d).1 sb sc r low c.1 er).rises (le_of_lt d) in
        record {
          inner = λ x u g m.
              let ca = (p x u).0 g in
              let bc = (q x u).0 m in
              covered_of t x y
              (third_above t.a t.b t.c x y w.turned.turns (omega (arith, w.lowest.of_b)) (omega arith) (omega (arith, w.below)) bc ca) bc ca;
          outer = λ x u g. let o = keeps_of t x y g in ((p x u).1 o.2, (q x u).1 o.1);
        }

    falls_tells : turn_of t < y → t.c.y < t.b.y → Tells t y l r
    falls_tells h d =
        let c = flank_crosses n in
        let p = (crosses_bound t.b t.c y f.left (k.falls h d).0 sb sc l low c.0 el).falls d in
        let q = (crosses_bound t.a t.b y f.right (k.falls h d).1 sa sb r low c.1 er).rises w.lowest.of_b in
        let turns : minus_of t.c.x t.c.y t.a.x t.a.y t.b.x t.b.y < plus_of t.c.x t.c.y t.a.x t.a.y t.b.x t.b.y
        = rw (next_plus t.a.x t.a.y t.b.x t.b.y t.c.x t.c.y, next_minus t.a.x t.a.y t.b.x t.b.y t.c.x t.c.y) w.turned.turns in
        record {
          inner = λ x u g m.
              let bc = (p x u).0 g in
              let ab = (q x u).0 m in
              covered_of t x y ab bc (third_above t.c t.a t.b x y turns (omega arith) (omega (arith, w.lowest.of_c)) (omega (arith, w.below)) ab bc);
          outer = λ x u g. let o = keeps_of t x y g in ((p x u).1 o.1, (q x u).1 o.0);
        }

    -- in any row in which no edge ends
    pub flank_tells : Tells t y l r
    flank_tells =
        either y (turn_of t) below_tells
        (λ h.
        let g : turn_of t < y = either (turn_of t) y (λ (p : turn_of t < y). p) (λ p. absurd (n (omega arith))) in
        apart g (rises_tells g) (falls_tells g))

-- the columns that are told, within the window and the memory, are the row's covered ones
pub tells_spanned : (pen : Pen) (t : Corners) (y hi l r : ℕ) → pen.frame.line ≤ 65535 → hi ≡ min pen.frame.line (pen.right + 1) → Tells t y l r
    → Spanned pen t y (max pen.left l) (min hi r)
tells_spanned pen t y hi l r fits eh w =
    record {
      wide = omega (arith, eh);
      columns = λ x u v. (omega arith, omega (arith, eh), w.inner x (omega (arith, eh)) (omega arith) (omega arith));
      rest = λ x a b c d. let o = w.outer x (omega arith) d in (omega (arith, o.0), omega (arith, o.1, eh));
    }

-- ---- from row to row

-- both edges a row on
abbrev pub above_of : Flanks → Flanks
above_of g = record { left = raised_of g.left; right = raised_of g.right; third = g.third; turn = g.turn }

module _ (t : Corners) (sa : Small t.a) (sb : Small t.b) (sc : Small t.c) (y : ℕ) (low : y ≤ 65535) where
  -- the edges as they stand in row y, the third in the row in which it begins or, where that is below, in row y
  pub flanked_first : (l r d : Side) (n : ℕ) → n ≡ turn_of t → Stands t.c t.a y l → Stands t.a t.b y r → Stands t.b t.c (max y n) d → y ≤ n
      → Flanked t y (record { left = l; right = r; third = d; turn = n })
  flanked_first l r d n e kl kr kd h =
      let at : max y n ≡ turn_of t = omega (arith, e) in
      record {
        turn = e;
        third = λ _. rw at at kd;
        left = λ _. kl;
        right = λ _. kr;
        rises = λ g _. absurd (omega (arith, e));
        falls = λ g _. absurd (omega (arith, e));
      }

  -- and with the third in its place, where row y is above the one in which it begins
  pub flanked_taken : (l r d : Side) (n : ℕ) → n ≡ turn_of t → Stands t.c t.a y l → Stands t.a t.b y r → Stands t.b t.c (max y n) d → n < y
      → Flanked t y (taken_of t (record { left = l; right = r; third = d; turn = n }))
  flanked_taken l r d n e kl kr kd h =
      let at : max y n ≡ y = omega arith in
      let k : Stands t.b t.c y d = rw at at kd in
      record {
        turn = e;
        third = λ g. absurd (omega (arith, e));
        left = λ g. absurd (omega (arith, e));
        right = λ g. absurd (omega (arith, e));
        rises = λ g u. rw (le-ltb t.c.y t.b.y (le_of_lt u)) (kl, k);
        falls = λ g u. rw (lt-ltb t.c.y t.b.y u) (k, kr);
      }

  module _ (f : Flanks) (k : Flanked t y f) where
    -- a row on, where no edge ends in row y
    pub flanked_on : (y ≡ f.turn → ⊥) → Flanked t (y + 1) (above_of f)
    flanked_on n =
        record {
          turn = k.turn;
          third = λ g. k.third (omega arith);
          left = λ g. stands_on t.c t.a y f.left (k.left (omega arith)) sc sa low;
          right = λ g. stands_on t.a t.b y f.right (k.right (omega arith)) sa sb low;
          rises = λ g u.
              let h : turn_of t < y = past g in
              (stands_on t.c t.a y f.left (k.rises h u).0 sc sa low, stands_on t.b t.c y f.right (k.rises h u).1 sb sc low);
          falls = λ g u.
              let h : turn_of t < y = past g in
              (stands_on t.b t.c y f.left (k.falls h u).0 sb sc low, stands_on t.a t.b y f.right (k.falls h u).1 sa sb low);
        }
      where
        past : turn_of t < y + 1 → turn_of t < y
        past g = either (turn_of t) y (λ (p : turn_of t < y). p) (λ p. absurd (n (omega (arith, k.turn))))

    -- a row on from the row in which one ends
    pub flanked_turn : y ≡ f.turn → Flanked t (y + 1) (above_of (taken_of t f))
    flanked_turn n =
        let at : turn_of t ≡ y = omega (arith, n, k.turn) in
        let third : Stands t.b t.c y f.third = rw at at (k.third (omega (arith, at))) in
        let left : Stands t.c t.a y f.left = k.left (omega (arith, at)) in
        let right : Stands t.a t.b y f.right = k.right (omega (arith, at)) in
        record {
          turn = k.turn;
          third = λ g. absurd (omega (arith, at));
          left = λ g. absurd (omega (arith, at));
          right = λ g. absurd (omega (arith, at));
          rises = λ g u.
              rw (le-ltb t.c.y t.b.y (le_of_lt u))
              (stands_on t.c t.a y f.left left sc sa low, stands_on t.b t.c y f.third third sb sc low);
          falls = λ g u.
              rw (lt-ltb t.c.y t.b.y u)
              (stands_on t.b t.c y f.third third sb sc low, stands_on t.a t.b y f.right right sa sb low);
        }

-- ---- the row in which all three meet

-- three cuts one after the other are what all three edges keep
pub cuts_all : (t : Corners) (y : ℕ) (s p q r : Limits) → Cuts t.c t.a y s p → Cuts t.a t.b y p q → Cuts t.b t.c y q r → CutsAll t y s r
cuts_all t y s p q r cp cq cr =
    record {
      shrinks = omega (arith, cp.shrinks, cq.shrinks, cr.shrinks);
      inner = λ x u v.
          let f = cr.inner x u v in
          let g = cq.inner x f.0 f.1 in
          let h = cp.inner x g.0 g.1 in
          (h.0, h.1, covered_of t x y g.2 f.2 h.2);
      outer = λ x u v d.
          let w = keeps_of t x y d in
          let f = cp.outer x u v w.2 in
          let g = cq.outer x f.0 f.1 w.0 in
          cr.outer x g.0 g.1 w.1;
    }

-- of the window's and the memory's columns that leaves the covered ones
pub all_spanned : (pen : Pen) (t : Corners) (y hi : ℕ) (r : Limits) → hi ≡ min pen.frame.line (pen.right + 1) → CutsAll t y (record { lo = pen.left; hi = hi }) r
    → Spanned pen t y r.lo r.hi
all_spanned pen t y hi r eh c =
    record {
      wide = omega (arith, c.shrinks, eh);
      columns = λ x u v. let h = c.inner x u v in (h.0, omega (arith, h.1, eh), h.2);
      rest = λ x a b d e. c.outer x b (omega (arith, eh)) e;
    }
