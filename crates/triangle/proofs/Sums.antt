-- Document 01's N, the sum of the corner numbers times the edges opposite: 2 N + D at column 0 of a row is carried from row to row modulo 2 ^ 64, and from column 0
-- a product leads to any covered pixel, where it is small enough to be itself. Assumes nothing.
use Rattle.std.proofs.Common.{◌≡◌, ℕ, ◌+◌, ◌-◌, ◌*◌, ◌%◌, ◌^◌, ◌<◌, ◌≤◌, true, sym, ap, ap₂, ◌∙◌, mul_assoc, mul_comm, add-mul, mul-zero, mul-add, mul_left_comm, arith}
use native.Mathlib.Nat.{mod-add-mod}
use Rattle.std.proofs.lemmas.Nat.{mul-mod, mul-mod_first, mul-mod_second}
use Rattle.triangle.specs.declared.Corners.{Corners}
use Rattle.triangle.specs.declared.Sum.{Sum}
use Rattle.triangle.specs.Edge.{plus_of, minus_of, edge_at, covers, amount, area_of}
use Rattle.triangle.specs.Loops.{ahead, behind, mass_by, Sized, Slants, plus_at, minus_at, Sums}
use Rattle.triangle.proofs.Plane.{product_fits, plus_from, minus_from, up_plus, up_minus}
use Rattle.triangle.proofs.Covers.{covered_within}

-- ---- bare numbers

-- a number times what an edge's two parts come to, x columns on
part : (p u v u₀ v₀ a b x : ℕ) → v ≤ u → u ≡ u₀ + a * x → v ≡ v₀ + b * x → p * (u - v) + p * v₀ + x * (p * b) ≡ p * u₀ + x * (p * a)
part p u v u₀ v₀ a b x h eu ev =
    let whole : u - v + v ≡ u = omega arith in
    omega (
      arith,
      mul-add p (u - v) v,
      ap (λ (k : ℕ). p * k) whole,
      ap (λ (k : ℕ). p * k) eu,
      ap (λ (k : ℕ). p * k) ev,
      mul-add p u₀ (a * x),
      mul-add p v₀ (b * x),
      ap (λ (k : ℕ). p * k) (mul_comm a x) ∙ mul_left_comm p x a,
      ap (λ (k : ℕ). p * k) (mul_comm b x) ∙ mul_left_comm p x b,
    )

spread : (x i j k : ℕ) → x * (i + j + k) ≡ x * i + x * j + x * k
spread x i j k = mul-add x (i + j) k ∙ ap (λ (n : ℕ). n + x * k) (mul-add x i j)

next : (p u v a : ℕ) → v ≡ u + a → p * v ≡ p * u + p * a
next p u v a e = ap (λ (k : ℕ). p * k) e ∙ mul-add p u a

-- of coordinates and corner numbers of 16 bits, both `ahead` and `behind` are at most 12,884,508,675
pub change_fits : (u v w p q r : ℕ) → u ≤ 65535 → v ≤ 65535 → w ≤ 65535 → p ≤ 65535 → q ≤ 65535 → r ≤ 65535
    → (ahead u v w p q r ≤ 12884508675) × (behind u v w p q r ≤ 12884508675)
change_fits u v w p q r hu hv hw hp hq hr = (
  omega (arith, product_fits p v hp hv, product_fits q w hq hw, product_fits r u hr hu),
  omega (arith, product_fits p w hp hw, product_fits q u hq hu, product_fits r v hr hv),
)

-- N from corner a, where it is the corner's number times the doubled area
corner : (ax ay bx by cx cy p q r y : ℕ) →
    p * plus_of ax ay bx by cx cy + y * behind ax bx cx p q r + ay * ahead ax bx cx p q r + ax * behind ay by cy p q r
    + (p * minus_of bx by cx cy 0 y + q * minus_of cx cy ax ay 0 y + r * minus_of ax ay bx by 0 y)
    ≡ p * minus_of ax ay bx by cx cy + y * ahead ax bx cx p q r + ay * behind ax bx cx p q r + ax * ahead ay by cy p q r
    + (p * plus_of bx by cx cy 0 y + q * plus_of cx cy ax ay 0 y + r * plus_of ax ay bx by 0 y)
unfolding plus_of minus_of
corner ax ay bx by cx cy p q r y = simp (mul-add, mul-zero, mul_comm, mul_left_comm) (omega arith)

-- ---- modulo 2 ^ 64

same : (x y : ℕ) → x ≡ y → x % 2 ^ 64 ≡ y % 2 ^ 64
same x y e = ap (λ (n : ℕ). n % 2 ^ 64) e

shift : (x y k : ℕ) → x % 2 ^ 64 ≡ y % 2 ^ 64 → (x + k) % 2 ^ 64 ≡ (y + k) % 2 ^ 64
shift x y k e = sym (mod-add-mod x (2 ^ 64) k) ∙ ap (λ (n : ℕ). (n + k) % 2 ^ 64) e ∙ mod-add-mod y (2 ^ 64) k

cancel : (x y k : ℕ) → x < 18446744073709551616 → y < 18446744073709551616 → (x + k) % 2 ^ 64 ≡ (y + k) % 2 ^ 64 → x ≡ y
cancel x y k hx hy e = omega arith

-- x times a number that is so modulo 2 ^ 64
times_mod : (x s b a : ℕ) → (s + 2 * b) % 2 ^ 64 ≡ 2 * a → (x * s + 2 * (x * b)) % 2 ^ 64 ≡ 2 * (x * a) % 2 ^ 64
times_mod x s b a e =
    same (x * s + 2 * (x * b)) (x * (s + 2 * b)) (omega (arith, mul-add x s (2 * b), mul_left_comm x 2 b))
    ∙ sym (mul-mod_second x (s + 2 * b) (2 ^ 64))
    ∙ ap (λ (n : ℕ). x * n % 2 ^ 64) e
    ∙ same (x * (2 * a)) (2 * (x * a)) (mul_left_comm x 2 a)

-- a sum that is so modulo 2 ^ 64, times u
sum_times : (m p q u : ℕ) → (m + p) % 2 ^ 64 ≡ q → (m * u + p * u) % 2 ^ 64 ≡ q * u % 2 ^ 64
sum_times m p q u e =
    same (m * u + p * u) ((m + p) * u) (sym (add-mul m p u))
    ∙ sym (mul-mod_first (m + p) u (2 ^ 64))
    ∙ ap (λ (n : ℕ). n * u % 2 ^ 64) e

-- (q - p)(w - u), each difference modulo 2 ^ 64
both : (p q u w m n : ℕ) → (m + p) % 2 ^ 64 ≡ q → (n + u) % 2 ^ 64 ≡ w → (m * n + (q * u + p * w)) % 2 ^ 64 ≡ (q * w + p * u) % 2 ^ 64
both p q u w m n hm hn =
    both_by (m * n) (m * u) (p * n) (p * u) (q * w) (q * u) (p * w)
    (same (m * n + m * u + (p * n + p * u)) ((m + p) * (n + u)) (omega (arith, add-mul m p (n + u), mul-add m n u, mul-add p n u))
    ∙ mul-mod (m + p) (n + u) (2 ^ 64)
    ∙ ap₂ (λ (a b : ℕ). a * b % 2 ^ 64) hm hn)
    (sum_times m p q u hm)
    (same (p * n + p * u) (n * p + u * p) (omega (arith, mul_comm p n, mul_comm p u)) ∙ sum_times n u w p hn ∙ same (w * p) (p * w) (mul_comm w p))
  where
    both_by : (mn mu pn pu qw qu pw : ℕ) → (mn + mu + (pn + pu)) % 2 ^ 64 ≡ qw % 2 ^ 64 → (mu + pu) % 2 ^ 64 ≡ qu % 2 ^ 64 → (pn + pu) % 2 ^ 64 ≡ pw % 2 ^ 64
        → (mn + (qu + pw)) % 2 ^ 64 ≡ (qw + pu) % 2 ^ 64
    both_by mn mu pn pu qw qu pw e f g = omega arith

-- twice the difference of two such products
twice_mod : (s x y qu pw qw pu ru pv rv : ℕ) → s ≡ (x % 2 ^ 64 + (18446744073709551616 - y % 2 ^ 64)) % 2 ^ 64 * 2 % 2 ^ 64
    → (x + (qu + pw)) % 2 ^ 64 ≡ (qw + pu) % 2 ^ 64 → (y + (ru + pv)) % 2 ^ 64 ≡ (rv + pu) % 2 ^ 64 → pv + qw + ru ≤ 12884508675
    → (s + 2 * (pw + qu + rv)) % 2 ^ 64 ≡ 2 * (pv + qw + ru)
twice_mod s x y qu pw qw pu ru pv rv e f g low = omega arith

-- the first row: across is taken from what stands at corner a, and climbed is added
first_mod : (at first across climbed s x c : ℕ) → at ≡ ((first + (18446744073709551616 - across)) % 2 ^ 64 + climbed) % 2 ^ 64
    → first ≡ s % 2 ^ 64 → across ≡ x % 2 ^ 64 → climbed ≡ c % 2 ^ 64 → (at + x) % 2 ^ 64 ≡ (s + c) % 2 ^ 64
first_mod at first across climbed s x c e f g h = omega arith

-- what is added to the first sum and what is taken from it: the number of corner a times the area (a, of which b is taken from c), the row times what a row
-- adds (yu), and what leads from the corner to column 0 (xr) and to row 0 (lu)
gather : (at k d a b c yu ya yb xr xa xb lu la lb m n : ℕ) → (at + xr) % 2 ^ 64 ≡ (2 * a + d + k) % 2 ^ 64 → (k + lu) % 2 ^ 64 ≡ yu % 2 ^ 64 → a + b ≡ c
    → (xr + 2 * xb) % 2 ^ 64 ≡ 2 * xa % 2 ^ 64 → (lu + 2 * la) % 2 ^ 64 ≡ 2 * lb % 2 ^ 64 → (yu + 2 * ya) % 2 ^ 64 ≡ 2 * yb % 2 ^ 64
    → c + yb + la + xb + m ≡ b + ya + lb + xa + n → (at + 2 * m) % 2 ^ 64 ≡ (2 * n + d) % 2 ^ 64
gather at k d a b c yu ya yb xr xa xb lu la lb m n e f g h i j l = omega arith

-- a row up: u is added to a, of which m is taken from l, and f from b
up_mod : (n a u m l f b d : ℕ) → n ≡ (a + u) % 2 ^ 64 → (a + 2 * m) % 2 ^ 64 ≡ (2 * l + d) % 2 ^ 64 → (u + 2 * f) % 2 ^ 64 ≡ 2 * b
    → (n + 2 * (m + f)) % 2 ^ 64 ≡ (2 * (l + b) + d) % 2 ^ 64
up_mod n a u m l f b d h g j =
    ap (λ (k : ℕ). (k + 2 * (m + f)) % 2 ^ 64) h
    ∙ mod-add-mod (a + u) (2 ^ 64) (2 * (m + f))
    ∙ same (a + u + 2 * (m + f)) (a + 2 * m + (u + 2 * f)) (omega arith)
    ∙ shift (a + 2 * m) (2 * l + d) (u + 2 * f) g
    ∙ same (2 * l + d + (u + 2 * f)) (u + 2 * f + (2 * l + d)) (omega arith)
    ∙ sym (mod-add-mod (u + 2 * f) (2 ^ 64) (2 * l + d))
    ∙ ap (λ (k : ℕ). (k + (2 * l + d)) % 2 ^ 64) j
    ∙ same (2 * b + (2 * l + d)) (2 * (l + b) + d) (omega arith)

-- some columns on: g is added to a, and what is left of it all is w
told_mod : (n a g u v f b w d : ℕ) → n ≡ (a + g) % 2 ^ 64 → (a + 2 * u) % 2 ^ 64 ≡ (2 * v + d) % 2 ^ 64
    → (g + 2 * f) % 2 ^ 64 ≡ 2 * b % 2 ^ 64 → w + (u + f) ≡ v + b → 2 * w + d < 18446744073709551616 → n ≡ 2 * w + d
told_mod n a g u v f b w d en ea eg eb hw = omega arith

-- ---- a sum

-- what a step adds, by products of differences
pub slant_told : (u v w p q r m n k l s : ℕ) → u ≤ 65535 → v ≤ 65535 → w ≤ 65535 → p ≤ 65535 → q ≤ 65535 → r ≤ 65535
    → (m + p) % 2 ^ 64 ≡ q → (n + u) % 2 ^ 64 ≡ w → (k + p) % 2 ^ 64 ≡ r → (l + u) % 2 ^ 64 ≡ v → s < 18446744073709551616
    → s ≡ (m * n % 2 ^ 64 + (18446744073709551616 - k * l % 2 ^ 64)) % 2 ^ 64 * 2 % 2 ^ 64 → Slants u v w p q r s
slant_told u v w p q r m n k l s hu hv hw hp hq hr hm hn hk hl fits e =
    let few = change_fits u v w p q r hu hv hw hp hq hr in
    record {
      so = twice_mod s (m * n) (k * l) (q * u) (p * w) (q * w) (p * u) (r * u) (p * v) (r * v) e (both p q u w m n hm hn) (both p r u v k l hk hl) few.0;
      fits = fits;
      ahead_low = few.0;
      behind_low = few.1;
    }

-- the number as far on the other side of 0 is what a step back adds to 2 N
back_so : (u v w p q r s n : ℕ) → Slants u v w p q r s → (n + s) % 2 ^ 64 ≡ 0 → (n + 2 * ahead u v w p q r) % 2 ^ 64 ≡ 2 * behind u v w p q r
back_so u v w p q r s n k e = omega (arith, k.so, k.behind_low)

-- the first sum
module _ (t : Corners) (d p q r y right lean up : ℕ) (k : Sized t d)
    (of_right : Slants t.a.y t.b.y t.c.y p q r right) (of-lean : Slants t.a.x t.b.x t.c.x p q r lean) (e : (up + lean) % 2 ^ 64 ≡ 0) where
  -- p times the doubled area
  area_times : p * d + p * minus_of t.a.x t.a.y t.b.x t.b.y t.c.x t.c.y ≡ p * plus_of t.a.x t.a.y t.b.x t.b.y t.c.x t.c.y
  area_times =
      let whole : d + minus_of t.a.x t.a.y t.b.x t.b.y t.c.x t.c.y ≡ plus_of t.a.x t.a.y t.b.x t.b.y t.c.x t.c.y
      = omega (arith, k.area, k.turned.turns) in
      sym (mul-add p d _) ∙ ap (λ (n : ℕ). p * n) whole

  upward : (up + 2 * ahead t.a.x t.b.x t.c.x p q r) % 2 ^ 64 ≡ 2 * behind t.a.x t.b.x t.c.x p q r
  upward = back_so _ _ _ p q r lean up of-lean e

  -- from corner a so many columns to the left, and `rows` rows up
  pub sum_first : (at first across climbed rows : ℕ) → at ≡ ((first + (18446744073709551616 - across)) % 2 ^ 64 + climbed) % 2 ^ 64
      → first ≡ (2 * p + 1) * d % 2 ^ 64 → across ≡ t.a.x * right % 2 ^ 64 → climbed ≡ rows * up % 2 ^ 64 → (rows + t.a.y) % 2 ^ 64 ≡ y
      → Sums t p q r y (record { at = at; right = right; up = up })
  sum_first at first across climbed rows ea ef ex ec er =
      record {
        at = rw k.area at
            (gather at (rows * up) d (p * d) _ _ (y * up) _ _ (t.a.x * right) _ _ (t.a.y * up) _ _ (minus_at t p q r y) (plus_at t p q r y)
            (first_mod at first across climbed ((2 * p + 1) * d) (t.a.x * right) (rows * up) ea ef ex ec
            ∙ same ((2 * p + 1) * d + rows * up) (2 * (p * d) + d + rows * up) (omega (arith, add-mul (2 * p) 1 d, mul_assoc 2 p d)))
            (sum_times rows t.a.y y up er)
            area_times
            (times_mod t.a.x right _ _ of_right.so)
            (times_mod t.a.y up _ _ upward)
            (times_mod y up _ _ upward)
            (corner t.a.x t.a.y t.b.x t.b.y t.c.x t.c.y p q r y));
        right = of_right;
        up = upward;
      }

module _ (t : Corners) (p q r y : ℕ) (s : Sum) (k : Sums t p q r y s) where
  plus_next : plus_at t p q r (y + 1) ≡ plus_at t p q r y + behind t.a.x t.b.x t.c.x p q r
  plus_next =
      omega (
        arith,
        next p _ _ _ (up_plus t.b.x t.b.y t.c.x t.c.y 0 y),
        next q _ _ _ (up_plus t.c.x t.c.y t.a.x t.a.y 0 y),
        next r _ _ _ (up_plus t.a.x t.a.y t.b.x t.b.y 0 y),
      )

  minus_next : minus_at t p q r (y + 1) ≡ minus_at t p q r y + ahead t.a.x t.b.x t.c.x p q r
  minus_next =
      omega (
        arith,
        next p _ _ _ (up_minus t.b.x t.b.y t.c.x t.c.y 0 y),
        next q _ _ _ (up_minus t.c.x t.c.y t.a.x t.a.y 0 y),
        next r _ _ _ (up_minus t.a.x t.a.y t.b.x t.b.y 0 y),
      )

  -- a row up
  pub sum_next : (n : ℕ) → n ≡ (s.at + s.up) % 2 ^ 64 → Sums t p q r (y + 1) (record { at = n; right = s.right; up = s.up })
  sum_next n e =
      record {
        at = rw (plus_next, minus_next) (up_mod n s.at s.up _ _ _ _ _ e k.at k.up);
        right = k.right;
        up = k.up;
      }

  -- at a covered pixel what is added and what is taken away leave N
  module _ (x : ℕ) (h : covers t x y ≡ true) where
    balance : p * amount (edge_at t.b t.c x y) + q * amount (edge_at t.c t.a x y) + r * amount (edge_at t.a t.b x y)
        + (minus_at t p q r y + x * behind t.a.y t.b.y t.c.y p q r)
        ≡ plus_at t p q r y + x * ahead t.a.y t.b.y t.c.y p q r
    balance =
        let w = covered_within t x y h in
        omega (
          arith,
          spread x (p * t.b.y) (q * t.c.y) (r * t.a.y),
          spread x (p * t.c.y) (q * t.a.y) (r * t.b.y),
          part p _ _ _ _ t.b.y t.c.y x w.bc
              (plus_from t.b.x t.b.y t.c.x t.c.y x y) (minus_from t.b.x t.b.y t.c.x t.c.y x y),
          part q _ _ _ _ t.c.y t.a.y x w.ca
              (plus_from t.c.x t.c.y t.a.x t.a.y x y) (minus_from t.c.x t.c.y t.a.x t.a.y x y),
          part r _ _ _ _ t.a.y t.b.y x w.ab
              (plus_from t.a.x t.a.y t.b.x t.b.y x y) (minus_from t.a.x t.a.y t.b.x t.b.y x y),
        )

    -- so a number that is as much modulo 2 ^ 64 is 2 N + D
    pub sum_told : (n : ℕ) → n ≡ (s.at + x * s.right) % 2 ^ 64 → mass_by t p q r x y < 18446744073709551616 → n ≡ mass_by t p q r x y
    sum_told n en low =
        told_mod n s.at (x * s.right) _ _ _ _ _ (area_of t) en k.at (times_mod x s.right _ _ k.right.so) balance low
