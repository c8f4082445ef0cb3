-- The pixels of a region: from each the walk goes on to a pixel of which one less remains, whichever way the region is open, or it ends where
-- none remains. Assumes nothing.
use mathlib.Core.Path.{◌≡◌, refl, sym, ap, ap₂, ◌∙◌}
use mathlib.Core.Bool.{Bool, true, false, cond}
use Prim.Native.Nat.{ℕ, zero, suc, ◌+◌, ◌-◌, ◌*◌, ◌≤◌, ◌<◌}
use native.Mathlib.Nat.{mul-zero, mul-suc, zero-mul, suc-mul}
use native.Mathlib.Numerals.{add-one}
use native.Mathlib.Omega.{arith}
use lib.Dec.{ltb, eqb}
use borrow.Author.Tests.{ltb-true, ltb-false, eqb-true, eqb-false, eq-eqb, ne_eqb}
use Rattle.registers.specs.declared.Region.{Region}
use Rattle.registers.specs.Record.{no_region, region_of}
use Rattle.registers.specs.Region.{toward, moved, next_pixel}
use Rattle.ground.proofs.Truth.{either}
use Rattle.reload.specs.Reload.{Corners, apart, size_of, stepped}

-- none are apart
none_apart : (a b : ℕ) → a ≡ b → apart a b ≡ 0
none_apart a b e = omega arith

-- a region, open another way
abbrev pub turned : ℕ → Region → Region
turned way g = record { way = way; x0 = g.x0; x1 = g.x1; y1 = g.y1; x = g.x; y = g.y }

-- how many pixels come after its pixel
unfoldable pub remaining : Region → ℕ
remaining g = apart g.x g.x1 + (apart g.x0 g.x1 + 1) * apart g.y g.y1

-- where a transfer leads
pub data Goes (g : Region) : Type 0 where
  ends : ((way : ℕ) → next_pixel (turned way g) ≡ no_region) → remaining g ≡ 0 → Goes g
  goes : (x y : ℕ) → ((way : ℕ) → next_pixel (turned way g) ≡ turned way (moved g x y)) → remaining (moved g x y) + 1 ≡ remaining g → Goes g

up_one : (a b : ℕ) → a < b → (a + 1 - b) + (b - (a + 1)) + 1 ≡ (a - b) + (b - a)
up_one a b h = omega arith

down_one : (a b : ℕ) → b < a → (a - 1 - b) + (b - (a - 1)) + 1 ≡ (a - b) + (b - a)
down_one a b h = omega arith

below : (a b : ℕ) → b ≤ a → (a ≡ b → ⊥) → b < a
below a b h ne = omega arith

-- a step towards a coordinate comes nearer to it by one
nearer_by_one : (a b : ℕ) → (a ≡ b → ⊥) → apart (toward a b) b + 1 ≡ apart a b
unfolding toward
nearer_by_one a b ne =
    either (λ (n : ℕ). apart n b + 1 ≡ apart a b) (ltb a b) {x = a + 1} {y = a - 1}
    (λ t. up_one a b (ltb-true a b t)) (λ t. down_one a b (below a b (ltb-false a b t) ne))

row_ends : (w k n : ℕ) → k + 1 ≡ n → w + (w + 1) * k + 1 ≡ (w + 1) * n
row_ends w k n e =
    let s : (w + 1) * suc k ≡ (w + 1) * k + (w + 1) = mul-suc (w + 1) k in
    let t : (w + 1) * n ≡ (w + 1) * suc k = ap (λ (j : ℕ). (w + 1) * j) (sym e ∙ add-one k) in
    omega (arith, s, t)

-- a transfer leads from any region either to its end, with no pixel remaining, or to a pixel of which one less remains
pub goes_of : (g : Region) → Goes g
unfolding next_pixel remaining
goes_of g = along (eqb g.x g.x1) refl
  where
    up : (b : Bool) → eqb g.y g.y1 ≡ b → eqb g.x g.x1 ≡ true → Goes g
    up true e f =
        let ex : apart g.x g.x1 ≡ 0 = none_apart g.x g.x1 (eqb-true g.x g.x1 f) in
        let ey : apart g.y g.y1 ≡ 0 = none_apart g.y g.y1 (eqb-true g.y g.y1 e) in
        let p : (apart g.x0 g.x1 + 1) * apart g.y g.y1 ≡ 0 = ap (λ (n : ℕ). (apart g.x0 g.x1 + 1) * n) ey ∙ mul-zero (apart g.x0 g.x1 + 1) in
        ends (λ way. rw (f, e)) (omega (arith, ex, p))
    up false e f =
        let ex : apart g.x g.x1 ≡ 0 = none_apart g.x g.x1 (eqb-true g.x g.x1 f) in
        let p = row_ends (apart g.x0 g.x1) (apart (toward g.y g.y1) g.y1) (apart g.y g.y1) (nearer_by_one g.y g.y1 (eqb-false _ _ e)) in
        goes g.x0 (toward g.y g.y1) (λ way. rw (f, e)) (omega (arith, ex, p))

    along : (b : Bool) → eqb g.x g.x1 ≡ b → Goes g
    along true f = up (eqb g.y g.y1) refl f
    along false f =
        let p = nearer_by_one g.x g.x1 (eqb-false _ _ f) in
        goes (toward g.x g.x1) g.y (λ way. rw f) (omega (arith, p))

-- at its first pixel a region has all its pixels before it
pub size_remaining : (way : ℕ) (c : Corners) → remaining (region_of way c.x0 c.y0 c.x1 c.y1) + 1 ≡ size_of c
unfolding remaining
size_remaining way c = row_ends (apart c.x0 c.x1) (apart c.y0 c.y1) (apart c.y0 c.y1 + 1) refl

-- ---- where the walk stands

module _ (a b : ℕ) where
  -- no step from a coordinate is that coordinate, and as many as it is apart from the other lead there
  stepped_none : stepped a b 0 ≡ a
  stepped_none = either (λ (n : ℕ). n ≡ a) (ltb a b) {x = a + 0} {y = a - 0} (λ t. omega arith) (λ t. omega arith)

  stepped_all : stepped a b (apart a b) ≡ b
  stepped_all =
      either (λ (n : ℕ). n ≡ b) (ltb a b) {x = a + apart a b} {y = a - apart a b} (λ t. omega (arith, ltb-true a b t)) (λ t. omega (arith, ltb-false a b t))

  -- before that the other is not reached, and one step more goes towards it
  stepped_short : (i : ℕ) → i < apart a b → stepped a b i ≡ b → ⊥
  stepped_short i h =
      either (λ (n : ℕ). n ≡ b → ⊥) (ltb a b) {x = a + i} {y = a - i} (λ t e. omega (arith, h, e, ltb-true a b t)) (λ t e. omega (arith, h, e, ltb-false a b t))

  stepped_more : (i : ℕ) → i < apart a b → toward (stepped a b i) b ≡ stepped a b (i + 1)
  unfolding toward
  stepped_more i h = go (ltb a b) refl
    where
      go : (t : Bool) → ltb a b ≡ t → toward (cond t (a + i) (a - i)) b ≡ cond t (a + (i + 1)) (a - (i + 1))
      go true e =
          either (λ (n : ℕ). n ≡ a + (i + 1)) (ltb (a + i) b) {x = a + i + 1} {y = a + i - 1}
          (λ t. omega arith) (λ t. absurd (omega (arith, h, ltb-true a b e, ltb-false (a + i) b t)))
      go false e =
          either (λ (n : ℕ). n ≡ a - (i + 1)) (ltb (a - i) b) {x = a - i + 1} {y = a - i - 1}
          (λ t. absurd (omega (arith, h, ltb-false a b e, ltb-true (a - i) b t))) (λ t. omega arith)

-- a region after so many transfers
unfoldable pub walked : ℕ → Region → Region
walked zero g = g
walked (suc n) g = walked n (next_pixel g)

walked_more : (n k : ℕ) (g : Region) → walked (n + k) g ≡ walked k (walked n g)
unfolding walked
walked_more zero k g = let e : 0 + k ≡ k = omega arith in ap (λ (l : ℕ). walked l g) e
walked_more (suc n) k g = let e : suc n + k ≡ suc (n + k) = omega arith in ap (λ (l : ℕ). walked l g) e ∙ walked_more n k (next_pixel g)

module _ (way : ℕ) (c : Corners) where
  -- the region at a pixel so many steps along x and along y
  abbrev pub standing : ℕ → ℕ → Region
  standing i j = moved (region_of way c.x0 c.y0 c.x1 c.y1) (stepped c.x0 c.x1 i) (stepped c.y0 c.y1 j)

  first_stands : region_of way c.x0 c.y0 c.x1 c.y1 ≡ standing 0 0
  first_stands =
      sym (ap₂ (λ (x y : ℕ). moved (region_of way c.x0 c.y0 c.x1 c.y1) x y) (stepped_none c.x0 c.x1) (stepped_none c.y0 c.y1))

  -- a step along the row, and from its end to the next row
  along_row : (i j : ℕ) → i < apart c.x0 c.x1 → next_pixel (standing i j) ≡ standing (i + 1) j
  unfolding next_pixel
  along_row i j h =
      rw (ne_eqb _ _ (stepped_short c.x0 c.x1 i h))
      (ap (λ (x : ℕ). moved (standing i j) x (stepped c.y0 c.y1 j)) (stepped_more c.x0 c.x1 i h))

  next_row : (j : ℕ) → j < apart c.y0 c.y1 → next_pixel (standing (apart c.x0 c.x1) j) ≡ standing 0 (j + 1)
  unfolding next_pixel
  next_row j h =
      rw (eq-eqb _ _ (stepped_all c.x0 c.x1), ne_eqb _ _ (stepped_short c.y0 c.y1 j h))
      (ap₂ (λ (x y : ℕ). moved (standing 0 j) x y) (sym (stepped_none c.x0 c.x1)) (stepped_more c.y0 c.y1 j h))

  in_row : (i j : ℕ) → i ≤ apart c.x0 c.x1 → walked i (standing 0 j) ≡ standing i j
  unfolding walked
  in_row zero j h = refl
  in_row (suc i) j h =
      ap (λ (n : ℕ). walked n (standing 0 j)) (sym (add-one i)) ∙ walked_more i 1 (standing 0 j) ∙ ap next_pixel (in_row i j (omega (arith, h)))
      ∙ along_row i j (omega (arith, h)) ∙ ap (λ (n : ℕ). standing n j) (add-one i)

  -- whole rows
  rows_down : (j : ℕ) → j ≤ apart c.y0 c.y1 → walked (j * (apart c.x0 c.x1 + 1)) (standing 0 0) ≡ standing 0 j
  unfolding walked
  rows_down zero h = let e : 0 * (apart c.x0 c.x1 + 1) ≡ 0 = zero-mul (apart c.x0 c.x1 + 1) in ap (λ (n : ℕ). walked n (standing 0 0)) e
  rows_down (suc j) h =
      let w = apart c.x0 c.x1 in
      let e : suc j * (w + 1) ≡ j * (w + 1) + (w + 1) = suc-mul j (w + 1) in
      ap (λ (n : ℕ). walked n (standing 0 0)) e
      ∙ walked_more (j * (w + 1)) (w + 1) (standing 0 0)
      ∙ ap (walked (w + 1)) (rows_down j (omega (arith, h)))
      ∙ walked_more w 1 (standing 0 j)
      ∙ ap next_pixel (in_row w j (omega arith))
      ∙ next_row j (omega (arith, h))
      ∙ ap (standing 0) (add-one j)

  -- after whole rows and some pixels
  pub stands_at : (i j : ℕ) → i ≤ apart c.x0 c.x1 → j ≤ apart c.y0 c.y1
      → walked (i + j * (apart c.x0 c.x1 + 1)) (region_of way c.x0 c.y0 c.x1 c.y1) ≡ standing i j
  stands_at i j h k =
      let e : i + j * (apart c.x0 c.x1 + 1) ≡ j * (apart c.x0 c.x1 + 1) + i = omega arith in
      ap₂ walked e first_stands ∙ walked_more (j * (apart c.x0 c.x1 + 1)) i (standing 0 0) ∙ ap (walked i) (rows_down j k) ∙ in_row i j h
