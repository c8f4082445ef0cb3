-- What a unit of a board has of a row: its columns, each so many from the one before it, at places side by side, with numbers carried over all of them.
-- Assumes nothing.
use Rattle.std.proofs.Common.{◌≡◌, ℕ, zero, suc, ◌+◌, ◌-◌, ◌*◌, ◌/◌, ◌%◌, ◌^◌, ◌<◌, ◌≤◌, Bool, true, false, cond, ◌&&◌, eqb, ltb, ◌⊎◌, [], sym, refl, ap, ◌∙◌, subst, ap₂, inl, inr, add_assoc, mul-le-mul_right, mod-lt, mul_assoc, suc-mul, mul_comm, add-mul, add_comm, zero-mul, arith, ltb-false, ltb-true, eq-eqb, eqb-true}
use native.Mathlib.Nat.{add-mul-div_left, add-mul-mod_self_left, mod-add-mod, add-mod-mod}
use borrow.Author.Tests.{eqb-false}
use Rattle.picture.specs.declared.Frame.{Frame}
use Rattle.picture.specs.declared.Pen.{Pen}
use Rattle.picture.specs.declared.Kind.{Kind}
use Rattle.picture.specs.declared.Carried.{Carried}
use Rattle.picture.specs.Place.{lies_plain, lies_tiled, ways_of, layout_of, spot_of, place_of, mine, in_memory}
use Rattle.picture.specs.Offer.{offer}
use Rattle.picture.specs.Picture.{Picture, drawn}
use Rattle.picture.specs.Draw.{carried_one, shown, seen, carried_to, span_pixel, span_offers}
use Rattle.picture.specs.Loops.{Shares, until_own, own_below, stridden, own_offers}
use Rattle.ground.proofs.Truth.{neither}
use Rattle.picture.proofs.Places.{lies_shared, ways_low, inside_of}
use Rattle.picture.proofs.Spans.{spans_zero, spans_some}
use Rattle.picture.proofs.Rows.{seen_inside, seen_outside, carry}

-- ---- two or four

by_few : (P : ℕ → Type 0) → P 2 → P 4 → (ways : ℕ) → (ways ≡ 2) ⊎ (ways ≡ 4) → P ways
by_few P two four ways (inl e) = subst P (sym e) two
by_few P two four ways (inr e) = subst P (sym e) four

-- a number that is two or four is not 0
pub few_some : (ways : ℕ) → (ways ≡ 2) ⊎ (ways ≡ 4) → 0 < ways
few_some = by_few (λ ways. 0 < ways) (omega arith) (omega arith)

-- a frame that lies neither in rows nor in tiles is a unit's
pub shares_of : (frame : Frame) → lies_plain frame ≡ false → lies_tiled frame ≡ false → Shares frame (ways_of frame)
shares_of frame e f =
    let low = ltb-false 7 frame.layout (neither (eqb frame.layout 0) (ltb 7 frame.layout) e).1 in
    record { few = few (ltb frame.layout 4); least = ways_low frame e f; most = most (ltb frame.layout 4) refl low; is = lies_shared frame e f }
  where
    few : (b : Bool) → (cond {A = ℕ} b 2 4 ≡ 2) ⊎ (cond {A = ℕ} b 2 4 ≡ 4)
    few true = inl refl
    few false = inr refl

    most : (b : Bool) → ltb frame.layout 4 ≡ b → frame.layout ≤ 7 → frame.layout < 2 * cond {A = ℕ} b 2 4
    most true t l = let m = ltb-true frame.layout 4 t in omega (arith, m)
    most false t l = omega (arith, l)

-- ---- columns and places

module _ (frame : Frame) (ways : ℕ) (s : Shares frame ways) where
  own_mine : (x : ℕ) → mine (layout_of frame) x ≡ eqb (x % ways) (frame.layout - ways)
  unfolding mine
  own_mine x = rw s.is

  own_place : (x y : ℕ) → place_of frame x y ≡ y * (frame.line / ways) + x / ways
  unfolding place_of spot_of
  own_place x y = rw s.is

  -- so many columns on the unit has the next one
  pub stride_mine : (x j : ℕ) → mine (layout_of frame) (x + ways * j) ≡ mine (layout_of frame) x
  stride_mine x j = own_mine (x + ways * j) ∙ ap (λ (a : ℕ). eqb a (frame.layout - ways)) (add-mul-mod_self_left x ways j) ∙ sym (own_mine x)

  -- at the next place
  pub stride_place : (x y j : ℕ) → place_of frame x y + j ≡ place_of frame (x + ways * j) y
  stride_place x y j =
      ap (λ (a : ℕ). a + j) (own_place x y)
      ∙ add_assoc (y * (frame.line / ways)) (x / ways) j
      ∙ ap (λ (a : ℕ). y * (frame.line / ways) + a) (sym (add-mul-div_left x j (few_some ways s.few)))
      ∙ sym (own_place (x + ways * j) y)

-- those of so many lie in the line
pub stride_low : (x ways count j line : ℕ) → j < count → x + ways * count < line + ways → x + ways * j < line
stride_low x ways count j line l h =
    omega (arith, h, mul_comm ways j, mul_comm ways count, add-mul j 1 ways, mul-le-mul_right {m = j + 1} {n = count} ways (omega (arith, l)))

-- ---- how many

-- of remainders that are added to a column those that are unlike stay so
rest_same : (lo a b ways : ℕ) → (ways ≡ 2) ⊎ (ways ≡ 4) → a < ways → b < ways → (lo + a) % ways ≡ (lo + b) % ways → a ≡ b
rest_same lo a b =
    by_few (λ ways. a < ways → b < ways → (lo + a) % ways ≡ (lo + b) % ways → a ≡ b) (λ l m e. omega (arith, l, m, e)) (λ l m e. omega (arith, l, m, e))

module _ (layout lo : ℕ) where
  -- the first column that a unit has, from any column on, is fewer columns on than there are units
  pub until_low : (ways : ℕ) → 0 < ways → until_own ways layout lo < ways
  unfolding until_own
  until_low ways h = mod-lt (layout - lo % ways) h

  -- the column so far on is the unit's
  until_own_lem : (ways : ℕ) → (ways ≡ 2) ⊎ (ways ≡ 4) → ways ≤ layout → layout < 2 * ways → (lo + until_own ways layout lo) % ways ≡ layout - ways
  unfolding until_own
  until_own_lem =
      by_few (λ ways. ways ≤ layout → layout < 2 * ways → (lo + until_own ways layout lo) % ways ≡ layout - ways)
      (λ a b. omega (arith, a, b)) (λ a b. omega (arith, a, b))

  -- as is each whose remainder is the same, and no other
  rest_own : (k ways : ℕ) → (ways ≡ 2) ⊎ (ways ≡ 4) → ways ≤ layout → layout < 2 * ways → k % ways ≡ until_own ways layout lo → (lo + k) % ways ≡ layout - ways
  rest_own k ways f a b e = sym (add-mod-mod lo k ways) ∙ ap (λ (n : ℕ). (lo + n) % ways) e ∙ until_own_lem ways f a b

  own_rest : (k ways : ℕ) → (ways ≡ 2) ⊎ (ways ≡ 4) → ways ≤ layout → layout < 2 * ways → (lo + k) % ways ≡ layout - ways → k % ways ≡ until_own ways layout lo
  own_rest k ways f a b e =
      rest_same lo (k % ways) (until_own ways layout lo) ways f (mod-lt k (few_some ways f)) (until_low ways (few_some ways f))
      (add-mod-mod lo k ways ∙ e ∙ sym (until_own_lem ways f a b))

-- the column k on, if it is the unit's, is the next of so many as are counted, and counts one more
own_here : (first k ways : ℕ) → (ways ≡ 2) ⊎ (ways ≡ 4) → first < ways → k % ways ≡ first
    → (first + ways * own_below ways first k ≡ k) × (own_below ways first (k + 1) ≡ own_below ways first k + 1)
unfolding own_below
own_here first k =
    by_few (λ ways. first < ways → k % ways ≡ first → (first + ways * own_below ways first k ≡ k) × (own_below ways first (k + 1) ≡ own_below ways first k + 1))
    (λ a h. (omega (arith, a, h), omega (arith, a, h))) (λ a h. (omega (arith, a, h), omega (arith, a, h)))

-- any other column counts none
own_there : (first k ways : ℕ) → (ways ≡ 2) ⊎ (ways ≡ 4) → first < ways → (k % ways ≡ first → ⊥) → own_below ways first (k + 1) ≡ own_below ways first k
unfolding own_below
own_there first k =
    by_few (λ ways. first < ways → (k % ways ≡ first → ⊥) → own_below ways first (k + 1) ≡ own_below ways first k) (λ a h. omega (arith, a, h)) (λ a h. omega (arith, a, h))

module _ (first n : ℕ) where
  -- of columns before the first it has none
  pub own_none : (ways : ℕ) → (ways ≡ 2) ⊎ (ways ≡ 4) → first < ways → n ≤ first → own_below ways first n ≡ 0
  unfolding own_below
  own_none = by_few (λ ways. first < ways → n ≤ first → own_below ways first n ≡ 0) (λ a b. omega (arith, a, b)) (λ a b. omega (arith, a, b))

  -- of more, the first and each so many on
  pub own_some : (ways : ℕ) → (ways ≡ 2) ⊎ (ways ≡ 4) → first < ways → first < n → (n - first - 1) / ways + 1 ≡ own_below ways first n
  unfolding own_below
  own_some = by_few (λ ways. first < ways → first < n → (n - first - 1) / ways + 1 ≡ own_below ways first n) (λ a b. omega (arith, a, b)) (λ a b. omega (arith, a, b))

  -- the first column, and as many strides on as the unit has columns of n, is less than a stride past n
  pub own_room : (ways : ℕ) → (ways ≡ 2) ⊎ (ways ≡ 4) → first < ways → first + ways * own_below ways first n < n + ways
  unfolding own_below
  own_room = by_few (λ ways. first < ways → first + ways * own_below ways first n < n + ways) (λ a. omega (arith, a)) (λ a. omega (arith, a))

-- ---- numbers carried over so many pixels

-- a factor modulo m
times_mod : (a b m j : ℕ) → (a + j * (b % m)) % m ≡ (a + j * b) % m
times_mod a b m zero = rw (zero-mul, zero-mul)
times_mod a b m (suc j) =
    rw (suc-mul j (b % m), suc-mul j b)
    (ap (λ (n : ℕ). n % m) (sym (add_assoc a (j * (b % m)) (b % m)))
    ∙ add-mod-mod (a + j * (b % m)) b m
    ∙ ap (λ (n : ℕ). n % m) (add_assoc a (j * (b % m)) b ∙ ap (λ (n : ℕ). a + n) (add_comm (j * (b % m)) b) ∙ sym (add_assoc a b (j * (b % m))))
    ∙ times_mod (a + b) b m j
    ∙ ap (λ (n : ℕ). n % m) (add_assoc a b (j * b) ∙ ap (λ (n : ℕ). a + n) (add_comm b (j * b))))

stride_sum : (a g first ways j : ℕ) → a + first * g + j * (ways * g) ≡ a + (first + ways * j) * g
stride_sum a g first ways j =
    add_assoc a (first * g) (j * (ways * g))
    ∙ ap (λ (n : ℕ). a + n) (ap (λ (n : ℕ). first * g + n) (sym (mul_assoc j ways g) ∙ ap (λ (n : ℕ). n * g) (mul_comm j ways)) ∙ sym (add-mul first (ways * j) g))

-- a number of 64 bits to which no pixel adds anything is carried over a unit's columns as it is
pub stridden_stays : (c : Carried) (first ways : ℕ) → c.add ≡ 0 → c.first < 2 ^ 64 → stridden c first ways ≡ c
stridden_stays c first ways stays fits =
    let skipped = ap (λ (a : ℕ). first * a) stays in
    let added = ap (λ (a : ℕ). ways * a) stays in
    let e : (c.first + (first * c.add) % 2 ^ 64) % 2 ^ 64 ≡ c.first = omega (arith, skipped, fits) in
    let f : (ways * c.add) % 2 ^ 64 ≡ c.add = omega (arith, added, stays) in
    ap₂ carry e f

-- what is carried to the unit's pixel j is what is carried to pixel `first + ways * j` of the row
pub stride_carried : (c : Carried) (first ways j : ℕ) → carried_to (stridden c first ways) j ≡ carried_to c (first + ways * j)
unfolding carried_to
stride_carried c first ways j =
    ap (λ (n : ℕ). n / carried_one)
    (times_mod ((c.first + (first * c.add) % 2 ^ 64) % 2 ^ 64) (ways * c.add) (2 ^ 64) j
    ∙ mod-add-mod (c.first + (first * c.add) % 2 ^ 64) (2 ^ 64) (j * (ways * c.add))
    ∙ ap (λ (n : ℕ). n % 2 ^ 64) (swap c.first ((first * c.add) % 2 ^ 64) (j * (ways * c.add)))
    ∙ add-mod-mod (c.first + j * (ways * c.add)) (first * c.add) (2 ^ 64)
    ∙ ap (λ (n : ℕ). n % 2 ^ 64) (swap c.first (j * (ways * c.add)) (first * c.add) ∙ stride_sum c.first c.add first ways j))
  where
    swap : (a b d : ℕ) → a + b + d ≡ a + d + b
    swap a b d = omega arith

-- ---- a run

outside : (frame : Frame) (rows x y : ℕ) → mine (layout_of frame) x ≡ false → in_memory frame rows x y ≡ false
unfolding in_memory
outside frame rows x y e = rw e (go (ltb x frame.line && ltb y rows))
  where
    go : (b : Bool) → b && false ≡ false
    go true = refl
    go false = refl

-- what is offered of a row is what the unit has of it
pub share_span : (pen : Pen) (ways rows : ℕ) (kind : Kind) (lo hi y : ℕ) (i z : Carried) → Shares pen.frame ways → hi ≤ pen.frame.line → y < rows
    → span_offers pen rows kind lo hi y i z
    ≡ own_offers pen kind ways (lo + until_own ways pen.frame.layout lo) (own_below ways (until_own ways pen.frame.layout lo) (hi - lo)) y
    (stridden i (until_own ways pen.frame.layout lo) ways) (stridden z (until_own ways pen.frame.layout lo) ways)
unfolding span_offers own_offers
share_span pen ways rows kind lo hi y i z s low used =
    spans_some (λ k. seen pen rows (span_pixel kind lo y i z k))
    (λ j. shown pen (offer kind (lo + first + ways * j) y (carried_to (stridden i first ways) j) (carried_to (stridden z first ways) j))) (own_below ways first) (hi - lo)
    (own_none first 0 ways s.few first_low (omega arith)) (λ k l. turn k l (mine (layout_of pen.frame) (lo + k)) refl)
  where
    first : ℕ
    first = until_own ways pen.frame.layout lo

    first_low : first < ways
    first_low = until_low pen.frame.layout lo ways (few_some ways s.few)

    pixel : (k q : ℕ) → first + ways * q ≡ k
        → shown pen (span_pixel kind lo y i z k) ≡ shown pen (offer kind (lo + first + ways * q) y (carried_to (stridden i first ways) q) (carried_to (stridden z first ways) q))
    pixel k q e =
        ap (λ (m : ℕ). shown pen (span_pixel kind lo y i z m)) (sym e)
        ∙ ap (λ (x : ℕ). shown pen (offer kind x y (carried_to i (first + ways * q)) (carried_to z (first + ways * q)))) (sym (add_assoc lo first (ways * q)))
        ∙ ap₂ (λ (a b : ℕ). shown pen (offer kind (lo + first + ways * q) y a b)) (sym (stride_carried i first ways q)) (sym (stride_carried z first ways q))

    turn : (k : ℕ) → k < hi - lo → (b : Bool) → mine (layout_of pen.frame) (lo + k) ≡ b
        → ((seen pen rows (span_pixel kind lo y i z k) ≡ []) × (own_below ways first (k + 1) ≡ own_below ways first k))
        ⊎ ((seen pen rows (span_pixel kind lo y i z k)
        ≡ shown pen (offer kind (lo + first + ways * own_below ways first k) y (carried_to (stridden i first ways) (own_below ways first k)) (carried_to (stridden z first ways) (own_below ways first k))))
        × (own_below ways first (k + 1) ≡ own_below ways first k + 1))
    turn k l true e =
        let own = own_here first k ways s.few first_low (own_rest pen.frame.layout lo k ways s.few s.least s.most (eqb-true _ _ (sym (own_mine pen.frame ways s (lo + k)) ∙ e))) in
        inr (
          seen_inside pen rows (span_pixel kind lo y i z k) (inside_of pen.frame rows (lo + k) y (omega (arith, l, low)) used e) ∙ pixel k (own_below ways first k) own.0,
          own.1,
        )
    turn k l false e =
        inl (
          seen_outside pen rows (span_pixel kind lo y i z k) (outside pen.frame rows (lo + k) y e),
          own_there first k ways s.few first_low (λ r. eqb-false _ _ (sym (own_mine pen.frame ways s (lo + k)) ∙ e) (rest_own pen.frame.layout lo k ways s.few s.least s.most r)),
        )

module _ (pen : Pen) (ways rows : ℕ) (kind : Kind) (lo hi y : ℕ) (i z : Carried) (s : Shares pen.frame ways) (low : hi ≤ pen.frame.line) (used : y < rows) where
  -- so code that has found its first pixel, how many there are and the numbers at each of them has what is offered of the row
  pub share_found : {first own : ℕ} {si sz : Carried} → first ≡ until_own ways pen.frame.layout lo → own ≡ own_below ways first (hi - lo)
      → si ≡ stridden i first ways → sz ≡ stridden z first ways → own_offers pen kind ways (lo + first) own y si sz ≡ span_offers pen rows kind lo hi y i z
  share_found {first} {own} {si} {sz} ef eo ei ez =
      ap₂ (λ (n : ℕ) (c : Carried). own_offers pen kind ways (lo + first) n y c sz) eo ei
      ∙ ap (λ (c : Carried). own_offers pen kind ways (lo + first) (own_below ways first (hi - lo)) y (stridden i first ways) c) ez
      ∙ ap (λ (m : ℕ). own_offers pen kind ways (lo + m) (own_below ways m (hi - lo)) y (stridden i m ways) (stridden z m ways)) ef
      ∙ sym (share_span pen ways rows kind lo hi y i z s low used)

  -- before its first pixel there is none
  pub share_none : {first : ℕ} → first ≡ until_own ways pen.frame.layout lo → first < ways → hi - lo ≤ first → span_offers pen rows kind lo hi y i z ≡ []
  unfolding own_offers
  share_none {first} ef few past = sym (share_found ef (sym (own_none first (hi - lo) ways s.few few past)) refl refl) ∙ spans_zero _

-- a turn of the loop over them
pub own_turn : (pen : Pen) (kind : Kind) (x y : ℕ) (i z : Carried) (j : ℕ) (p : Picture) {q : Picture} {iw zw : ℕ} → iw ≡ carried_to i j → zw ≡ carried_to z j
    → q ≡ drawn pen (shown pen (offer kind x y iw zw)) p → q ≡ drawn pen (shown pen (offer kind x y (carried_to i j) (carried_to z j))) p
own_turn pen kind x y i z j p ei ez e = e ∙ ap₂ (λ (a b : ℕ). drawn pen (shown pen (offer kind x y a b)) p) ei ez

-- its first pixel is one that the unit has
pub first_mine : (frame : Frame) (ways lo : ℕ) → Shares frame ways → mine (layout_of frame) (lo + until_own ways frame.layout lo) ≡ true
first_mine frame ways lo s = own_mine frame ways s _ ∙ eq-eqb _ _ (until_own_lem frame.layout lo ways s.few s.least s.most)
