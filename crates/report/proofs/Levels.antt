-- Levels: their bounds and their order, the range that they are of, and a memory that is turned into them place by place. Assumes nothing.
use mathlib.Core.Path.{◌≡◌, refl, sym, ap, ap₂, ◌∙◌}
use mathlib.Core.Bool.{Bool, true, false, cond, ◌&&◌}
use mathlib.Core.List.{List, [], ◌∷◌, ◌++◌, append_assoc, append-nil}
use Prim.Native.Nat.{ℕ, zero, suc, ◌+◌, ◌-◌, ◌*◌, ◌/◌, ◌≤◌, ◌<◌, min, max}
use native.Mathlib.Nat.{div-zero, suc-mul, le_trans, div-mul-le_self, le-div_iff_mul-le, div-lt_iff_lt-mul}
use native.Mathlib.Numerals.{add-one}
use native.Mathlib.Omega.{arith}
use borrow.Author.Tests.{eq-eqb, ne_eqb, eqb-true, eqb-false, ltb-true, ltb-false}
use lib.ListN.{length, get_or, drop, set, length-append}
use lib.Seq.{drop-cons, drop-length, set_at, get_or_at}
use lib.Dec.{ltb, eqb}
use Rattle.report.specs.declared.scale.Range.{Range}
use Rattle.report.specs.Levels.{is_fresh, chosen, between, widened, seen, range_of, base_of, nearest, level_of, level_at, levels_in, levels, drawn_places}

-- ---- a share of a span

-- no span
nearest_none : (share : ℕ) → nearest share 0 ≡ 0
unfolding nearest
nearest_none share = div-zero (share * 255 + 0 / 2)

module _ (span : ℕ) (some : 0 < span) where
  -- a share has at most 255 parts
  pub parts_low : (share : ℕ) → share ≤ span → (share * 255 + span / 2) / span ≤ 255
  parts_low share h =
      let q : (share * 255 + span / 2) / span < 256 = (div-lt_iff_lt-mul some).1 (omega arith) in
      omega (arith, q)

  nearest_low : (share : ℕ) → share ≤ span → nearest share span ≤ 255
  unfolding nearest
  nearest_low share h = parts_low share h

  -- none has none
  nearest_least : nearest 0 span ≡ 0
  unfolding nearest
  nearest_least =
      let q : (0 * 255 + span / 2) / span < 1 = (div-lt_iff_lt-mul some).1 (omega arith) in
      omega (arith, q)

  -- the whole span has all
  nearest_whole : nearest span span ≡ 255
  unfolding nearest
  nearest_whole =
      let q : 255 ≤ (span * 255 + span / 2) / span = (le-div_iff_mul-le some).1 (omega arith) in
      let p : (span * 255 + span / 2) / span < 256 = (div-lt_iff_lt-mul some).1 (omega arith) in
      omega (arith, p, q)

  -- a greater share has no fewer
  nearest_more : (a b : ℕ) → a ≤ b → nearest a span ≤ nearest b span
  unfolding nearest
  nearest_more a b h = (le-div_iff_mul-le some).1 (le_trans (div-mul-le_self (a * 255 + span / 2) span) (omega arith))

  -- no other number of parts is nearer: they are off by half a part at most
  nearest_near : (share : ℕ) → (2 * (nearest share span * span) ≤ 2 * (share * 255) + span) × (2 * (share * 255) ≤ 2 * (nearest share span * span) + span)
  unfolding nearest
  nearest_near share =
      let q = (share * 255 + span / 2) / span in
      let low : q * span ≤ share * 255 + span / 2 = div-mul-le_self (share * 255 + span / 2) span in
      let high : share * 255 + span / 2 < suc q * span = (div-lt_iff_lt-mul some).0 (omega arith) in
      (omega (arith, low), omega (arith, high, suc-mul q span))

-- ---- a range

-- where the least number of a range and its greatest are alike, 0 is the number that shows as 0
pub base_alike : (r : Range) → r.low ≡ r.high → base_of r ≡ 0
unfolding base_of
base_alike r e = rw (eq-eqb r.low r.high e)

-- where they differ, the least number of the range is the one that shows as 0
pub base_other : (r : Range) → (r.low ≡ r.high → ⊥) → base_of r ≡ r.low
unfolding base_of
base_other r h = rw (ne_eqb r.low r.high h)

base_least : (r : Range) → r.low < r.high → base_of r ≡ r.low
base_least r h = base_other r (λ e. omega arith)

module _ (r : Range) where
  -- levels are numbers of 8 bits, whatever the number
  pub level_low : (n : ℕ) → level_of r n ≤ 255
  unfolding level_of
  level_low n = go (r.high - base_of r) refl
    where
      go : (span : ℕ) → r.high - base_of r ≡ span → nearest (min n r.high - base_of r) span ≤ 255
      go zero e = omega (arith, nearest_none (min n r.high - base_of r))
      go (suc span) e = nearest_low (suc span) (omega arith) (min n r.high - base_of r) (omega arith)

  -- order is kept
  pub level_order : (m n : ℕ) → m ≤ n → level_of r m ≤ level_of r n
  unfolding level_of
  level_order m n h = go (r.high - base_of r)
    where
      go : (span : ℕ) → nearest (min m r.high - base_of r) span ≤ nearest (min n r.high - base_of r) span
      go zero = omega (arith, nearest_none (min m r.high - base_of r))
      go (suc span) = nearest_more (suc span) (omega arith) (min m r.high - base_of r) (min n r.high - base_of r) (omega arith)

  -- the least number of a range shows as 0
  pub level_least : r.low < r.high → level_of r r.low ≡ 0
  unfolding level_of
  level_least h =
      let base = base_least r h in
      let none : min r.low r.high - base_of r ≡ 0 = omega (arith, base) in
      rw none (nearest_least (r.high - base_of r) (omega (arith, base)))

  -- and the greatest as 255, unless it is 0
  pub level_greatest : r.low ≤ r.high → 0 < r.high → level_of r r.high ≡ 255
  unfolding level_of
  level_greatest h some = go (ltb r.low r.high) refl
    where
      whole : 0 < r.high - base_of r → nearest (min r.high r.high - base_of r) (r.high - base_of r) ≡ 255
      whole k =
          let all : min r.high r.high - base_of r ≡ r.high - base_of r = omega arith in
          rw all (nearest_whole (r.high - base_of r) k)

      go : (b : Bool) → ltb r.low r.high ≡ b → nearest (min r.high r.high - base_of r) (r.high - base_of r) ≡ 255
      go true t =
          let less = ltb-true r.low r.high t in
          whole (omega (arith, base_least r less, less))
      go false t =
          let more = ltb-false r.low r.high t in
          let same : r.low ≡ r.high = omega (arith, more, h) in
          whole (omega (arith, base_alike r same, some))

  -- between them a number has the level that is nearest to its share
  pub level_near : (n : ℕ) → r.low < r.high → r.low ≤ n → n ≤ r.high
      → (2 * (level_of r n * (r.high - r.low)) ≤ 2 * ((n - r.low) * 255) + (r.high - r.low))
      × (2 * ((n - r.low) * 255) ≤ 2 * (level_of r n * (r.high - r.low)) + (r.high - r.low))
  unfolding level_of
  level_near n h g k =
      let same : min n r.high ≡ n = omega arith in
      rw (base_least r h, same) (nearest_near (r.high - r.low) (omega arith) (n - r.low))

-- ---- how the code finds a level

module _ (r : Range) (n : ℕ) {base span : ℕ} (e : base ≡ base_of r) (f : span ≡ r.high - base) where
  -- of no span, 0
  pub level_flat : span ≡ 0 → 0 ≡ level_of r n
  unfolding level_of
  level_flat z =
      let none : r.high - base_of r ≡ 0 = sym (rw e at f) ∙ z in
      rw none (sym (nearest_none (min n r.high - base_of r)))

  -- 255 times a number's share and half the span, divided by the span, is the number's level
  pub level_told : {m share : ℕ} → m ≡ min n r.high → share ≡ m - base → (share * 255 + span / 2) / span ≡ level_of r n
  unfolding level_of nearest
  level_told {m} {share} g h =
      let part : share ≡ min n r.high - base_of r = rw (e, g) at h in
      let whole : span ≡ r.high - base_of r = rw e at f in
      rw (part, whole)

module _ (depth : Bool) (r : Range) (i z : ℕ) {fresh : Bool} (e : fresh ≡ is_fresh i z) where
  -- a place that nothing was drawn at is black
  pub level_dark : fresh ≡ true → 0 ≡ level_at depth r i z
  unfolding level_at
  level_dark t =
      let is : is_fresh i z ≡ true = sym e ∙ t in
      rw is

  -- any other has its number's level
  pub level_lit : {n level : ℕ} → fresh ≡ false → n ≡ chosen depth i z → level ≡ level_of r n → level ≡ level_at depth r i z
  unfolding level_at
  level_lit t p q =
      let is : is_fresh i z ≡ false = sym e ∙ t in
      rw is (q ∙ ap (level_of r) p)

  -- a place that is left out of a range leaves it
  pub seen_left : (depth && fresh) ≡ true → r ≡ seen depth r i z
  unfolding seen
  seen_left t =
      let out : (depth && is_fresh i z) ≡ true = ap (λ (b : Bool). depth && b) (sym e) ∙ t in
      rw out

  -- any other widens it
  pub seen_more : {n : ℕ} {q : Range} → (depth && fresh) ≡ false → n ≡ chosen depth i z → q ≡ widened r n → q ≡ seen depth r i z
  unfolding seen
  seen_more t p w =
      let in_it : (depth && is_fresh i z) ≡ false = ap (λ (b : Bool). depth && b) (sym e) ∙ t in
      rw in_it (w ∙ ap (widened r) p)

-- ---- the range of a picture

-- the number of a place that is shown
abbrev shown_at : Bool → List ℕ → List ℕ → ℕ → ℕ
shown_at depth im zm k = chosen depth (get_or im k 0) (get_or zm k 0)

-- a range holds a number
abbrev Within : ℕ → Range → Type 0
Within n r = (r.low ≤ n) × (n ≤ r.high)

module _ (depth : Bool) (im zm : List ℕ) where
  -- one place more
  range_more : (n : ℕ) → range_of depth im zm (n + 1) ≡ seen depth (range_of depth im zm n) (get_or im n 0) (get_or zm n 0)
  unfolding range_of
  range_more n = rw (add-one n)

  -- no place at all gives the range from 65535 to 0
  pub range_none : between 65535 0 ≡ range_of depth im zm 0
  unfolding range_of
  range_none = refl

  -- a range that has come so far, with the next place
  pub range_turn : (k : ℕ) {q r : Range} {z : ℕ} → q ≡ seen depth r (get_or im k 0) z → z ≡ get_or zm k 0 → r ≡ range_of depth im zm k
      → q ≡ range_of depth im zm (k + 1)
  range_turn k p e f = p ∙ ap₂ (λ (s : Range) (v : ℕ). seen depth s (get_or im k 0) v) f e ∙ sym (range_more k)

  seen_wider : (r : Range) (i z n : ℕ) → Within n r → Within n (seen depth r i z)
  unfolding seen
  seen_wider r i z n w = go (depth && is_fresh i z)
    where
      go : (b : Bool) → Within n (cond b r (record { low = min r.low (chosen depth i z); high = max r.high (chosen depth i z) }))
      go true = w
      go false = (omega (arith, w.0), omega (arith, w.1))

  seen_holds : (r : Range) (i z : ℕ) → (depth && is_fresh i z) ≡ false → Within (chosen depth i z) (seen depth r i z)
  unfolding seen
  seen_holds r i z e = rw e (omega arith, omega arith)

  -- each number that is shown lies in it; of Z, those of places where something was drawn
  pub range_holds : (n k : ℕ) → k < n → (depth && is_fresh (get_or im k 0) (get_or zm k 0)) ≡ false
      → Within (shown_at depth im zm k) (range_of depth im zm n)
  unfolding range_of
  range_holds zero k h e = absurd (omega arith)
  range_holds (suc n) k h e = go (eqb k n) refl (λ low. range_holds n k low e)
    where
      less : eqb k n ≡ false → k < n
      less t = let other = eqb-false k n t in omega (arith, h, other)

      go : (b : Bool) → eqb k n ≡ b → (k < n → Within (shown_at depth im zm k) (range_of depth im zm n))
          → Within (shown_at depth im zm k) (seen depth (range_of depth im zm n) (get_or im n 0) (get_or zm n 0))
      go true t ih = rw (eqb-true k n t) (seen_holds (range_of depth im zm n) (get_or im n 0) (get_or zm n 0) (rw (eqb-true k n t) at e))
      go false t ih = seen_wider (range_of depth im zm n) (get_or im n 0) (get_or zm n 0) (shown_at depth im zm k) (ih (less t))

-- ---- levels in place of a memory's numbers

module _ (depth : Bool) (r : Range) (im zm : List ℕ) where
  length_levels : (n : ℕ) → length (levels_in depth r im zm n) ≡ n
  unfolding levels_in
  length_levels zero = refl
  length_levels (suc n) =
      omega (arith, length-append (levels_in depth r im zm n) (level_at depth r (get_or im n 0) (get_or zm n 0) ∷ []), length_levels n)

  module _ (k : ℕ) (h : k < length im) {now : List ℕ} (e : now ≡ levels_in depth r im zm k ++ drop k im) where
    split : now ≡ levels_in depth r im zm k ++ (get_or im k 0 ∷ drop (suc k) im)
    split = e ∙ ap (λ (l : List ℕ). levels_in depth r im zm k ++ l) (drop-cons im k 0 h)

    -- the next place still has its number
    level_next : get_or now k 0 ≡ get_or im k 0
    level_next = ap (λ (l : List ℕ). get_or l k 0) split ∙ get_or_at (levels_in depth r im zm k) (get_or im k 0) (drop (suc k) im) 0 k (length_levels k)

    -- and gets its level
    level_stored : set now k (level_at depth r (get_or im k 0) (get_or zm k 0)) ≡ levels_in depth r im zm (k + 1) ++ drop (k + 1) im
    unfolding levels_in
    level_stored =
        let level = level_at depth r (get_or im k 0) (get_or zm k 0) in
        let before = levels_in depth r im zm k in
        rw (add-one k)
        (ap (λ (l : List ℕ). set l k level) split
        ∙ set_at before (get_or im k 0) (drop (suc k) im) level k (length_levels k)
        ∙ sym (append_assoc before (level ∷ []) (drop (suc k) im)))

    -- so that one turn of a loop stores it
    pub level_turn : {z level : ℕ} → level ≡ level_at depth r (get_or now k 0) z → z ≡ get_or zm k 0
        → set now k level ≡ levels_in depth r im zm (k + 1) ++ drop (k + 1) im
    level_turn p q = ap (set now k) (p ∙ ap₂ (λ (i v : ℕ). level_at depth r i v) level_next q) ∙ level_stored

  -- at first there is none
  pub levels_none : im ≡ levels_in depth r im zm 0 ++ drop 0 im
  unfolding levels_in
  levels_none = refl

  -- and in the end nothing else
  pub levels_all : (k : ℕ) {now : List ℕ} → r ≡ range_of depth im zm (length im) → k ≡ length im → now ≡ levels_in depth r im zm k ++ drop k im
      → now ≡ levels depth im zm (length im)
  unfolding levels
  levels_all k f all e =
      let whole = rw (all, drop-length im) at e in
      whole ∙ append-nil (levels_in depth r im zm (length im)) ∙ ap (λ (q : Range). levels_in depth q im zm (length im)) f

-- ---- up to where anything was drawn

-- a place that nothing was drawn at is left out, and any other is the last
pub drawn_next : (im zm : List ℕ) (left last : ℕ) {i z : ℕ} {fresh : Bool} → left ≡ suc last → i ≡ get_or im last 0 → z ≡ get_or zm last 0 → fresh ≡ is_fresh i z
    → cond fresh (drawn_places im zm last) left ≡ drawn_places im zm left
unfolding drawn_places
drawn_next im zm left last e p q f = rw (e, f, p, q)

-- where no places are looked at, there are none up to the last that anything was drawn at
pub drawn_none : (im zm : List ℕ) → drawn_places im zm 0 ≡ 0
unfolding drawn_places
drawn_none im zm = refl

-- no more places than were looked at
pub drawn_low : (im zm : List ℕ) (n : ℕ) → drawn_places im zm n ≤ n
unfolding drawn_places
drawn_low im zm zero = omega arith
drawn_low im zm (suc n) = go (is_fresh (get_or im n 0) (get_or zm n 0)) (drawn_low im zm n)
  where
    go : (b : Bool) → drawn_places im zm n ≤ n → cond b (drawn_places im zm n) (suc n) ≤ suc n
    go true h = omega arith
    go false h = omega arith
