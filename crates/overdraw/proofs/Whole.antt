-- A number that has no more digits than its columns stands there whole: blanks, and then the number in decimal. So it is with every number of the
-- report. Assumes nothing.
use mathlib.Core.Path.{◌≡◌, refl, ap, ◌∙◌}
use mathlib.Core.Bool.{Bool, true, false}
use mathlib.Core.List.{List, [], ◌∷◌, ◌++◌, append_assoc}
use Prim.Native.Nat.{ℕ, zero, suc, ◌+◌, ◌-◌, ◌*◌, ◌/◌, ◌%◌, ◌^◌, ◌≤◌, ◌<◌}
use native.Mathlib.Nat.{pow-suc, div-zero, div-lt_iff_lt-mul}
use native.Mathlib.Omega.{arith}
use lib.Dec.{ltb}
use lib.ListN.{length, replicate}
use borrow.Author.Tests.{ne_eqb, ltb-true, ltb-false}
use Rattle.picture.specs.declared.Kind.{Kind}
use Rattle.report.specs.Text.{decimal}
use Rattle.report.proofs.Decimal.{decimal_small, decimal_more, length_small, length_more, decimal_below}
use Rattle.tally.specs.declared.Count.{Count}
use Rattle.tally.specs.Tally.{Balanced, Within, count_in}
use Rattle.tally.specs.Overdraw.{tallies_of}
use Rattle.tally.proofs.Adding.{each_more, kind_within}
use Rattle.tally.proofs.Overdraw.{streams_small, overdraw}
use Rattle.overdraw.specs.Text.{glyph, front, columns, percent_of}

-- so many blanks
abbrev pub blanks : ℕ → List ℕ
blanks k = replicate k 32

blanks_more : (k : ℕ) → blanks k ++ (32 ∷ []) ≡ blanks (suc k)
blanks_more zero = refl
blanks_more (suc k) = ap (λ (l : List ℕ). 32 ∷ l) (blanks_more k)

-- of nothing, blanks
front_none : (k : ℕ) → front k 0 ≡ blanks k
unfolding front glyph
front_none zero = refl
front_none (suc k) = rw (front_none k) (blanks_more k)

glyph_some : (n : ℕ) → 1 ≤ n → glyph n ≡ 48 + n % 10
unfolding glyph
glyph_some n h = rw (ne_eqb n 0 (λ e. omega (arith, e, h)))

-- a number at the right of k columns
abbrev pub aligned : ℕ → ℕ → List ℕ
aligned k n = blanks (k - length (decimal n)) ++ decimal n

-- one digit behind it
aligned_more : (k n : ℕ) → 10 ≤ n → aligned k (n / 10) ++ ((48 + n % 10) ∷ []) ≡ aligned (suc k) n
aligned_more k n h =
    let less : suc k - length (decimal n) ≡ k - length (decimal (n / 10)) = omega (arith, length_more n h) in
    append_assoc (blanks (k - length (decimal (n / 10)))) (decimal (n / 10)) ((48 + n % 10) ∷ []) ∙ rw (less, decimal_more n h)

aligned_small : (k n : ℕ) → n < 10 → blanks k ++ ((48 + n % 10) ∷ []) ≡ aligned (suc k) n
aligned_small k n h =
    let less : suc k - length (decimal n) ≡ k = omega (arith, length_small n h) in
    rw (less, decimal_small n h)

-- what stands in front of a digit, by whether it is the first
front_some : (k n : ℕ) → 1 ≤ n → n < 10 ^ k → front k n ≡ aligned k n
unfolding front
front_some zero n h low = absurd (omega (arith, h, low))
front_some (suc k) n h low = rw (glyph_some n h) (go (ltb n 10) refl (λ big. front_some k (n / 10) (omega (arith, big)) (omega (arith, low, pow-suc 10 k))))
  where
    go : (b : Bool) → ltb n 10 ≡ b → (10 ≤ n → front k (n / 10) ≡ aligned k (n / 10)) → front k (n / 10) ++ ((48 + n % 10) ∷ []) ≡ aligned (suc k) n
    go true t e =
        let none : n / 10 ≡ 0 = omega (arith, ltb-true n 10 t) in
        ap (λ (m : ℕ). front k m ++ ((48 + n % 10) ∷ [])) none ∙ ap (λ (l : List ℕ). l ++ ((48 + n % 10) ∷ [])) (front_none k) ∙ aligned_small k n (ltb-true n 10 t)
    go false t e =
        let big = ltb-false n 10 t in
        ap (λ (l : List ℕ). l ++ ((48 + n % 10) ∷ [])) (e big) ∙ aligned_more k n big

-- a number that fits its columns stands there whole
pub columns_whole : (k n : ℕ) → n < 10 ^ suc k → columns (suc k) n ≡ aligned (suc k) n
unfolding columns
columns_whole k n low = go (ltb n 10) refl
  where
    go : (b : Bool) → ltb n 10 ≡ b → front k (n / 10) ++ ((48 + n % 10) ∷ []) ≡ aligned (suc k) n
    go true t =
        let none : n / 10 ≡ 0 = omega (arith, ltb-true n 10 t) in
        ap (λ (m : ℕ). front k m ++ ((48 + n % 10) ∷ [])) none ∙ ap (λ (l : List ℕ). l ++ ((48 + n % 10) ∷ [])) (front_none k) ∙ aligned_small k n (ltb-true n 10 t)
    go false t =
        let big = ltb-false n 10 t in
        ap (λ (l : List ℕ). l ++ ((48 + n % 10) ∷ [])) (front_some k (n / 10) (omega (arith, big)) (omega (arith, low, pow-suc 10 k))) ∙ aligned_more k n big

-- ---- the numbers of the report

-- no share is above a hundred
percent_low : (c : Count) → Balanced c → percent_of c ≤ 100
unfolding percent_of
percent_low c h = go c.offered refl
  where
    go : (n : ℕ) → c.offered ≡ n → c.hidden * 100 / n ≤ 100
    go zero e = omega (arith, div-zero (c.hidden * 100))
    go (suc n) e =
        let low : c.hidden * 100 / suc n < 101 = (div-lt_iff_lt-mul {k = suc n} {x = c.hidden * 100} {y = 101} (omega arith)).1 (omega (arith, h, e)) in
        omega (arith, low)

-- of all that a thousand recordings come to, each number stands whole, with a blank in front of it
pub record Legible (c : Count) : Type 0 where
  pub figures : columns 8 c.figures ≡ 32 ∷ aligned 7 c.figures
  pub offered : columns 16 c.offered ≡ 32 ∷ aligned 15 c.offered
  pub passed : columns 16 c.passed ≡ 32 ∷ aligned 15 c.passed
  pub hidden : columns 16 c.hidden ≡ 32 ∷ aligned 15 c.hidden
  pub percent : columns 8 (percent_of c) ≡ 32 ∷ aligned 7 (percent_of c)

-- a number with fewer digits than it has columns has a blank in front
spaced : (k n : ℕ) → n < 10 ^ suc k → columns (suc (suc k)) n ≡ 32 ∷ aligned (suc k) n
spaced k n low =
    let short = decimal_below k n low in
    let more : suc (suc k) - length (decimal n) ≡ suc (suc k - length (decimal n)) = omega (arith, short) in
    columns_whole (suc k) n (omega (arith, low, pow-suc 10 (suc k))) ∙ ap (λ (m : ℕ). blanks m ++ decimal n) more

legible : (c : Count) → Within 3276000 c → Balanced c → Legible c
legible c h b =
    record {
      figures = spaced 6 c.figures (omega (arith, h.figures));
      offered = spaced 14 c.offered (omega (arith, h.offered));
      passed = spaced 14 c.passed (omega (arith, h.passed));
      hidden = spaced 14 c.hidden (omega (arith, h.hidden));
      percent = spaced 6 (percent_of c) (omega (arith, percent_low c b));
    }

-- so it is with every kind in the total of at most a thousand recordings, a single one among them
pub total_legible : (streams : List (List ℕ)) → length streams ≤ 1000 → (kind : Kind) → Legible (count_in kind (tallies_of streams))
total_legible streams few kind =
    legible (count_in kind (tallies_of streams)) (kind_within 3276000 kind (tallies_of streams) (each_more (length streams * 3276) 3276000 (tallies_of streams) (omega (arith, few)) (streams_small streams)))
    ((overdraw.total streams).at kind)
