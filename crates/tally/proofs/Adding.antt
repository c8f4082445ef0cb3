-- Tallies added up: what is balanced stays balanced, what is within a bound stays within the sum and is kept whole, and a total is a sum. Assumes
-- nothing.
use Rattle.std.proofs.Common.{◌≡◌, ℕ, ◌+◌, ◌*◌, ◌%◌, ◌^◌, ◌≤◌, List, [], ◌∷◌, ◌++◌, length, refl, ap, ◌∙◌, subst, add_assoc, mod-eq_of_lt, zero-add, arith}
use mathlib.Core.List.{foldl, foldl-append}
use Rattle.picture.specs.declared.Kind.{Kind}
use Rattle.picture.specs.declared.Kind.TheVariants.{Gouraud, Constant, Line0, Line1, Line2}
use Rattle.tally.specs.declared.Count.{Count}
use Rattle.tally.specs.declared.Tally.{Tally}
use Rattle.tally.specs.Tally.{
  no_count,
  together,
  kept_count,
  Balanced,
  Within,
  no_tally,
  only_of,
  count_in,
  added,
  kept,
  total_of,
  sum_of,
  figures_in,
  passed_in,
  EachBalanced,
  EachWithin,
}

-- ---- one count

together_balanced : (c d : Count) → Balanced c → Balanced d → Balanced (together c d)
together_balanced c d h k = omega (arith, h, k)

together_within : (m n : ℕ) (c d : Count) → Within m c → Within n d → Within (m + n) (together c d)
together_within m n c d h k =
    record {
      figures = omega (arith, h.figures, k.figures);
      offered = omega (arith, h.offered, k.offered);
      passed = omega (arith, h.passed, k.passed);
      hidden = omega (arith, h.hidden, k.hidden);
    }

within_more : (m n : ℕ) (c : Count) → m ≤ n → Within m c → Within n c
within_more m n c l h =
    record {
      figures = omega (arith, l, h.figures);
      offered = omega (arith, l, h.offered);
      passed = omega (arith, l, h.passed);
      hidden = omega (arith, l, h.hidden);
    }

none_within : (n : ℕ) → Within n no_count
none_within n = record { figures = omega arith; offered = omega arith; passed = omega arith; hidden = omega arith }

-- what so few words come to, 64 bits keep whole
kept_count_lem : (n : ℕ) (c : Count) → n ≤ 4294967296 → Within n c → kept_count c ≡ c
kept_count_lem n c l h =
    let figures : c.figures % 2 ^ 64 ≡ c.figures = mod-eq_of_lt (omega (arith, l, h.figures)) in
    let offered : c.offered % 2 ^ 64 ≡ c.offered = mod-eq_of_lt (omega (arith, l, h.offered)) in
    let passed : c.passed % 2 ^ 64 ≡ c.passed = mod-eq_of_lt (omega (arith, l, h.passed)) in
    let hidden : c.hidden % 2 ^ 64 ≡ c.hidden = mod-eq_of_lt (omega (arith, l, h.hidden)) in
    rw (figures, offered, passed, hidden)

-- ---- all kinds

-- the count of a kind in a sum
count_added : (kind : Kind) (t u : Tally) → count_in kind (added t u) ≡ together (count_in kind t) (count_in kind u)
count_added Gouraud t u = refl
count_added Constant t u = refl
count_added Line0 t u = refl
count_added Line1 t u = refl
count_added Line2 t u = refl

count_none : (kind : Kind) → count_in kind no_tally ≡ no_count
count_none Gouraud = refl
count_none Constant = refl
count_none Line0 = refl
count_none Line1 = refl
count_none Line2 = refl

-- a tally that counts nothing is balanced in every kind
pub none_balanced : EachBalanced no_tally
none_balanced = record { at = λ kind. rw (count_none kind) refl }

-- two tallies that are balanced in every kind are so when added
pub added_balanced : (t u : Tally) → EachBalanced t → EachBalanced u → EachBalanced (added t u)
added_balanced t u h k = record { at = λ kind. rw (count_added kind t u) (together_balanced (count_in kind t) (count_in kind u) (h.at kind) (k.at kind)) }

-- a count of one kind
pub only_balanced : (kind : Kind) (c : Count) → Balanced c → EachBalanced (only_of kind c)
only_balanced kind c h = record { at = go kind }
  where
    go : (kind k : Kind) → Balanced (count_in k (only_of kind c))
    go Gouraud Gouraud = h
    go Gouraud Constant = refl
    go Gouraud Line0 = refl
    go Gouraud Line1 = refl
    go Gouraud Line2 = refl
    go Constant Gouraud = refl
    go Constant Constant = h
    go Constant Line0 = refl
    go Constant Line1 = refl
    go Constant Line2 = refl
    go Line0 Gouraud = refl
    go Line0 Constant = refl
    go Line0 Line0 = h
    go Line0 Line1 = refl
    go Line0 Line2 = refl
    go Line1 Gouraud = refl
    go Line1 Constant = refl
    go Line1 Line0 = refl
    go Line1 Line1 = h
    go Line1 Line2 = refl
    go Line2 Gouraud = refl
    go Line2 Constant = refl
    go Line2 Line0 = refl
    go Line2 Line1 = refl
    go Line2 Line2 = h

-- ---- within bounds

-- a tally that counts nothing is within what any number of words can come to
pub none_each : (n : ℕ) → EachWithin n no_tally
none_each n =
    record { gouraud = none_within n; constant = none_within n; line0 = none_within n; line1 = none_within n; line2 = none_within n }

-- a count of one kind that is within what n words can come to makes a tally that is so in every kind
pub only_each : (n : ℕ) (kind : Kind) (c : Count) → Within n c → EachWithin n (only_of kind c)
only_each n Gouraud c h = record { gouraud = h; constant = none_within n; line0 = none_within n; line1 = none_within n; line2 = none_within n }
only_each n Constant c h = record { gouraud = none_within n; constant = h; line0 = none_within n; line1 = none_within n; line2 = none_within n }
only_each n Line0 c h = record { gouraud = none_within n; constant = none_within n; line0 = h; line1 = none_within n; line2 = none_within n }
only_each n Line1 c h = record { gouraud = none_within n; constant = none_within n; line0 = none_within n; line1 = h; line2 = none_within n }
only_each n Line2 c h = record { gouraud = none_within n; constant = none_within n; line0 = none_within n; line1 = none_within n; line2 = h }

-- what is within the bound of some words is within that of more words
pub each_more : (m n : ℕ) (t : Tally) → m ≤ n → EachWithin m t → EachWithin n t
each_more m n t l h =
    record {
      gouraud = within_more m n t.gouraud l h.gouraud;
      constant = within_more m n t.constant l h.constant;
      line0 = within_more m n t.line0 l h.line0;
      line1 = within_more m n t.line1 l h.line1;
      line2 = within_more m n t.line2 l h.line2;
    }

-- the sum of a tally within the bound of m words and of one within that of n is within the bound of m + n
pub added_each : (m n : ℕ) (t u : Tally) → EachWithin m t → EachWithin n u → EachWithin (m + n) (added t u)
added_each m n t u h k =
    record {
      gouraud = together_within m n t.gouraud u.gouraud h.gouraud k.gouraud;
      constant = together_within m n t.constant u.constant h.constant k.constant;
      line0 = together_within m n t.line0 u.line0 h.line0 k.line0;
      line1 = together_within m n t.line1 u.line1 h.line1 k.line1;
      line2 = together_within m n t.line2 u.line2 h.line2 k.line2;
    }

-- of each kind
pub kind_within : (n : ℕ) (kind : Kind) (t : Tally) → EachWithin n t → Within n (count_in kind t)
kind_within n Gouraud t h = h.gouraud
kind_within n Constant t h = h.constant
kind_within n Line0 t h = h.line0
kind_within n Line1 t h = h.line1
kind_within n Line2 t h = h.line2

-- what at most 2^32 words can come to, numbers of 64 bits keep whole
pub kept_same : (n : ℕ) (t : Tally) → n ≤ 4294967296 → EachWithin n t → kept t ≡ t
kept_same n t l h =
    rw (
      kept_count_lem n t.gouraud l h.gouraud,
      kept_count_lem n t.constant l h.constant,
      kept_count_lem n t.line0 l h.line0,
      kept_count_lem n t.line1 l h.line1,
      kept_count_lem n t.line2 l h.line2,
    )

-- ---- what was completed, and what passed

-- a tally of one kind has as many figures in all as its count
pub figures_only : (kind : Kind) (c : Count) → figures_in (only_of kind c) ≡ c.figures
figures_only Gouraud c = omega arith
figures_only Constant c = omega arith
figures_only Line0 c = omega arith
figures_only Line1 c = omega arith
figures_only Line2 c = omega arith

-- what passed in a sum of two tallies is what passed in both
pub passed_added : (t u : Tally) → passed_in (added t u) ≡ passed_in t + passed_in u
passed_added t u = omega arith

-- a tally of one kind has as many pixels passed in all as its count
pub passed_only : (kind : Kind) (c : Count) → passed_in (only_of kind c) ≡ c.passed
passed_only Gouraud c = omega arith
passed_only Constant c = omega arith
passed_only Line0 c = omega arith
passed_only Line1 c = omega arith
passed_only Line2 c = omega arith

-- ---- totals

total_from : (f : Tally → ℕ) → ((t u : Tally) → f (added t u) ≡ f t + f u) → (ts : List Tally) (t : Tally) → f (foldl added t ts) ≡ f t + sum_of f ts
unfolding sum_of
total_from f h [] t = omega arith
total_from f h (u ∷ ts) t = total_from f h ts (added t u) ∙ ap (λ (n : ℕ). n + sum_of f ts) (h t u) ∙ add_assoc (f t) (f u) (sum_of f ts)

-- a number that adds up, and is 0 of nothing, is of a total the sum of what it is of each
pub total_sum : (f : Tally → ℕ) → f no_tally ≡ 0 → ((t u : Tally) → f (added t u) ≡ f t + f u) → (ts : List Tally) → f (total_of ts) ≡ sum_of f ts
unfolding total_of
total_sum f zero h ts = total_from f h ts no_tally ∙ ap (λ (n : ℕ). n + sum_of f ts) zero ∙ zero-add (sum_of f ts)

-- a number of each count adds up
pub kind_sum : (g : Count → ℕ) → g no_count ≡ 0 → ((c d : Count) → g (together c d) ≡ g c + g d) → (kind : Kind) (ts : List Tally)
    → g (count_in kind (total_of ts)) ≡ sum_of (λ t. g (count_in kind t)) ts
kind_sum g zero h kind =
    total_sum (λ t. g (count_in kind t)) (ap g (count_none kind) ∙ zero) (λ t u. ap g (count_added kind t u) ∙ h (count_in kind t) (count_in kind u))

-- each of some tallies is balanced
abbrev pub EveryBalanced : List Tally → Type 0
EveryBalanced [] = Unit {0}
EveryBalanced (t ∷ ts) = EachBalanced t × EveryBalanced ts

total_balanced_from : (ts : List Tally) (t : Tally) → EachBalanced t → EveryBalanced ts → EachBalanced (foldl added t ts)
total_balanced_from [] t h every = h
total_balanced_from (u ∷ ts) t h every = total_balanced_from ts (added t u) (added_balanced t u h every.0) every.1

-- the total of tallies that are balanced in every kind is so too
pub total_balanced : (ts : List Tally) → EveryBalanced ts → EachBalanced (total_of ts)
unfolding total_of
total_balanced ts every = total_balanced_from ts no_tally none_balanced every

-- each of some tallies is what so many words can come to
abbrev pub EveryWithin : ℕ → List Tally → Type 0
EveryWithin n [] = Unit {0}
EveryWithin n (t ∷ ts) = EachWithin n t × EveryWithin n ts

total_each_from : (n : ℕ) (ts : List Tally) (m : ℕ) (t : Tally) → EachWithin m t → EveryWithin n ts → EachWithin (m + length ts * n) (foldl added t ts)
total_each_from n [] m t h every = each_more m (m + 0 * n) t (omega arith) h
total_each_from n (u ∷ ts) m t h every =
    let same : m + n + length ts * n ≡ m + length (u ∷ ts) * n = omega arith in
    subst (λ (k : ℕ). EachWithin k (foldl added (added t u) ts)) same (total_each_from n ts (m + n) (added t u) (added_each m n t u h every.0) every.1)

-- the total of tallies that are each within the bound of n words is within that of n words for each
pub total_each : (n : ℕ) (ts : List Tally) → EveryWithin n ts → EachWithin (length ts * n) (total_of ts)
unfolding total_of
total_each n ts every = subst (λ (k : ℕ). EachWithin k (foldl added no_tally ts)) (zero-add (length ts * n)) (total_each_from n ts 0 no_tally (none_each 0) every)

-- one tally more
pub total_more : (ts : List Tally) (t : Tally) → total_of (ts ++ (t ∷ [])) ≡ added (total_of ts) t
unfolding total_of
total_more ts t = foldl-append added no_tally ts (t ∷ [])
