-- Parameters that have come: what is so of each of them, and of one more. Assumes nothing.
use mathlib.Core.Path.{◌≡◌, refl, sym, subst, ◌∙◌}
use mathlib.Core.Bool.{Bool, true, false, true≢false}
use mathlib.Core.List.{List, [], ◌∷◌}
use mathlib.Core.Logic.{⊎_elim}
use Prim.Native.Nat.{ℕ, zero, suc, ◌+◌, ◌≤◌, ◌<◌}
use native.Mathlib.Nat.{eq-or-lt_of_le, le_of_suc-le-suc, not-suc-le-zero}
use native.Mathlib.Numerals.{add-one}
use native.Mathlib.Omega.{arith}
use lib.ListN.{set, length, get_or}
use lib.Seq.{get_or-set_other}
use Rattle.std.specs.Bool.{MatchBool}
use Rattle.std.specs.List.{AllWithin, HoldsAt, range_with_len}
use Rattle.std.proofs.lemmas.List.FromFn.{length-range_with_len, get_or-range_with_len}
use Rattle.registers.specs.Next.{value}
use Rattle.refusals.specs.Bounds.{each_came}
use Rattle.ground.proofs.Truth.{both, and_both}

-- what is so of a value that is stored, and of 0, is so of what then stands at its place
set_at : (P : ℕ → Bool) (l : List ℕ) (i v : ℕ) → P 0 ≡ true → P v ≡ true → P (value (set l i v) i) ≡ true
set_at P [] i v z p = z
set_at P (x ∷ xs) zero v z p = p
set_at P (x ∷ xs) (suc i) v z p = set_at P xs i v z p

module _ (test : ℕ → ℕ → Bool) (l : List ℕ) where
  -- what is so of each value that has come is so of one of them
  pub came_each : (n : ℕ) → each_came test l n ≡ true → (k : ℕ) → k < n → test k (value l k) ≡ true
  came_each zero e k h = absurd (not-suc-le-zero h)
  came_each (suc n) e k h =
      let q = both (each_came test l n) (test n (value l n)) e in
      ⊎_elim (λ same. rw same q.1) (λ below. came_each n q.0 k below) (eq-or-lt_of_le (le_of_suc-le-suc h))

  -- where it is so of all below n, it is so of each that has come
  came_all : (n : ℕ) → ((k : ℕ) → k < n → test k (value l k) ≡ true) → each_came test l n ≡ true
  came_all zero so = refl
  came_all (suc n) so = and_both (came_all n (λ k below. so k (omega (arith, below)))) (so n (omega arith))

  -- where it is not so of one below n, it is not so of each
  came_not : (n k : ℕ) → k < n → test k (value l k) ≡ false → each_came test l n ≡ false
  came_not n k below e = go (each_came test l n) refl
    where
      go : (b : Bool) → each_came test l n ≡ b → each_came test l n ≡ false
      go false q = q
      go true q = absurd (true≢false (sym (came_each n q k below) ∙ e))

  range_at : (n k : ℕ) → k < n → get_or (range_with_len 0 n) k 0 ≡ k
  range_at n k below = let e = get_or-range_with_len 0 n k 0 below in omega (arith, e)

  -- so a search over the numbers below n tells it
  pub came_found : (n : ℕ) (r : Bool)
      → MatchBool r (AllWithin (λ k. test k (value l k) ≡ true) (range_with_len 0 n) 0 (length (range_with_len 0 n)))
      ((k : ℕ) × (k < length (range_with_len 0 n)) × HoldsAt (λ k. test k (value l k) ≡ false) (range_with_len 0 n) k)
      → r ≡ each_came test l n
  came_found n true all =
      sym (came_all n (λ k below.
      subst (λ (j : ℕ). test j (value l j) ≡ true) (range_at n k below) (all k 0 (omega arith) (rw (length-range_with_len 0 n) below))))
  came_found n false (k, below, barred) =
      let less = rw (length-range_with_len 0 n) at below in
      sym (came_not n k less (subst (λ (j : ℕ). test j (value l j) ≡ false) (range_at n k less) (barred 0)))

  module _ (n v : ℕ) where
    came_set : (k : ℕ) → k ≤ n → each_came test l k ≡ true → each_came test (set l n v) k ≡ true
    came_set zero h e = refl
    came_set (suc k) h e =
        let q = both (each_came test l k) (test k (value l k)) e in
        and_both (came_set k (omega (arith, h)) q.0) (rw (get_or-set_other l n k v 0 (λ same. omega (arith, h, same))) q.1)

    -- and with one more of each, if it is so of that one, and of 0
    pub came_more : test n 0 ≡ true → test n v ≡ true → each_came test l n ≡ true → each_came test (set l n v) (n + 1) ≡ true
    came_more z a e = rw add-one (and_both (came_set n (omega arith) e) (set_at (test n) l n v z a))
