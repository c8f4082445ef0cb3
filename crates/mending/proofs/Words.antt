-- The words that are kept and those that are dropped: one word more, how many there are, and that of the lengths of two memories nothing
-- counts but that they are alike. Assumes nothing.
use mathlib.Core.Path.{◌≡◌, refl, ap, ap₂, ◌∙◌}
use mathlib.Core.Logic.{◌≢◌}
use mathlib.Core.Bool.{Bool, not, cond, ◌||◌}
use mathlib.Core.List.{List, [], ◌∷◌}
use Prim.Native.Nat.{ℕ, zero, suc, ◌+◌, ◌<◌}
use native.Mathlib.Omega.{arith}
use lib.Dec.{eqb}
use lib.ListN.{length, get_or}
use borrow.Author.Tests.{eq-eqb, ne_eqb}
use Rattle.stream.specs.Format.{unpack_of}
use Rattle.stream.proofs.Bits.{Fits, none, more}
use Rattle.registers.specs.declared.Registers.{Registers}
use Rattle.registers.specs.declared.word.Word.{Word}
use Rattle.registers.specs.Record.{reset_of}
use Rattle.refusals.specs.Bounds.{in_bounds}
use Rattle.registers.specs.Word.{word_of}
use Rattle.registers.specs.Next.{record_after}
use Rattle.refusals.specs.Refusal.{table, lowest, refusal_of, next}
use Rattle.machine.proofs.Runs.{zero_or_not}
use Rattle.mending.specs.Mend.{number_in, after_in, kept_in, Dropped, dropped, dropped_in, dropped_of, indices_of}

-- ---- one word more

module _ (n : ℕ) (r : Registers) (w : ℕ) (ws : List ℕ) where
  module _ (e : number_in n r w ≡ 0) where
    -- an accepted word is kept
    pub kept_accepted : kept_in n r (w ∷ ws) ≡ w ∷ kept_in n (after_in n r w) ws
    unfolding kept_in
    kept_accepted = rw (eq-eqb _ _ e)

    -- and is not on the list
    pub dropped_accepted : (k : ℕ) → dropped_in n k r (w ∷ ws) ≡ dropped_in n (k + 1) (after_in n r w) ws
    unfolding dropped_in
    dropped_accepted k = rw (eq-eqb _ _ e)

  module _ (e : number_in n r w ≢ 0) where
    -- a refused word is dropped
    pub kept_refused : kept_in n r (w ∷ ws) ≡ kept_in n (after_in n r w) ws
    unfolding kept_in
    kept_refused = rw (ne_eqb _ _ e)

    -- and is on the list
    pub dropped_refused : (k : ℕ) → dropped_in n k r (w ∷ ws) ≡ dropped k (number_in n r w) ∷ dropped_in n (k + 1) (after_in n r w) ws
    unfolding dropped_in
    dropped_refused k = rw (ne_eqb _ _ e)

-- ---- all of them

-- each word is kept or dropped
pub all_sorted : (n : ℕ) (ws : List ℕ) (k : ℕ) (r : Registers) → length (kept_in n r ws) + length (dropped_in n k r ws) ≡ length ws
unfolding kept_in dropped_in
all_sorted n [] k r = refl
all_sorted n (w ∷ ws) k r =
    let rest = all_sorted n ws (k + 1) (after_in n r w) in
    zero_or_not (number_in n r w) (λ e. rw (eq-eqb _ _ e) (omega (arith, rest))) (λ e. rw (ne_eqb _ _ e) (omega (arith, rest)))

-- a list with one word more in front has indices below a bound where both have
below_next : (x : Dropped) (xs : List Dropped) (bound : ℕ) → x.index < bound → ((i : ℕ) → i < length xs → get_or (indices_of xs) i 0 < bound)
    → (j : ℕ) → j < length (x ∷ xs) → get_or (indices_of (x ∷ xs)) j 0 < bound
below_next x xs bound first rest zero h = first
below_next x xs bound first rest (suc j) h = rest j (omega arith)

-- an index that is listed is that of a word
index_low : (n : ℕ) (ws : List ℕ) (k : ℕ) (r : Registers) (j : ℕ) → j < length (dropped_in n k r ws) → get_or (indices_of (dropped_in n k r ws)) j 0 < k + length ws
unfolding dropped_in
index_low n [] k r j h = absurd (omega arith)
index_low n (w ∷ ws) k r j h =
    let rest = dropped_in n (k + 1) (after_in n r w) ws in
    let low : (i : ℕ) → i < length rest → get_or (indices_of rest) i 0 < k + length (w ∷ ws) = λ i below. omega (arith, index_low n ws (k + 1) (after_in n r w) i below) in
    zero_or_not (number_in n r w)
    (λ e. let list = dropped_accepted n r w ws e k in rw list (low j (rw list at h)))
    (λ e. let list = dropped_refused n r w ws e k in rw list (below_next (dropped k (number_in n r w)) rest (k + length (w ∷ ws)) (omega arith) low j (rw list at h)))

-- each index on a recording's list is below the number of its words
pub indices_low : (bytes : List ℕ) (n j : ℕ) → j < length (dropped_of bytes n) → get_or (indices_of (dropped_of bytes n)) j 0 < length (unpack_of bytes)
indices_low bytes n j h = omega (arith, index_low n (unpack_of bytes) 0 reset_of j h)

-- the words that are kept have as few bits as the words
pub kept_fits : (b n : ℕ) (ws : List ℕ) (r : Registers) → Fits b ws → Fits b (kept_in n r ws)
unfolding kept_in
kept_fits b n [] r f = none
kept_fits b n (w ∷ ws) r (more h f) =
    let rest = kept_fits b n ws (after_in n r w) f in
    zero_or_not (number_in n r w) (λ e. rw (eq-eqb _ _ e) (more h rest)) (λ e. rw (ne_eqb _ _ e) rest)

-- ---- over memories of any length

-- a word's number is the same over any two memories of one length
pub refusal_sizes : (n : ℕ) (r : Registers) (w : Word) → refusal_of n n r w ≡ refusal_of 0 0 r w
unfolding refusal_of
refusal_sizes n r w = ap (λ (like : Bool). lowest 1 (table (not like || not (in_bounds r)) r w)) (eq-eqb n n refl)

-- so are the registers after it
pub next_sizes : (n : ℕ) (r : Registers) (w : Word) → next n n r w ≡ next 0 0 r w
unfolding next
next_sizes n r w = ap (λ (number : ℕ). cond (eqb number 0) (record_after r w) r) (refusal_sizes n r w)

-- and what is kept
pub kept_sizes : (n : ℕ) (ws : List ℕ) (r : Registers) → kept_in n r ws ≡ kept_in 0 r ws
unfolding kept_in
kept_sizes n [] r = refl
kept_sizes n (w ∷ ws) r =
    ap₂ (λ (number : ℕ) (rest : List ℕ). cond (eqb number 0) (w ∷ rest) rest) (refusal_sizes n r (word_of w))
    (kept_sizes n ws (after_in n r w) ∙ ap (λ (q : Registers). kept_in 0 q ws) (next_sizes n r (word_of w)))

-- and dropped
pub dropped_sizes : (n : ℕ) (ws : List ℕ) (k : ℕ) (r : Registers) → dropped_in n k r ws ≡ dropped_in 0 k r ws
unfolding dropped_in
dropped_sizes n [] k r = refl
dropped_sizes n (w ∷ ws) k r =
    ap₂ (λ (number : ℕ) (rest : List Dropped). cond (eqb number 0) rest (dropped k number ∷ rest)) (refusal_sizes n r (word_of w))
    (dropped_sizes n ws (k + 1) (after_in n r w) ∙ ap (λ (q : Registers). dropped_in 0 (k + 1) q ws) (next_sizes n r (word_of w)))
