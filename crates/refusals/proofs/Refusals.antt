-- The numbers 1 to 10 and 14, row by row of document 01's table ("Numbers that come back"): a number is given exactly when its row applies and no
-- row above it does, and a word is accepted exactly when none applies. Assumes nothing.
use mathlib.Core.Path.{◌≡◌, refl}
use mathlib.Core.Bool.{Bool, true, false, not, ◌&&◌, ◌||◌, false≢true, true≢false}
use mathlib.Core.List.{List, [], ◌∷◌}
use mathlib.Core.Logic.{◌↔◌}
use Prim.Native.Nat.{ℕ, zero, suc, ◌+◌, ◌≤◌}
use native.Mathlib.Omega.{arith}
use lib.Dec.{eqb}
use lib.ListN.{length, get_or}
use borrow.Author.Tests.{eqb-true, eq-eqb, not-false}
use Rattle.registers.specs.declared.word.Word.{Word}
use Rattle.registers.specs.declared.Registers.{Registers}
use Rattle.refusals.specs.Allowed.{allowed, fits}
use Rattle.refusals.specs.Bounds.{in_bounds}
use Rattle.refusals.specs.Refusal.{is_init, is_parm, is_unknown, is_reserved, is_unmodelled, is_above, is_ptrn, is_cold, awaits, table, lowest, is_unfit, refusal_of, read_table, read_refusal_of}
use Rattle.registers.specs.Region.{is_open}
use Rattle.ground.proofs.Truth.{neither}

-- ---- the lowest number that applies

-- none of the first k flags of a list holds
abbrev pub Clear : ℕ → List Bool → Type 0
Clear zero bs = Unit {0}
Clear (suc k) [] = Unit {0}
Clear (suc k) (b ∷ bs) = (b ≡ false) × Clear k bs

-- flag k of a list is the first that holds
abbrev pub First : ℕ → List Bool → Type 0
First k bs = (get_or bs k false ≡ true) × Clear k bs

-- flags counted from n + 1 on give no number from 1 to n
lowest_past : (n : ℕ) (bs : List Bool) (m : ℕ) → lowest (suc n) bs ≡ suc m → n ≤ m
lowest_past n [] m e = absurd (omega (arith, e))
lowest_past n (true ∷ bs) m e = omega (arith, e)
lowest_past n (false ∷ bs) m e = let h = lowest_past (suc n) bs m e in omega (arith, h)

first_given : (n : ℕ) (bs : List Bool) (k : ℕ) → lowest (suc n) bs ≡ suc n + k → First k bs
first_given n [] k e = absurd (omega (arith, e))
first_given n (true ∷ bs) zero e = (refl, tt)
first_given n (true ∷ bs) (suc k) e = absurd (omega (arith, e))
first_given n (false ∷ bs) zero e = let e' : lowest (suc (suc n)) bs ≡ suc n = omega (arith, e) in let h = lowest_past (suc n) bs n e' in absurd (omega (arith, h))
first_given n (false ∷ bs) (suc k) e =
    let e' : lowest (suc (suc n)) bs ≡ suc (suc n) + k = omega (arith, e) in
    let q = first_given (suc n) bs k e' in
    (q.0, (refl, q.1))

given_first : (n : ℕ) (bs : List Bool) (k : ℕ) → First k bs → lowest (suc n) bs ≡ suc n + k
given_first n [] k h = absurd (false≢true h.0)
given_first n (true ∷ bs) zero h = omega arith
given_first n (true ∷ bs) (suc k) h = absurd (true≢false h.1.0)
given_first n (false ∷ bs) zero h = absurd (false≢true h.0)
given_first n (false ∷ bs) (suc k) h = let q = given_first (suc n) bs k (h.0, h.1.1) in omega (arith, q)

-- flags counted from 1 or more on: the number of flag k is given exactly when it is the first that holds
pub lowest_first_lem : (n : ℕ) (bs : List Bool) (k : ℕ) → (lowest (suc n) bs ≡ suc n + k) ↔ First k bs
lowest_first_lem n bs k = (first_given n bs k, given_first n bs k)

none_given : (n : ℕ) (bs : List Bool) → lowest (suc n) bs ≡ 0 → Clear (length bs) bs
none_given n [] e = tt
none_given n (true ∷ bs) e = absurd (omega (arith, e))
none_given n (false ∷ bs) e = (refl, none_given (suc n) bs e)

given_none : (n : ℕ) (bs : List Bool) → Clear (length bs) bs → lowest (suc n) bs ≡ 0
given_none n [] h = refl
given_none n (true ∷ bs) h = absurd (true≢false h.0)
given_none n (false ∷ bs) h = given_none (suc n) bs h.1

-- and 0 exactly when none holds
pub lowest_none : (n : ℕ) (bs : List Bool) → (lowest (suc n) bs ≡ 0) ↔ Clear (length bs) bs
lowest_none n bs = (none_given n bs, given_none n bs)

-- no number past the last flag's is given
pub lowest_most : (n : ℕ) (bs : List Bool) → lowest (suc n) bs ≤ n + length bs
lowest_most n [] = omega arith
lowest_most n (true ∷ bs) = omega arith
lowest_most n (false ∷ bs) = let h = lowest_most (suc n) bs in omega (arith, h)

-- ---- the table's rows

-- an accepted word: no row applies
pub record Accepted (ni nz : ℕ) (r : Registers) (w : Word) : Type 0 where
  pub known : is_unknown w ≡ false
  pub same : ni ≡ nz
  pub sound : in_bounds r ≡ true
  pub begun : not (is_init w) && is_cold r ≡ false
  pub assigned : is_reserved w ≡ false
  pub modelled : is_unmodelled w ≡ false
  pub expected : not (is_parm w || is_init w) && awaits r ≡ false
  pub wanted : is_parm w && not (awaits r) ≡ false
  pub listed : is_above w ≡ false
  pub valued : allowed r w ≡ true
  pub fitting : fits r w ≡ true
  pub placed : is_ptrn w && not (is_open 1 r) ≡ false

module _ (ni nz : ℕ) (r : Registers) (w : Word) where
  -- none of the numbers 1 to k applies
  abbrev pub Past : ℕ → Type 0
  Past k = Clear k (table (is_unfit ni nz r) r w)

  -- the number of a row is given exactly when that row is the first that applies
  pub given : (k : ℕ) → (refusal_of ni nz r w ≡ 1 + k) ↔ First k (table (is_unfit ni nz r) r w)
  unfolding refusal_of
  given k = lowest_first_lem 0 (table (is_unfit ni nz r) r w) k

  -- 1 is given exactly when the command is above 15
  pub given_1 : (refusal_of ni nz r w ≡ 1) ↔ (is_unknown w ≡ true)
  given_1 = (λ e. ((given 0).0 e).0, λ t. (given 0).1 (t, tt))

  -- 2 is given exactly when the two memories differ in length or the record breaks a bound, and 1 does not apply
  pub given_2 : (refusal_of ni nz r w ≡ 2) ↔ ((not (eqb ni nz) || not (in_bounds r) ≡ true) × Past 1)
  given_2 = given 1

  -- 3 is given exactly when the word is not INIT and no INIT was accepted yet, and neither 1 nor 2 applies
  pub given_3 : (refusal_of ni nz r w ≡ 3) ↔ ((not (is_init w) && is_cold r ≡ true) × Past 2)
  given_3 = given 2

  -- 4 is given exactly when the command is 7 or C hex, and none of 1 to 3 applies
  pub given_4 : (refusal_of ni nz r w ≡ 4) ↔ ((is_reserved w ≡ true) × Past 3)
  given_4 = given 3

  -- 5 is given exactly when the command is A hex or the word is AUX 11, and none of 1 to 4 applies
  pub given_5 : (refusal_of ni nz r w ≡ 5) ↔ ((is_unmodelled w ≡ true) × Past 4)
  given_5 = given 4

  -- 6 is given exactly when a parameter is awaited and the word is neither PARM nor INIT, and none of 1 to 5 applies
  pub given_6 : (refusal_of ni nz r w ≡ 6) ↔ ((not (is_parm w || is_init w) && awaits r ≡ true) × Past 5)
  given_6 = given 5

  -- 7 is given exactly when the word is PARM and none is awaited, and none of 1 to 6 applies
  pub given_7 : (refusal_of ni nz r w ≡ 7) ↔ ((is_parm w && not (awaits r) ≡ true) × Past 6)
  given_7 = given 6

  -- 8 is given exactly when the word is AUX above 12, and none of 1 to 7 applies
  pub given_8 : (refusal_of ni nz r w ≡ 8) ↔ ((is_above w ≡ true) × Past 7)
  given_8 = given 7

  -- 9 is given exactly when the word's value is not allowed, and none of 1 to 8 applies
  pub given_9 : (refusal_of ni nz r w ≡ 9) ↔ ((not (allowed r w) ≡ true) × Past 8)
  given_9 = given 8

  -- 10 is given exactly when the word is X or PX and fits no open figure, and none of 1 to 9 applies
  pub given_10 : (refusal_of ni nz r w ≡ 10) ↔ ((not (fits r w) ≡ true) × Past 9)
  given_10 = given 9

  -- 11, 12 and 13 refuse no word
  pub given_11 : refusal_of ni nz r w ≡ 11 → ⊥
  given_11 e = false≢true ((given 10).0 e).0

  -- nor is 12
  pub given_12 : refusal_of ni nz r w ≡ 12 → ⊥
  given_12 e = false≢true ((given 11).0 e).0

  -- nor is 13
  pub given_13 : refusal_of ni nz r w ≡ 13 → ⊥
  given_13 e = false≢true ((given 12).0 e).0

  -- 14 is given exactly when the word is PTRN and no region is open to memory, and none of 1 to 10 applies
  pub given_14 : (refusal_of ni nz r w ≡ 14) ↔ ((is_ptrn w && not (is_open 1 r) ≡ true) × Past 13)
  given_14 = given 13

  -- no other number is given
  pub given_most : refusal_of ni nz r w ≤ 14
  unfolding refusal_of
  given_most = lowest_most 0 (table (is_unfit ni nz r) r w)

  accepted_rows : Accepted ni nz r w → Past 14
  accepted_rows a =
      (a.known, (fit, (a.begun, (a.assigned, (a.modelled, (a.expected, (a.wanted, (a.listed, (valued, (fitting, (refl, (refl, (refl, (a.placed, tt))))))))))))))
    where
      fit : is_unfit ni nz r ≡ false
      fit = rw (eq-eqb ni nz a.same, a.sound)

      valued : not (allowed r w) ≡ false
      valued = rw a.valued

      fitting : not (fits r w) ≡ false
      fitting = rw a.fitting

  rows_accepted : Past 14 → Accepted ni nz r w
  rows_accepted q =
      let fit = neither (not (eqb ni nz)) (not (in_bounds r)) q.1.0 in
      let rest = q.1.1.1.1.1.1 in
      record {
        known = q.0;
        same = eqb-true ni nz (not-false _ fit.0);
        sound = not-false _ fit.1;
        begun = q.1.1.0;
        assigned = q.1.1.1.0;
        modelled = q.1.1.1.1.0;
        expected = q.1.1.1.1.1.0;
        wanted = rest.0;
        listed = rest.1.0;
        valued = not-false _ rest.1.1.0;
        fitting = not-false _ rest.1.1.1.0;
        placed = rest.1.1.1.1.1.1.1.0;
      }

  -- 0 is given exactly when no row applies
  pub accepted_when : (refusal_of ni nz r w ≡ 0) ↔ Accepted ni nz r w
  unfolding refusal_of
  accepted_when =
      (λ e. rows_accepted ((lowest_none 0 (table (is_unfit ni nz r) r w)).0 e), λ a. (lowest_none 0 (table (is_unfit ni nz r) r w)).1 (accepted_rows a))

-- ---- the read call

-- an accepted read: no row applies
pub record Readable (ni nz : ℕ) (r : Registers) : Type 0 where
  pub same : ni ≡ nz
  pub sound : in_bounds r ≡ true
  pub begun : is_cold r ≡ false
  pub idle : awaits r ≡ false
  pub outward : is_open 2 r ≡ true

module _ (ni nz : ℕ) (r : Registers) where
  abbrev rows : List Bool
  rows = read_table (is_unfit ni nz r) r

  -- the number of a row is given exactly when that row is the first that applies
  pub read_given : (k : ℕ) → (read_refusal_of ni nz r ≡ 2 + k) ↔ First k rows
  unfolding read_refusal_of
  read_given k = lowest_first_lem 1 rows k

  -- 2 is given exactly when the two memories differ in length or the record breaks a bound
  pub read_2 : (read_refusal_of ni nz r ≡ 2) ↔ (not (eqb ni nz) || not (in_bounds r) ≡ true)
  read_2 = (λ e. ((read_given 0).0 e).0, λ t. (read_given 0).1 (t, tt))

  -- 3 exactly when no INIT was accepted yet, and 2 does not apply
  pub read_3 : (read_refusal_of ni nz r ≡ 3) ↔ ((is_cold r ≡ true) × Clear 1 rows)
  read_3 = read_given 1

  -- 6 exactly when a parameter is awaited, and neither 2 nor 3 applies
  pub read_6 : (read_refusal_of ni nz r ≡ 6) ↔ ((awaits r ≡ true) × Clear 4 rows)
  read_6 = read_given 4

  -- 14 exactly when no region is open from memory, and none of 2, 3 and 6 applies
  pub read_14 : (read_refusal_of ni nz r ≡ 14) ↔ ((not (is_open 2 r) ≡ true) × Clear 12 rows)
  read_14 = read_given 12

  readable : Clear 13 rows → Readable ni nz r
  readable q =
      let fit = neither (not (eqb ni nz)) (not (in_bounds r)) q.0 in
      record {
        same = eqb-true ni nz (not-false _ fit.0);
        sound = not-false _ fit.1;
        begun = q.1.0;
        idle = q.1.1.1.1.0;
        outward = not-false _ q.1.1.1.1.1.1.1.1.1.1.1.1.0;
      }

  read_clear : Readable ni nz r → Clear 13 rows
  read_clear a = (fit, (a.begun, (refl, (refl, (a.idle, (refl, (refl, (refl, (refl, (refl, (refl, (refl, (outward, tt)))))))))))))
    where
      fit : is_unfit ni nz r ≡ false
      fit = rw (eq-eqb ni nz a.same, a.sound)

      outward : not (is_open 2 r) ≡ false
      outward = rw a.outward

  -- 0 exactly when no row applies
  pub read_when : (read_refusal_of ni nz r ≡ 0) ↔ Readable ni nz r
  unfolding read_refusal_of
  read_when = (λ e. readable ((lowest_none 1 rows).0 e), λ a. (lowest_none 1 rows).1 (read_clear a))
