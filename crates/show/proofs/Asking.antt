-- How many places are asked for. Assumes nothing.
use mathlib.Core.Path.{◌≡◌, sym, subst}
use mathlib.Core.Bool.{Bool, true, false}
use mathlib.Core.List.{List}
use Prim.Native.Nat.{ℕ, ◌+◌, ◌≤◌, ◌<◌, min}
use native.Mathlib.Omega.{arith}
use borrow.Author.Tests.{lt-ltb, le-ltb, ltb-false, ne_eqb}
use lib.Dec.{ltb, eqb}
use Rattle.std.specs.Prelude.{Option, None, Some, Result, Ok, Err, IfOk, IfSome, unwrap_or}
use Rattle.console.specs.Digits.{digits_only, value_of}
use Rattle.ground.proofs.Truth.{either}
use Rattle.show.specs.Arguments.{counted, places_of, memory_of, is_levels, given_of, places_if, behind, asked_for, sized_of, scaled_of, asked_of, Few}
use Rattle.show.specs.declared.Memory.{Memory}
use Rattle.show.specs.declared.Memory.TheVariants.{Intensity}
use Rattle.show.specs.declared.Wanted.{Wanted}
use Rattle.show.specs.declared.Usage.{Usage}
use Rattle.show.specs.declared.Usage.TheVariants.{TooMany, Unclear}

-- ---- a number of places

-- no places are unclear
pub counted_none : {n : ℕ} → n ≡ 0 → Err Unclear ≡ counted n
unfolding counted
counted_none e = rw e

-- as many as a memory may have are what they are
pub counted_some : {n : ℕ} → 1 ≤ n → n ≤ 1048576 → Ok n ≡ counted n
unfolding counted
counted_some {n} h k = rw (ne_eqb n 0 (λ e. omega (arith, h, e)), le-ltb 1048576 n k)

-- more are too many
pub counted_many : {n : ℕ} → 1048576 < n → Err TooMany ≡ counted n
unfolding counted
counted_many {n} h = rw (ne_eqb n 0 (λ e. omega (arith, h, e)), lt-ltb 1048576 n h)

-- ---- no more places than there may be

abbrev FewPlaces : Result ℕ Usage → Type 0
FewPlaces told = IfOk told (λ (n : ℕ). n ≤ 1048576)

counted_few : (n : ℕ) → FewPlaces (counted n)
unfolding counted
counted_few n = either FewPlaces (eqb n 0) (λ e. tt) (λ e. either FewPlaces (ltb 1048576 n) (λ h. tt) (λ h. ltb-false 1048576 n h))

places_few : (arg : List ℕ) → FewPlaces (places_of arg)
unfolding places_of
places_few arg = either FewPlaces (digits_only arg) (λ e. counted_few (min (value_of 0 arg) 1048577)) (λ e. tt)

for_few : (memory : Memory) (levels given : Bool) (arg : List ℕ) → Few (asked_for memory levels (places_if given arg))
unfolding places_if
for_few memory levels false arg = tt
for_few memory levels true arg = go (places_of arg) (places_few arg)
  where
    go : (told : Result ℕ Usage) → FewPlaces told → Few (asked_for memory levels (given_of told))
    go (Ok n) h = h
    go (Err usage) h = tt

sized_few : (memory : Memory) (levels : Bool) (used count : ℕ) (arg : List ℕ) → Few (sized_of memory levels used count arg)
unfolding sized_of
sized_few memory levels used count arg =
    either Few (ltb (used + 1) count) (λ h. tt) (λ h. for_few memory levels (ltb used count) arg)

scaled_few : (memory : Memory) (used count : ℕ) (first second : List ℕ) → Few (scaled_of memory used count first second)
unfolding scaled_of
scaled_few memory used count first second =
    either Few (is_levels first) (λ e. sized_few memory true (used + 1) count second) (λ e. sized_few memory false used count first)

of_few : (count : ℕ) (first second third : List ℕ) → Few (asked_of count first second third)
unfolding asked_of
of_few count first second third = go (memory_of first)
  where
    go : (named : Option Memory) → Few (behind named count first second third)
    go None = scaled_few Intensity 1 count first second
    go (Some memory) = scaled_few memory 2 count second third

-- no more places than there may be
pub asked_few : (r : Result Wanted Usage) (count : ℕ) (first second third : List ℕ) → r ≡ asked_of count first second third → Few r
asked_few r count first second third e = subst Few (sym e) (of_few count first second third)

-- as many as are given, and else as many as there may be
pub few_room : (wanted : Wanted) → Few (Ok wanted) → unwrap_or wanted.places 1048576 ≤ 1048576
few_room wanted h = go wanted.places h
  where
    go : (places : Option ℕ) → IfSome places (λ (n : ℕ). n ≤ 1048576) → unwrap_or places 1048576 ≤ 1048576
    go None k = omega arith
    go (Some n) k = k
