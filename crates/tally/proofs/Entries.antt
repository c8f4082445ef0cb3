-- The entry of a recording, case by case: too long, refused before its first word, or run; and that no two entries are told alike. Assumes nothing.
use Rattle.std.proofs.Common.{◌≡◌, ℕ, ◌<◌, ◌≤◌, true, false, cond, eqb, true≢false, ◌≢◌, List, length, refl, ap, ap₂, sym, ◌∙◌, arith, le-ltb, lt-ltb, eq-eqb, ne_eqb}
use Rattle.std.specs.Prelude.{Result, Ok, Err}
use lib.ListN.{length-replicate}
use Rattle.ground.specs.declared.Refusal.{Refusal}
use Rattle.ground.proofs.Numbers.{number_positive, number_injective}
use Rattle.stream.specs.Calls.{checked}
use Rattle.stream.proofs.Calls.{flaw_told}
use Rattle.chip.specs.Stream.{flaw_of, running}
use Rattle.chip.proofs.Streams.{lengths_told}
use Rattle.tally.specs.Tally.{no_tally}
use Rattle.chip.specs.Fresh.{fresh}
use Rattle.tally.specs.declared.Tally.{Tally}
use Rattle.tally.specs.declared.Entry.{Entry}
use Rattle.tally.specs.declared.Stop.{Stop}
use Rattle.tally.specs.declared.Stop.TheVariants.{TooLong, Refused}
use Rattle.tally.specs.Overdraw.{tallied_of, Entered, entered, is_long, told_of, entry, entry_from, entry_of}

module _ (bytes : List ℕ) where
  -- a recording of more than 8,192 bytes is entered as too long, with nothing counted
  pub entry_long : 8192 < length bytes → entry_of bytes ≡ entry true 0 no_tally
  unfolding entry_of
  entry_long h = rw (lt-ltb 8192 (length bytes) h)

  module _ (short : length bytes ≤ 8192) {n : ℕ} (number : n ≡ checked bytes 0) where
    flaw_is : n ≢ 0 → flaw_of bytes (fresh 8192) ≡ n
    unfolding flaw_of
    flaw_is some = flaw_told bytes (cond (eqb (length (fresh 8192).i) (length (fresh 8192).z)) 0 2) (λ e. some (number ∙ e)) ∙ sym number

    -- a recording that the checks of its bytes refuse is entered with their number, and nothing counted
    pub entry_flawed : n ≢ 0 → entry_of bytes ≡ entry false n no_tally
    unfolding entry_of running tallied_of
    entry_flawed some = rw (le-ltb 8192 (length bytes) short, flaw_is some, ne_eqb n 0 some)

    like : eqb (length (fresh 8192).i) (length (fresh 8192).z) ≡ true
    like = eq-eqb _ _ (length-replicate {A = ℕ} 8192 0 ∙ sym (length-replicate {A = ℕ} 8192 65535))

    -- any other recording is entered with what its words come to on a fresh picture
    pub entry_run : n ≡ 0 → entry_of bytes ≡ entry_from bytes (fresh 8192)
    unfolding entry_of running tallied_of
    entry_run none = rw (le-ltb 8192 (length bytes) short, lengths_told bytes (fresh 8192) (sym number ∙ none) true like)

-- ---- what is told of an entry

-- two outcomes that are both too long or neither, and tell one number, are one
outcome_settled : (a b : Result Unit Stop) → is_long a ≡ is_long b → told_of a ≡ told_of b → a ≡ b
outcome_settled (Ok x) (Ok y) long told = refl
outcome_settled (Ok x) (Err TooLong) long told = absurd (true≢false (sym long))
outcome_settled (Ok x) (Err (Refused q)) long told = absurd (omega (arith, number_positive q, told))
outcome_settled (Err TooLong) (Ok y) long told = absurd (true≢false long)
outcome_settled (Err TooLong) (Err TooLong) long told = refl
outcome_settled (Err TooLong) (Err (Refused q)) long told = absurd (true≢false long)
outcome_settled (Err (Refused p)) (Ok y) long told = absurd (omega (arith, number_positive p, told))
outcome_settled (Err (Refused p)) (Err TooLong) long told = absurd (true≢false (sym long))
outcome_settled (Err (Refused p)) (Err (Refused q)) long told = ap (λ (r : Refusal). Err (Refused r)) (number_injective told)

-- any two entries that the promise of `enter` allows are equal
pub enter_settled : {value : Entered} {e e' : Entry} → entered e ≡ value → entered e' ≡ value → e ≡ e'
enter_settled {e = e} {e' = e'} p q =
    let same = p ∙ sym q in
    ap₂ (λ (outcome : Result Unit Stop) (tally : Tally). record { outcome = outcome; tally = tally })
    (outcome_settled e.outcome e'.outcome (ap (λ (t : Entered). t.long) same) (ap (λ (t : Entered). t.refusal) same))
    (ap (λ (t : Entered). t.tally) same)
