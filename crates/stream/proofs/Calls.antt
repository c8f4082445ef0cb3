-- What each call comes to, from the tests on its way. Assumes nothing.
use mathlib.Core.Path.{◌≡◌, refl, sym, ap, ◌∙◌}
use Rattle.std.specs.Prelude.{Result, Ok, Err}
use mathlib.Core.Bool.{Bool, true, false, cond}
use mathlib.Core.List.{List}
use Prim.Native.Nat.{ℕ, ◌+◌, ◌^◌, ◌≤◌, ◌<◌}
use native.Mathlib.Omega.{arith}
use borrow.Author.Tests.{lt-ltb, le-ltb, ltb-false, eqb-true, ne_eqb}
use lib.ListN.{length}
use lib.Dec.{ltb, eqb}
use Rattle.stream.specs.Format.{fit, unpack_of, pack_of, word_at}
use Rattle.stream.specs.Calls.{bad_length, bad_tail, checked, no_room, over, Outcome, written, refused, concluded, unpacking, packing, coded_number, size_of, coded_told, entry, word_count, word_entry, answer, answered}
use Rattle.ground.specs.Refusal.{encoded, number}
use Rattle.ground.specs.declared.Refusal.{Refusal}
use Rattle.ground.specs.declared.Refusal.TheVariants.{BadWord, NoRoom}
use Rattle.ground.proofs.Numbers.{number_positive}

-- ---- the checks

module _ (s : List ℕ) (next : ℕ) where
  -- a stream of a bad length is refused with 11, whatever the next check tells
  pub cut_told : bad_length s ≡ true → checked s next ≡ 11
  unfolding checked
  cut_told a = rw a

  -- a stream of a good length with a bad tail is refused with 12, whatever the next check tells
  pub tail_told : bad_length s ≡ false → bad_tail s ≡ true → checked s next ≡ 12
  unfolding checked
  tail_told a b = rw (a, b)

  -- past both tests the next check tells
  pub next_told : bad_length s ≡ false → bad_tail s ≡ false → checked s next ≡ next
  unfolding checked
  next_told a b = rw (a, b)

-- what is wrong with a stream is told whatever the next check says
pub flaw_told : (s : List ℕ) (next : ℕ) → (checked s 0 ≡ 0 → ⊥) → checked s next ≡ checked s 0
unfolding checked
flaw_told s next = go (bad_length s) (bad_tail s)
  where
    go : (a b : Bool) → (◌≡◌ {A = ℕ} (cond a 11 (cond b 12 0)) 0 → ⊥) → cond a 11 (cond b 12 next) ≡ cond a 11 (cond b 12 0)
    go true b e = refl
    go false true e = refl
    go false false e = absurd (e refl)

-- nothing refused: the stream passes both tests, and the next check
pub good : (s : List ℕ) (next : ℕ) → checked s next ≡ 0 → (bad_length s ≡ false) × (bad_tail s ≡ false) × (next ≡ 0)
unfolding checked
good s next = go (bad_length s) (bad_tail s)
  where
    go : (a b : Bool) → cond a 11 (cond b 12 next) ≡ 0 → (a ≡ false) × (b ≡ false) × (next ≡ 0)
    go true b e = absurd (omega arith)
    go false true e = absurd (omega arith)
    go false false e = (refl, refl, e)

-- where neither 11 nor 12 is told, the next check tells
pub good_told : (s : List ℕ) (next : ℕ) → checked s 0 ≡ 0 → checked s next ≡ next
good_told s next e = let g = good s 0 e in next_told s next g.0 g.1

-- the number of what is wrong with a stream is at most 12
pub flaw_small : (s : List ℕ) → checked s 0 ≤ 12
unfolding checked
flaw_small s = go (bad_length s) (bad_tail s)
  where
    go : (a b : Bool) → cond a 11 (cond b 12 0) ≤ 12
    go true b = omega arith
    go false true = omega arith
    go false false = omega arith

-- a result that is longer than the output is refused with 13
pub no_room_lem : (result out : List ℕ) → length out < length result → no_room result out ≡ 13
unfolding no_room
no_room_lem result out h = rw (lt-ltb _ _ h)

-- a result that is no longer than the output is not refused
pub room : (result out : List ℕ) → length result ≤ length out → no_room result out ≡ 0
unfolding no_room
room result out h = rw (le-ltb _ _ h)

-- where 13 is not told, the result is no longer than the output
pub room_told : (result out : List ℕ) → no_room result out ≡ 0 → length result ≤ length out
unfolding no_room
room_told result out = go (ltb (length out) (length result)) refl
  where
    go : (b : Bool) → ltb (length out) (length result) ≡ b → ◌≡◌ {A = ℕ} (cond b 13 0) 0 → length result ≤ length out
    go true t e = absurd (omega arith)
    go false t e = ltb-false (length out) (length result) t

-- an outcome tells the number that it is refused with
pub refusal_told : (number : ℕ) (result out : List ℕ) → (concluded number result out).refusal ≡ number
unfolding concluded
refusal_told number result out = go (eqb number 0) refl
  where
    go : (b : Bool) → eqb number 0 ≡ b → (cond {A = Outcome} b (written result out) (refused number out)).refusal ≡ number
    go true t = sym (eqb-true number 0 t)
    go false t = refl

-- ---- unpacking

module _ (s out : List ℕ) where
  -- unpacking a stream with something wrong tells that, and leaves the output as it was
  pub unpack_flaw : (refusal : Refusal) → number refusal ≡ checked s 0 → coded_told (Err refusal) out ≡ unpacking s out
  unfolding unpacking concluded
  unpack_flaw refusal e =
      let some : number refusal ≡ 0 → ⊥ = (λ z. omega (arith, number_positive refusal, z)) in
      rw (flaw_told s (no_room (unpack_of s) out) (λ z. some (e ∙ z)), ← e, ne_eqb (number refusal) 0 some)

  -- unpacking a good stream of more words than the output has places tells that there is no room, and leaves the output as it was
  pub unpack_short : checked s 0 ≡ 0 → length out < length (unpack_of s) → coded_told (Err NoRoom) out ≡ unpacking s out
  unfolding unpacking concluded
  unpack_short g h = rw (good_told s (no_room (unpack_of s) out) g, no_room_lem (unpack_of s) out h)

  -- unpacking a good stream with room enough tells how many words it holds, and leaves them at the front of the output
  pub unpack_done : {n : ℕ} {left : List ℕ} → checked s 0 ≡ 0 → length (unpack_of s) ≤ length out
      → n ≡ length (unpack_of s) → left ≡ over (unpack_of s) out → coded_told (Ok n) left ≡ unpacking s out
  unfolding unpacking concluded
  unpack_done g h p q = rw (good_told s (no_room (unpack_of s) out) g, room (unpack_of s) out h, p, q)

-- ---- packing

module _ (ws out : List ℕ) where
  -- packing a word of more than 20 bits tells that, and leaves the output as it was
  pub pack_large : fit 20 ws ≡ false → coded_told (Err BadWord) out ≡ packing ws out
  unfolding packing concluded
  pack_large a = rw a

  -- packing words of 20 bits that make more bytes than the output has places tells that there is no room, and leaves the output as it was
  pub pack_short : fit 20 ws ≡ true → length out < length (pack_of ws) → coded_told (Err NoRoom) out ≡ packing ws out
  unfolding packing concluded
  pack_short a h = rw (a, no_room_lem (pack_of ws) out h)

  -- packing words of 20 bits with room enough tells how many bytes they make, and leaves these at the front of the output
  pub pack_done : {n : ℕ} {left : List ℕ} → fit 20 ws ≡ true → length (pack_of ws) ≤ length out
      → n ≡ length (pack_of ws) → left ≡ over (pack_of ws) out → coded_told (Ok n) left ≡ packing ws out
  unfolding packing concluded
  pack_done a h p q = rw (a, room (pack_of ws) out h, p, q)

-- ---- the entries for C

-- a refusal is told as 2 ^ 63 plus its number
pub entry_refused : (refusal : Refusal) (value : ℕ) → entry (number refusal) value ≡ 2 ^ 63 + number refusal
unfolding entry
entry_refused refusal value = rw (ne_eqb (number refusal) 0 (λ z. omega (arith, number_positive refusal, z)))

-- an answer as one number is what its number and its length come to
pub encoded_entry : (answer : Result ℕ Refusal) → encoded answer ≡ entry (coded_number answer) (size_of answer)
unfolding entry
encoded_entry (Ok n) = refl
encoded_entry (Err refusal) = sym (entry_refused refusal 0)

module _ (s : List ℕ) where
  -- the count of a good stream is the number of its words
  pub count_good : checked s 0 ≡ 0 → word_count s ≡ length (unpack_of s)
  unfolding word_count entry
  count_good e = rw e

  -- the count of a stream with something wrong is 2 ^ 63 plus the number of that
  pub count_flaw : (checked s 0 ≡ 0 → ⊥) → word_count s ≡ 2 ^ 63 + checked s 0
  unfolding word_count entry
  count_flaw e = rw (ne_eqb (checked s 0) 0 e)

  -- which is what its refusal tells
  pub count_refused : (refusal : Refusal) → number refusal ≡ checked s 0 → 2 ^ 63 + number refusal ≡ word_count s
  count_refused refusal e = ap (λ (n : ℕ). 2 ^ 63 + n) e ∙ sym (count_flaw (λ z. omega (arith, number_positive refusal, e, z)))

  module _ (k : ℕ) where
    -- at a place before its end, the entry tells a good stream's word there
    pub word_good : checked s 0 ≡ 0 → k < length (unpack_of s) → word_entry s k ≡ word_at s k
    unfolding word_entry entry
    word_good e h = rw (lt-ltb k (length (unpack_of s)) h, e)

    -- past the last word of a good stream, the entry tells 2 ^ 63 + 13
    pub word_past : checked s 0 ≡ 0 → length (unpack_of s) ≤ k → 2 ^ 63 + 13 ≡ word_entry s k
    unfolding word_entry entry
    word_past e h = rw (le-ltb k (length (unpack_of s)) h, good_told s 13 e)

    -- of a stream with something wrong, the entry tells 2 ^ 63 plus the number of that
    pub word_flaw : (checked s 0 ≡ 0 → ⊥) → word_entry s k ≡ 2 ^ 63 + checked s 0
    unfolding word_entry entry
    word_flaw e = rw (flaw_told s (cond (ltb k (length (unpack_of s))) 0 13) e, ne_eqb (checked s 0) 0 e)

    -- which is what its refusal tells
    pub word_refused : (refusal : Refusal) → number refusal ≡ checked s 0 → 2 ^ 63 + number refusal ≡ word_entry s k
    word_refused refusal e = ap (λ (n : ℕ). 2 ^ 63 + n) e ∙ sym (word_flaw (λ z. omega (arith, number_positive refusal, e, z)))

-- what packing or unpacking comes to, as an entry gives it
pub answer_told : {o : Outcome} {number size r : ℕ} {left : List ℕ} → record { refusal = number; size = size; left = left } ≡ o → r ≡ entry number size → answer r left ≡ answered o
unfolding answered
answer_told {left = left} e f = ap (λ (n : ℕ). answer n left) f ∙ ap answered e

-- the same of an answer as one number
pub encoded_told : (r : Result ℕ Refusal) {n : ℕ} {left : List ℕ} {o : Outcome} → coded_told r left ≡ o → n ≡ encoded r → answer n left ≡ answered o
encoded_told r e f = answer_told e (f ∙ encoded_entry r)

-- ---- what is told to be written fits the output

size_fits : (number : ℕ) (result out : List ℕ) → (number ≡ 0 → length result ≤ length out) → (concluded number result out).size ≤ length out
unfolding concluded
size_fits number result out h = go (eqb number 0) refl
  where
    go : (b : Bool) → eqb number 0 ≡ b → (cond b (written result out) (refused number out)).size ≤ length out
    go true e = h (eqb-true number 0 e)
    go false e = omega arith

-- an answer's length is that of its outcome
done_size : {o : Outcome} {answer : Result ℕ Refusal} {left : List ℕ} {n : ℕ} → coded_told answer left ≡ o → answer ≡ Ok n → n ≡ o.size
done_size e d = ap (λ (o : Outcome). o.size) (rw d at e)

-- the number of words that unpacking tells is at most the output's length
pub unpacked_fits : (s out : List ℕ) {answer : Result ℕ Refusal} {left : List ℕ} {n : ℕ} → coded_told answer left ≡ unpacking s out → answer ≡ Ok n → n ≤ length out
unfolding unpacking
unpacked_fits s out e d =
    let number = checked s (no_room (unpack_of s) out) in
    let low = size_fits number (unpack_of s) out (λ z. room_told (unpack_of s) out (good s (no_room (unpack_of s) out) z).2) in
    rw (done_size e d) low

-- the number of bytes that packing tells is at most the output's length
pub packed_fits : (ws out : List ℕ) {answer : Result ℕ Refusal} {left : List ℕ} {n : ℕ} → coded_told answer left ≡ packing ws out → answer ≡ Ok n → n ≤ length out
unfolding packing
packed_fits ws out e d = rw (done_size e d) (size_fits (cond (fit 20 ws) (no_room (pack_of ws) out) 1) (pack_of ws) out (go (fit 20 ws)))
  where
    go : (b : Bool) → cond b (no_room (pack_of ws) out) 1 ≡ 0 → length (pack_of ws) ≤ length out
    go true e = room_told (pack_of ws) out e
    go false e = absurd (omega (arith, e))
