-- What the call comes to, from the tests on its way. Assumes nothing.
use mathlib.Core.Path.{◌≡◌, sym, ap, ap₂, ◌∙◌}
use mathlib.Core.Logic.{◌≢◌}
use mathlib.Core.Bool.{Bool, true, false, ◌||◌}
use mathlib.Core.List.{List}
use Prim.Native.Nat.{ℕ, ◌+◌, ◌-◌, ◌*◌, ◌/◌, ◌≤◌}
use native.Mathlib.Omega.{arith}
use lib.Dec.{ltb}
use lib.ListN.{length, take}
use lib.Seq.{take-append_seam}
use borrow.Author.Tests.{eq-eqb, ne_eqb, ltb-false}
use Rattle.stream.specs.Format.{unpack_of, pack_of}
use Rattle.stream.specs.Calls.{over}
use Rattle.stream.proofs.Stream.{length_unpack, length_pack}
use Rattle.registers.specs.declared.Registers.{Registers}
use Rattle.registers.specs.Record.{reset_of}
use Rattle.ground.proofs.Truth.{neither}
use Rattle.machine.specs.Run.{Ran}
use Rattle.machine.specs.Machine.{Memories, step_of}
use Rattle.machine.specs.Offers.{State, all_of}
use Rattle.chip.specs.Chip.{chip}
use Rattle.chip.specs.Stream.{words_of, running}
use Rattle.mending.specs.declared.Mended.{Mended}
use Rattle.mending.specs.Mend.{Dropped, kept_of, mended_of, dropped_of, indices_of, numbers_of, cut_of, cleared_of, mending, refused, done, is_short, refusal_in, mending_of}
use Rattle.mending.specs.Sort.{Room, Sorted}
use Rattle.mending.proofs.Words.{all_sorted, kept_sizes, dropped_sizes}
use Rattle.mending.proofs.Recording.{mended_runs}

-- no more words are kept than a recording has
pub kept_few : (bytes : List ℕ) → length (kept_of bytes 0) * 5 ≤ length bytes * 2
kept_few bytes = omega (arith, all_sorted 0 (unpack_of bytes) 0 reset_of, length_unpack bytes)

module _ (bytes : List ℕ) {count words : ℕ} (counted : count ≡ length (kept_of bytes 0)) (all : words ≡ length (unpack_of bytes)) where
  -- no more words are counted as kept than there are words
  pub count_low : count ≤ words
  count_low = omega (arith, all_sorted 0 (unpack_of bytes) 0 reset_of)

  -- the length of the new stream
  pub size_told : (n : ℕ) → (count * 5 + 1) / 2 ≡ length (mended_of bytes n)
  size_told n = omega (arith, ap length (kept_sizes n (unpack_of bytes) reset_of), length_pack (kept_of bytes n))

  -- and of the list
  pub rest_told : (n : ℕ) → words - count ≡ length (dropped_of bytes n)
  rest_told n = omega (arith, ap length (kept_sizes n (unpack_of bytes) reset_of), all_sorted n (unpack_of bytes) 0 reset_of)

-- ---- the call

module _ (bytes stream indices numbers : List ℕ) (m : Memories) where
  -- memories that differ in length
  pub mend_unlike : {t : Mended} → t ≡ refused 2 → length m.i ≢ length m.z
      → mending t stream indices numbers m ≡ mending_of bytes stream indices numbers m
  unfolding mending_of refusal_in
  mend_unlike e unlike = rw (ne_eqb _ _ unlike, e)

  module _ (like : length m.i ≡ length m.z) {count words : ℕ} (counted : count ≡ length (kept_of bytes 0)) (all : words ≡ length (unpack_of bytes)) where
    -- the code's test for too little room
    abbrev short : Bool
    short = ltb (length stream) ((count * 5 + 1) / 2) || ltb (length indices) (words - count) || ltb (length numbers) (words - count)

    -- is that of the definition
    short_told : short ≡ is_short bytes stream indices numbers m
    unfolding is_short
    short_told = rw (size_told bytes counted all (length m.i), rest_told bytes counted all (length m.i))

    -- too little room
    pub mend_short : {t : Mended} → t ≡ refused 13 → short ≡ true
        → mending t stream indices numbers m ≡ mending_of bytes stream indices numbers m
    unfolding mending_of refusal_in
    mend_short e lacks = rw (eq-eqb _ _ like, sym short_told ∙ lacks, e)

    module _ (enough : short ≡ false) where
      -- room for all
      pub room_told : Room bytes stream indices numbers
      room_told =
          let size = size_told bytes counted all 0 in
          let rest = rest_told bytes counted all 0 in
          let lists = neither (ltb (length stream) ((count * 5 + 1) / 2) || ltb (length indices) (words - count)) (ltb (length numbers) (words - count)) enough in
          let out = neither (ltb (length stream) ((count * 5 + 1) / 2)) (ltb (length indices) (words - count)) lists.0 in
          record {
            stream = omega (arith, size, ltb-false (length stream) ((count * 5 + 1) / 2) out.0);
            places = omega (arith, rest, ltb-false (length indices) (words - count) out.1);
            reasons = omega (arith, rest, ltb-false (length numbers) (words - count) lists.1);
          }

      -- the new stream and the list stand, and the run of the new stream leaves what all words leave
      pub mend_done : {out' indices' numbers' : List ℕ} → Sorted bytes stream indices numbers out' indices' numbers'
          → {b : Ran Registers Memories} → b ≡ running reset_of (take ((count * 5 + 1) / 2) out') m → {cut : ℕ} → cut ≡ cut_of bytes → {cleared : ℕ} → cleared ≡ cleared_of bytes
          → mending (record { refusal = 0; size = (count * 5 + 1) / 2; dropped = words - count; cut = cut; cleared = cleared }) out' indices' numbers' b.memories
          ≡ mending_of bytes stream indices numbers m
      unfolding mending_of refusal_in over
      mend_done {out'} {indices'} {numbers'} so {b} ran {cut} c {cleared} t =
          let n = length m.i in
          let drawn = (all_of (step_of chip) reset_of (words_of bytes) m).memories in
          let new : mended_of bytes 0 ≡ mended_of bytes n = ap pack_of (sym (kept_sizes n (unpack_of bytes) reset_of)) in
          let list : dropped_of bytes 0 ≡ dropped_of bytes n = sym (dropped_sizes n (unpack_of bytes) 0 reset_of) in
          let front : take ((count * 5 + 1) / 2) out' ≡ mended_of bytes n =
          ap₂ (λ (k : ℕ) (l : List ℕ). take k l) (size_told bytes counted all 0) so.stream ∙ take-append_seam (mended_of bytes 0) _ ∙ new in
          let leaves : b.memories ≡ drawn =
          ap (λ (x : Ran Registers Memories). x.memories) (ran ∙ ap (λ (s : List ℕ). running reset_of s m) front)
          ∙ ap (λ (a : State Registers Memories). a.memories) (mended_runs bytes m like).left in
          let told : ◌≡◌ {A = Mended} (record { refusal = 0; size = (count * 5 + 1) / 2; dropped = words - count; cut = cut; cleared = cleared }) (done bytes n) =
          rw (size_told bytes counted all n, rest_told bytes counted all n, c, t) in
          rw (eq-eqb _ _ like, sym short_told ∙ enough)
          (ap₂ (λ (x : Mended) (y : Memories). mending x out' indices' numbers' y) told leaves
          ∙ ap (λ (x : List ℕ). mending (done bytes n) x indices' numbers' drawn) (so.stream ∙ ap (λ (x : List ℕ). over x stream) new)
          ∙ ap₂ (λ (x y : List ℕ). mending (done bytes n) (over (mended_of bytes n) stream) x y drawn)
          (so.places ∙ ap (λ (x : List Dropped). over (indices_of x) indices) list) (so.reasons ∙ ap (λ (x : List Dropped). over (numbers_of x) numbers) list))
