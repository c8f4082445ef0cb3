-- A recording that is mended: there is room for all of it, and what is told lies within what was lent. Assumes nothing.
use mathlib.Core.Path.{◌≡◌, refl, sym, ap, ap₂, ◌∙◌}
use mathlib.Core.List.{List, [], map}
use Prim.Native.Nat.{ℕ, ◌≤◌}
use native.Mathlib.Omega.{arith}
use lib.ListN.{length, take, drop, length-append, length-map}
use lib.Seq.{take-append_seam, length-take-le}
use Rattle.stream.specs.Calls.{over}
use Rattle.stream.proofs.Stream.{length_unpack}
use Rattle.machine.specs.Machine.{Memories, memories}
use Rattle.mending.specs.declared.Mended.{Mended}
use Rattle.mending.specs.Mend.{Dropped, mended_of, dropped_of, indices_of, Mending, mending, mending_of}
use Rattle.mending.proofs.Words.{indices_low}
use Rattle.mending.proofs.Settled.{mended_short, list_short}
use Rattle.mending.proofs.Request.{exact_room}
use Rattle.mend.specs.Mend.{Enough, Repaired, Low}

module _ {bytes out₀ indices₀ numbers₀ : List ℕ} (enough : Enough bytes out₀ indices₀ numbers₀) where
  -- with room enough nothing is refused
  pub repaired : {t : Mended} {out indices numbers : List ℕ} {m : Memories}
      → mending t out indices numbers m ≡ mending_of bytes out₀ indices₀ numbers₀ (memories [] []) → Repaired bytes out₀ indices₀ numbers₀ t out indices numbers
  repaired promise =
      let same =
      promise
      ∙ exact_room bytes out₀ indices₀ numbers₀ (memories [] []) refl (omega (arith, mended_short bytes 0, enough.stream))
      (omega (arith, list_short bytes 0, enough.places)) (omega (arith, list_short bytes 0, enough.reasons)) in
      record {
        told = ap (λ (o : Mending). o.told) same;
        stream = ap (λ (o : Mending). o.stream) same;
        places = ap (λ (o : Mending). o.indices) same;
        reasons = ap (λ (o : Mending). o.numbers) same;
      }

-- a recording of 1,048,576 bytes has 419,430 words
pub enough_room : (bytes out indices numbers : List ℕ) → length bytes ≤ 1048576 → 1048577 ≡ length out → 419430 ≡ length indices → 419430 ≡ length numbers
    → Enough bytes out indices numbers
enough_room bytes out indices numbers h a b c =
    record { stream = omega (arith, h, a); places = omega (arith, h, b, length_unpack bytes); reasons = omega (arith, h, c, length_unpack bytes) }

module _ {bytes out₀ indices₀ numbers₀ : List ℕ} {t : Mended} {out indices numbers : List ℕ} (so : Repaired bytes out₀ indices₀ numbers₀ t out indices numbers) where
  -- the new stream and the list lie within what was lent
  pub size_fits : t.size ≤ length out
  unfolding over
  size_fits = omega (arith, ap (λ (x : Mended). x.size) so.told, ap length so.stream, length-append (mended_of bytes 0) (drop (length (mended_of bytes 0)) out₀))

  list_fits : (f : Dropped → ℕ) (old : List ℕ) → t.dropped ≤ length (over (map f (dropped_of bytes 0)) old)
  unfolding over
  list_fits f old =
      omega (arith, ap (λ (x : Mended). x.dropped) so.told, length-map (dropped_of bytes 0) f, length-append (map f (dropped_of bytes 0)) (drop (length (map f (dropped_of bytes 0))) old))

  -- the number of dropped words is at most the length of the list of indices
  pub indices_fit : t.dropped ≤ length indices
  indices_fit = omega (arith, list_fits (λ (x : Dropped). x.index) indices₀, ap length so.places)

  -- and it is at most the length of the list of numbers
  pub numbers_fit : t.dropped ≤ length numbers
  numbers_fit = omega (arith, list_fits (λ (x : Dropped). x.number) numbers₀, ap length so.reasons)

  -- two lists of one length
  pub listed_alike : length (take t.dropped indices) ≡ length (take t.dropped numbers)
  listed_alike = length-take-le _ _ indices_fit ∙ sym (length-take-le _ _ numbers_fit)

  -- the indices that are listed
  listed_indices : take t.dropped indices ≡ indices_of (dropped_of bytes 0)
  unfolding over
  listed_indices =
      ap₂ (λ (k : ℕ) (l : List ℕ). take k l)
      (ap (λ (x : Mended). x.dropped) so.told ∙ sym (length-map (dropped_of bytes 0) (λ (x : Dropped). x.index))) so.places
      ∙ take-append_seam (indices_of (dropped_of bytes 0)) _

  -- are indices of words, so few
  pub listed_low : length bytes ≤ 1048576 → Low (take t.dropped indices)
  listed_low h = rw listed_indices (λ k below. omega (arith, h, length_unpack bytes, indices_low bytes 0 k (omega (arith, below, length-map (dropped_of bytes 0) (λ (x : Dropped). x.index)))))
