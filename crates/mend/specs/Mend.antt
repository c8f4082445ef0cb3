-- What the program makes of a recording, over memories without places.
use Rattle.std.specs.Borrow.{Bor, MutBor}
use denote.Triple.Both.{Both}
use Rattle.std.specs.Prelude.{◌≡◌, List, ℕ, ◌≤◌, ◌<◌, length, get_or}
use Rattle.stream.specs.Format.{unpack_of}
use Rattle.stream.specs.Calls.{over}
use Rattle.mending.specs.declared.Mended.{Mended}
use Rattle.mending.specs.Mend.{mended_of, dropped_of, indices_of, numbers_of, done}

-- room for a stream as long as the recording, and for a list of all its words
pub record Enough (bytes out indices numbers : List ℕ) : Type 0 where
  pub stream : length bytes ≤ length out
  pub places : length (unpack_of bytes) ≤ length indices
  pub reasons : length (unpack_of bytes) ≤ length numbers

-- a lent list, as a call finds it and as it leaves it
abbrev Lent : Type 0
Lent = Both (MutBor (List ℕ)) (MutBor (List ℕ))

-- the recording is mended: the new stream and the list stand at the front of what was lent, and nothing was refused
pub record Repaired (bytes out₀ indices₀ numbers₀ : List ℕ) (t : Mended) (out indices numbers : List ℕ) : Type 0 where
  pub told : t ≡ done bytes 0
  pub stream : out ≡ over (mended_of bytes 0) out₀
  pub places : indices ≡ over (indices_of (dropped_of bytes 0)) indices₀
  pub reasons : numbers ≡ over (numbers_of (dropped_of bytes 0)) numbers₀

-- the same of what the call is lent, as it finds and as it leaves it
abbrev pub Repairs : {X : Type 0} → Both (Bor (List ℕ)) X → Lent → Lent → Lent → Mended → Type 0
Repairs bytes out indices numbers t =
    Repaired bytes.entry.now out.entry.now indices.entry.now numbers.entry.now t out.exit.now indices.exit.now
    numbers.exit.now

-- indices of 32 bits, as `list` takes them
abbrev pub Low : List ℕ → Type 0
Low indices = (k : ℕ) → k < length indices → get_or indices k 0 < 4294967296
