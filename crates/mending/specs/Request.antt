-- What request 13 asks (document 02), said of each outcome that the promise of `dextolumen_mend` allows.
use Rattle.std.specs.Prelude.{◌≡◌, ◌≢◌, ◌↔◌, Bool, true, false, cond, ◌||◌, ℕ, ◌+◌, ◌≤◌, ◌<◌, eqb, length, get_or, take}
use mathlib.Core.List.{List, [], ◌∷◌, map, Memᴰ}
use Rattle.stream.specs.Format.{fit, unpack_of}
use Rattle.stream.specs.Calls.{over}
use Rattle.registers.specs.declared.Registers.{Registers}
use Rattle.registers.specs.Record.{reset_of}
use Rattle.registers.specs.Word.{word_of}
use Rattle.machine.specs.Machine.{Memories, step_of}
use Rattle.machine.specs.Offers.{state, all_of}
use Rattle.chip.specs.Chip.{chip}
use Rattle.chip.specs.Stream.{words_of, running}
use Rattle.mending.specs.declared.Mended.{Mended}
use Rattle.mending.specs.Mend.{Dropped, dropped, mended_of, dropped_of, indices_of, numbers_of, cut_of, cleared_of, Mending, mending, refused, is_short}

-- ---- what is written

-- the stream that an outcome has written
abbrev pub stream_in : Mending → List ℕ
stream_in o = take o.told.size o.stream

-- the indices that it has listed, and the numbers
abbrev pub indices_in : Mending → List ℕ
indices_in o = take o.told.dropped o.indices

-- the numbers that it has listed: as many as it tells words dropped
abbrev pub numbers_in : Mending → List ℕ
numbers_in o = take o.told.dropped o.numbers

-- ---- what is refused, listed and kept

-- the number that the word with index i gets where all words before it came, refused ones skipped
abbrev pub number_after : Registers → Memories → List ℕ → ℕ → ℕ
number_after r m ws i =
    let a = all_of (step_of chip) r (map word_of (take i ws)) m in
    (step_of chip a.registers (word_of (get_or ws i 0)) a.memories).refusal

-- a list whose indices rise, from k on
abbrev pub Rising : ℕ → List Dropped → Type 0
Rising k [] = Unit {0}
Rising k (x ∷ xs) = (k ≤ x.index) × Rising (x.index + 1) xs

-- whether an index is on a list
unfoldable pub is_listed : ℕ → List ℕ → Bool
is_listed k [] = false
is_listed k (i ∷ is) = eqb i k || is_listed k is

-- the words whose index is not on a list, where the first has index k
unfoldable pub unlisted : List ℕ → ℕ → List ℕ → List ℕ
unlisted is k [] = []
unlisted is k (w ∷ ws) = let rest = unlisted is (k + 1) ws in cond (is_listed k is) rest (w ∷ rest)

-- ---- the request

-- a list that stands in the two slices, and has exactly the refused words, each with its index in the recording and its number
pub record Lists (bytes : List ℕ) (m : Memories) (o : Mending) : Type 0 where
  pub list : List Dropped
  pub indices_are : indices_in o ≡ indices_of list
  pub numbers_are : numbers_in o ≡ numbers_of list
  pub refused_words : (k number : ℕ) → Memᴰ (dropped k number) list
      ↔ ((k < length (unpack_of bytes)) × (number_after reset_of m (unpack_of bytes) k ≡ number) × (number ≢ 0))
  pub rises : Rising 0 list

-- an outcome that is not refused: the new stream is run without a refusal, and ends with the registers and memories of the old words,
-- refused ones skipped; these are the memories that are left; the list is exactly the refused words, and the words of the new stream are
-- exactly those that are not on it; the bits cut and the half byte cleared are told
pub record Mends (bytes : List ℕ) (m : Memories) (o : Mending) : Type 0 where
  pub runs : (running reset_of (stream_in o) m).refusal ≡ 0
  pub ends : state (running reset_of (stream_in o) m).registers (running reset_of (stream_in o) m).memories ≡ all_of (step_of chip) reset_of (words_of bytes) m
  pub drawn : o.memories ≡ (running reset_of (stream_in o) m).memories
  pub lists : Lists bytes m o
  pub keeps : unpack_of (stream_in o) ≡ unlisted (indices_in o) 0 (unpack_of bytes)
  pub cut_told : o.told.cut ≡ cut_of bytes
  pub cleared_told : o.told.cleared ≡ cleared_of bytes

-- what is told of a recording in which there is nothing to mend
abbrev pub whole : List ℕ → Mended
whole bytes = record { refusal = 0; size = length bytes; dropped = 0; cut = 0; cleared = 0 }

-- what every call of `dextolumen_mend` comes to, over what it was lent
pub record Request13 (bytes out indices numbers : List ℕ) (m : Memories) (o : Mending) : Type 0 where
  -- memories of unlike length are refused with 2, and nothing is touched
  pub unlike : length m.i ≢ length m.z → o ≡ mending (refused 2) out indices numbers m
  -- too little room for the new stream or for the list is refused with 13, and nothing is touched
  pub short : length m.i ≡ length m.z → is_short bytes out indices numbers m ≡ true
      → o ≡ mending (refused 13) out indices numbers m
  -- with room enough, if only just, it is not refused
  pub enough : length m.i ≡ length m.z → length (mended_of bytes (length m.i)) ≤ length out
      → length (dropped_of bytes (length m.i)) ≤ length indices → length (dropped_of bytes (length m.i)) ≤ length numbers
      → o.told.refusal ≡ 0
  -- where it is not refused, it mends
  pub mends : o.told.refusal ≡ 0 → Mends bytes m o
  -- a recording of bytes that runs without a refusal comes back as it was, with an empty list, over the memories that it draws
  pub same : fit 8 bytes ≡ true → (running reset_of bytes m).refusal ≡ 0 → length bytes ≤ length out
      → o ≡ mending (whole bytes) (over bytes out) indices numbers (running reset_of bytes m).memories
