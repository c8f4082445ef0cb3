-- Mending a damaged recording (request 13): its whole words run in order from reset, and those that are refused are dropped.
use Rattle.std.specs.Prelude.{ℕ, ◌+◌, ◌%◌, Bool, cond, ◌||◌, List, [], ◌∷◌, map, length, get_or, ltb, eqb}
use denote.Triple.Both.{Both}
use Rattle.stream.specs.Format.{unpack_of, pack_of}
use Rattle.stream.specs.Calls.{bad_tail, over}
use Rattle.registers.specs.declared.Registers.{Registers}
use Rattle.registers.specs.Record.{reset_of}
use Rattle.registers.specs.Word.{word_of}
use Rattle.refusals.specs.Refusal.{refusal_of, next}
use Rattle.std.specs.Borrow.{Bor}
use Rattle.picture.specs.Lent.{Lent}
use Rattle.machine.specs.Machine.{Memories, step_of}
use Rattle.machine.specs.Lent.{found, left}
use Rattle.machine.specs.Offers.{all_of}
use Rattle.chip.specs.Chip.{chip}
use Rattle.chip.specs.Stream.{words_of}
use Rattle.mending.specs.declared.Mended.{Mended}

-- ---- the words, over two memories of n places each

-- the number that a word gets, 0 for accepted
abbrev pub number_in : ℕ → Registers → ℕ → ℕ
number_in n r w = refusal_of n n r (word_of w)

-- the registers after it, a refused one skipped
abbrev pub after_in : ℕ → Registers → ℕ → Registers
after_in n r w = next n n r (word_of w)

-- the words that are kept: those that are accepted
unfoldable pub kept_in : ℕ → Registers → List ℕ → List ℕ
kept_in n r [] = []
kept_in n r (w ∷ ws) = let rest = kept_in n (after_in n r w) ws in cond (eqb (number_in n r w) 0) (w ∷ rest) rest

-- a word that is dropped: its index, and the number that refuses it
pub record Dropped : Type 0 where
  pub index : ℕ
  pub number : ℕ

-- a dropped word, by its index and its number
abbrev pub dropped : ℕ → ℕ → Dropped
dropped k number = record { index = k; number = number }

-- the words that are dropped, where the first has index k: those that are refused
unfoldable pub dropped_in : ℕ → ℕ → Registers → List ℕ → List Dropped
dropped_in n k r [] = []
dropped_in n k r (w ∷ ws) =
    let rest = dropped_in n (k + 1) (after_in n r w) ws in
    cond (eqb (number_in n r w) 0) rest (dropped k (number_in n r w) ∷ rest)

-- ---- a recording

-- the words that are kept of a recording, and the stream that they make
abbrev pub kept_of : List ℕ → ℕ → List ℕ
kept_of bytes n = kept_in n reset_of (unpack_of bytes)

-- the mended stream is the kept words, packed
abbrev pub mended_of : List ℕ → ℕ → List ℕ
mended_of bytes n = pack_of (kept_of bytes n)

-- the words that are dropped, by their index in the recording
abbrev pub dropped_of : List ℕ → ℕ → List Dropped
dropped_of bytes n = dropped_in n 0 reset_of (unpack_of bytes)

-- their indices, and their numbers
abbrev pub indices_of : List Dropped → List ℕ
indices_of ds = map (λ (d : Dropped). d.index) ds

-- the numbers that refuse the dropped words, in the order of the list
abbrev pub numbers_of : List Dropped → List ℕ
numbers_of ds = map (λ (d : Dropped). d.number) ds

-- the bits cut from the end, by the length mod 5: those after the last whole word, but for the closing half byte at 3
abbrev pub cut_at : ℕ → ℕ
cut_at m = get_or (0 ∷ 8 ∷ 16 ∷ 0 ∷ 12 ∷ []) m 0

-- how many bits are cut from the end of a recording depends on its length alone
unfoldable pub cut_of : List ℕ → ℕ
cut_of bytes = cut_at (length bytes % 5)

-- whether a closing half byte that is not 0 is cleared: 1, or 0
unfoldable pub cleared_of : List ℕ → ℕ
cleared_of bytes = cond (bad_tail bytes) 1 0

-- ---- the call

-- what mending comes to: what it tells, and what it leaves in the lent output, in the two lists and in the memories
pub record Mending : Type 0 where
  pub told : Mended
  pub stream : List ℕ
  pub indices : List ℕ
  pub numbers : List ℕ
  pub memories : Memories

-- what mending comes to, by its parts: what is told, the output, the two lists and the memories
abbrev pub mending : Mended → List ℕ → List ℕ → List ℕ → Memories → Mending
mending t stream indices numbers m = record { told = t; stream = stream; indices = indices; numbers = numbers; memories = m }

-- a refusal tells its number and nothing else
abbrev pub refused : ℕ → Mended
refused number = record { refusal = number; size = 0; dropped = 0; cut = 0; cleared = 0 }

-- a success tells the length of the new stream, how many words were dropped, how many bits were cut from the end, and whether a closing
-- half byte that was not 0 was cleared
abbrev pub done : List ℕ → ℕ → Mended
done bytes n = record { refusal = 0; size = length (mended_of bytes n); dropped = length (dropped_of bytes n); cut = cut_of bytes; cleared = cleared_of bytes }

module _ (bytes stream indices numbers : List ℕ) (m : Memories) where
  -- whether the output or a list is too short
  unfoldable pub is_short : Bool
  is_short =
      ltb (length stream) (length (mended_of bytes (length m.i)))
      || ltb (length indices) (length (dropped_of bytes (length m.i)))
      || ltb (length numbers) (length (dropped_of bytes (length m.i)))

  -- 2: the memories differ in length; then 13: too little room for the new stream or for the list
  unfoldable pub refusal_in : ℕ
  refusal_in = cond (eqb (length m.i) (length m.z)) (cond is_short 13 0) 2

  -- the new stream and the list are written, and the memories are what all words leave, refused ones skipped
  abbrev pub mended_all : Mending
  mended_all =
      mending (done bytes (length m.i)) (over (mended_of bytes (length m.i)) stream)
      (over (indices_of (dropped_of bytes (length m.i))) indices) (over (numbers_of (dropped_of bytes (length m.i))) numbers)
      (all_of (step_of chip) reset_of (words_of bytes) m).memories

  -- a refusal touches nothing
  unfoldable pub mending_of : Mending
  mending_of = cond (eqb refusal_in 0) mended_all (mending (refused refusal_in) stream indices numbers m)

-- ---- over what is lent: the output, the two lists and the memories

-- what a call comes to that told this
abbrev pub outcome_over : Mended → Lent → Lent → Lent → Lent → Lent → Mending
outcome_over told stream indices numbers im zm =
    mending told stream.exit.now indices.exit.now numbers.exit.now (left im zm)

-- what mending the bytes comes to over these as a call finds them
abbrev pub mending_over : {X : Type 0} → Both (Bor (List ℕ)) X → Lent → Lent → Lent → Lent → Lent → Mending
mending_over bytes stream indices numbers im zm =
    mending_of bytes.entry.now stream.entry.now indices.entry.now numbers.entry.now (found im zm)
