-- Sorting a recording's words on registers alone, over memories without places.
use Rattle.std.specs.Prelude.{◌≡◌, ℕ, Option, None, Some, ◌*◌, ◌/◌, ◌%◌, ◌≤◌, cond, List, length, eqb}
use Rattle.std.proofs.lemmas.List.Edits.{sets}
use denote.Triple.Both.{Both}
use Rattle.std.specs.Borrow.{Bor}
use Rattle.picture.specs.Lent.{Lent}
use Rattle.stream.specs.Format.{pack_of}
use Rattle.stream.specs.Calls.{over}
use Rattle.registers.specs.declared.Registers.{Registers}
use Rattle.mending.specs.Mend.{number_in, after_in, mended_of, dropped_of, indices_of, numbers_of}

-- a word's number, and the registers after it
pub record Judged (r : Registers) (w number : ℕ) (left : Registers) : Type 0 where
  pub refusal : number ≡ number_in 0 r w
  pub registers : left ≡ after_in 0 r w

-- where j is odd, the last of j kept words waits for the next: some words, packed behind the pairs before it
unfoldable pub put_waiting : List ℕ → ℕ → List ℕ → List ℕ
put_waiting words j out = cond (eqb (j % 2) 1) (sets out (5 * (j / 2)) (pack_of words)) out

-- a word waits exactly where j is odd
abbrev pub Waits : Option ℕ → ℕ → Type 0
Waits None j = j % 2 ≡ 0
Waits (Some w) j = j % 2 ≡ 1

-- the word that waits; 0 where none does
abbrev pub word_in : Option ℕ → ℕ
word_in None = 0
word_in (Some w) = w

-- what waits behind one word more: that word, or none where one waited for it
abbrev pub next_waiting : Option ℕ → ℕ → Option ℕ
next_waiting None w = Some w
next_waiting (Some v) w = None

-- there is room for the new stream and the list
pub record Room (bytes out indices numbers : List ℕ) : Type 0 where
  pub stream : length (mended_of bytes 0) ≤ length out
  pub places : length (dropped_of bytes 0) ≤ length indices
  pub reasons : length (dropped_of bytes 0) ≤ length numbers

-- they are written over the front of what was lent
pub record Sorted (bytes out₀ indices₀ numbers₀ out indices numbers : List ℕ) : Type 0 where
  pub stream : out ≡ over (mended_of bytes 0) out₀
  pub places : indices ≡ over (indices_of (dropped_of bytes 0)) indices₀
  pub reasons : numbers ≡ over (numbers_of (dropped_of bytes 0)) numbers₀

-- by what a call is lent
abbrev pub Sorts : {X : Type 0} → Both (Bor (List ℕ)) X → Lent → Lent → Lent → Type 0
Sorts bytes out indices numbers =
    Sorted bytes.entry.now out.entry.now indices.entry.now numbers.entry.now
    out.exit.now indices.exit.now numbers.exit.now
