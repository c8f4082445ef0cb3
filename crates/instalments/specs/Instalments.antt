-- Recordings in instalments (document 02, request 3): bytes are taken as they come, a word is run once its twenty bits are there, and what
-- is checked of a whole stream waits for the end.
use Rattle.std.specs.Prelude.{ℕ, ◌+◌, ◌*◌, ◌/◌, ◌%◌, ◌^◌, Bool, cond, not, ◌&&◌, ◌||◌, List, [], ◌++◌, length, take, drop, ◌==◌, nat_lt}
use mathlib.Core.List.{foldl}
use Rattle.stream.specs.Format.{bits, number}
use Rattle.registers.specs.declared.Registers.{Registers}
use Rattle.registers.specs.Record.{reset_of}
use Rattle.registers.specs.Word.{word_of}
use Rattle.refusals.specs.Bounds.{in_bounds}
use Rattle.refusals.specs.Refusal.{is_cold}
use Rattle.machine.specs.Run.{Ran, ran, advance}
use Rattle.machine.specs.Machine.{Memories, step_of}
use Rattle.chip.specs.Chip.{chip}
use Rattle.instalments.specs.declared.Intake.{Intake}

-- how far a recording has come, with the lent memories: its run so far; the bits of a word that has not come whole, as a number, and how
-- many they are; and 1 once the end was told with no word refused before it, else 0
pub record Taking : Type 0 where
  pub so : Ran Registers Memories
  pub held : ℕ
  pub count : ℕ
  pub over : ℕ

-- ---- what is kept between calls

-- the run so far, as a call's answer tells it, with the lent memories
abbrev pub so_far : Intake → Memories → Ran Registers Memories
so_far s m = ran s.refusal s.index s.sum s.registers m

-- the record that is kept between calls, with the lent memories
abbrev pub taking : Intake → Memories → Taking
taking s m = record { so = so_far s m; held = s.held; count = s.count; over = s.over }

-- and the record alone
abbrev pub intake_of : Taking → Intake
intake_of t =
    record {
      refusal = t.so.refusal;
      index = t.so.index;
      sum = t.so.sum;
      held = t.held;
      count = t.count;
      over = t.over;
      registers = t.so.registers;
    }

-- before the first byte
abbrev pub fresh : Intake
fresh = record { refusal = 0; index = 0; sum = 0; held = 0; count = 0; over = 0; registers = reset_of }

-- the same words run, with another number, other bits held and another end
abbrev pub answering : Intake → ℕ → ℕ → ℕ → ℕ → Intake
answering s refusal held count over =
    record { refusal = refusal; index = s.index; sum = s.sum; held = held; count = count; over = over; registers = s.registers }

-- a word was refused, or the end was told
abbrev pub is_closed : ℕ → ℕ → Bool
is_closed refusal over = not (refusal == 0) || not (over == 0)

-- ---- records that break a bound

-- the numbers that a word of a stream gets: not 1, since twenty bits hold no command above 15, and not 11, 12 or 13, which refuse no word
abbrev pub is_word_number : ℕ → Bool
is_word_number n = (nat_lt n 11 && not (n == 1)) || n == 14

-- the numbers that the end tells: 12 is of half a byte, which is left over only behind an odd number of words
abbrev pub is_end_number : ℕ → ℕ → Bool
is_end_number index n = (n == 0 || n == 2) || (n == 11 || (n == 12 && index % 2 == 1))

-- before the end a word's number is told, and then the end's
abbrev pub number_fits : ℕ → ℕ → ℕ → Bool
number_fits over index n = (over == 0 && is_word_number n) || (over == 1 && is_end_number index n)

-- fewer bits are held than a word has; those of the words that were run and these are whole bytes; and they are a number of no more bits. A
-- closed record holds none
unfoldable pub bits_fit : Bool → ℕ → ℕ → ℕ → Bool
bits_fit closed index held count =
    cond closed (held == 0 && count == 0) (nat_lt count 20 && ((20 * index + count) % 8 == 0 && held / 2 ^ count == 0))

-- before the first accepted INIT no word was run
abbrev pub begun_fits : ℕ → ℕ → Registers → Bool
begun_fits index sum r = not (is_cold r) || (index == 0 && sum == 0)

-- the bounds on the fields of the record (docs/CALLS.md lists them): none is broken by a record that the calls from the
-- beginning on leave
unfoldable pub is_sound : Intake → Bool
is_sound s =
    bits_fit (is_closed s.refusal s.over) s.index s.held s.count
    && (number_fits s.over s.index s.refusal && (begun_fits s.index s.sum s.registers && in_bounds s.registers))

-- a run's number is told anew
abbrev pub numbered : ℕ → Ran Registers Memories → Ran Registers Memories
numbered n a = ran n a.index a.sum a.registers a.memories

-- refused with 2: nothing else changes
abbrev pub unsound : Taking → Taking
unsound t = record { so = numbered 2 t.so; held = t.held; count = t.count; over = t.over }

-- what a call comes to: a record that breaks a bound is refused
unfoldable pub given : Taking → Taking → Taking
given t next = cond (is_sound (intake_of t)) next (unsound t)

-- ---- an instalment

-- words are counted modulo 2 ^ 64
abbrev pub counted : Ran Registers Memories → Ran Registers Memories
counted a = ran a.refusal (a.index % 2 ^ 64) a.sum a.registers a.memories

-- a word more, unless one was refused
unfoldable pub word_in : Ran Registers Memories → ℕ → Ran Registers Memories
word_in a w = counted (advance (step_of chip) a (word_of w))

-- a row of bits is held
abbrev pub holding : Ran Registers Memories → List ℕ → Taking
holding a row = record { so = a; held = number row; count = length row; over = 0 }

-- bits wait for the rest of their word; after a refused word none do
unfoldable pub waiting : Ran Registers Memories → List ℕ → Taking
waiting a row = holding a (cond (a.refusal == 0) row [])

-- a row of bits, of which the first twenty are a word
unfoldable pub poured : Ran Registers Memories → List ℕ → Taking
poured a row = cond (nat_lt (length row) 20) (waiting a row) (waiting (word_in a (number (take 20 row))) (drop 20 row))

-- a byte more, unless a word was refused or the end was told
unfoldable pub byte_in : Taking → ℕ → Taking
byte_in t b = cond (is_closed t.so.refusal t.over) t (poured t.so (bits t.count t.held ++ bits 8 b))

-- bytes, one after the other
unfoldable pub bytes_in : Taking → List ℕ → Taking
bytes_in t bytes = foldl byte_in t bytes

-- an instalment
unfoldable pub feeding : Taking → List ℕ → Taking
feeding t bytes = given t (bytes_in t bytes)

-- ---- the end

-- 11 where the bits that are left over are neither none nor four, 12 where they are not 0, and then 2 where the memories differ in length
abbrev pub end_number : ℕ → ℕ → ℕ → ℕ → ℕ
end_number held count ni nz = cond (not (count == 0 || count == 4)) 11 (cond (not (held == 0)) 12 (cond (ni == nz) 0 2))

-- of a recording
abbrev pub end_number_of : Taking → ℕ
end_number_of t = end_number t.held t.count (length t.so.memories.i) (length t.so.memories.z)

-- the end is told: refusing, it tells the words run and their sum, and leaves the registers and memories that these left
abbrev pub end_told : Taking → Taking
end_told t = record { so = numbered (end_number_of t) t.so; held = 0; count = 0; over = 1 }

-- the end
unfoldable pub ending : Taking → Taking
ending t = given t (cond (is_closed t.so.refusal t.over) t (end_told t))
