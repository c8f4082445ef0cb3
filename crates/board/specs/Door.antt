-- Words at the door of a board (document 02, [8]): what its units are given in the place of what comes.
use Rattle.std.specs.Prelude.{ℕ, ◌+◌, ◌*◌, ◌/◌, ◌%◌, Bool, true, false, cond, ◌&&◌, ◌||◌, ◌==◌, nat_lt}
use Rattle.registers.specs.Lines.{chips_in}
use Rattle.registers.specs.declared.word.Word.{Word}
use Rattle.registers.specs.declared.word.Word.TheVariants.{Init, Aux, Parm, At, Img, Ptrn, Reserved, Unmodelled, Unknown}

-- a board has 1, 2 or 4 units
unfoldable pub is_board : ℕ → Bool
is_board units = units == 1 || units == 2 || units == 4

-- more than one
abbrev pub is_several : ℕ → Bool
is_several units = nat_lt 1 units

-- the chips code of a board: 0, 1, 2 for 1, 2, 4 units
abbrev pub own_code : ℕ → ℕ
own_code units = units / 2

-- the chips code that a single chip is given: 0 for the board's own and 3 for any other
unfoldable pub solo_code : ℕ → ℕ → ℕ
solo_code units code = cond (code == own_code units) 0 3

-- INIT's data with that chips code; unit, page and line length as they come
unfoldable pub solo_data : ℕ → ℕ → ℕ
solo_data units d = d / 256 * 256 + solo_code units (chips_in d) * 64 + d % 64

-- what one chip is given in the place of a word: INIT with that data, any other as it is
abbrev pub solo_word : ℕ → Word → Word
solo_word units (Init d) = Init (solo_data units d)
solo_word units (Aux n) = Aux n
solo_word units (Parm v) = Parm v
solo_word units (At c n) = At c n
solo_word units (Img d) = Img d
solo_word units (Ptrn v) = Ptrn v
solo_word units Reserved = Reserved
solo_word units Unmodelled = Unmodelled
solo_word units Unknown = Unknown

-- commands 0 and 9 hex, PTRN and IMG
abbrev pub is_transfer : Word → Bool
is_transfer (Init d) = false
is_transfer (Aux n) = false
is_transfer (Parm v) = false
is_transfer (At c n) = false
is_transfer (Img d) = true
is_transfer (Ptrn v) = true
is_transfer Reserved = false
is_transfer Unmodelled = false
is_transfer Unknown = false

-- what each unit is given: the same, but on several units PTRN and IMG as A hex, which is not modelled
unfoldable pub unit_word : ℕ → Word → Word
unit_word units w = cond (is_several units && is_transfer w) Unmodelled (solo_word units w)

-- ---- by command and data

-- the command that is sent on to each unit: on several units A hex for 0 and 9, any other as it comes
unfoldable pub command_of : ℕ → ℕ → ℕ
command_of units command = cond (is_several units && (command == 0 || command == 9)) 10 command

-- the data that is sent on to each unit: INIT's with the chips code that a single chip is given, any other as it comes
unfoldable pub data_of : ℕ → ℕ → ℕ → ℕ
data_of units command d = cond (command == 15) (solo_data units d) d
