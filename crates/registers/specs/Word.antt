-- What a command and its data mean (the sheet's table of commands).
use Rattle.std.specs.Prelude.{ℕ, ◌/◌, ◌%◌, List, [], ◌∷◌, get_or}
use Rattle.registers.specs.declared.word.Coordinate.TheVariants.{I, Z, Y, X, T1x, T2x, Lx, Px}
use Rattle.registers.specs.declared.word.Word.{Word}
use Rattle.registers.specs.declared.word.Word.TheVariants.{Init, Aux, Parm, At, Img, Ptrn, Reserved, Unmodelled, Unknown}

-- the commands 0 to F hex, in order
abbrev pub commands : ℕ → List Word
commands d =
    Ptrn d ∷ At I d ∷ At Z d ∷ At Y d ∷ At X d ∷ At T1x d ∷ At T2x d ∷ Reserved
    ∷ At Lx d ∷ Img d ∷ Unmodelled ∷ At Px d ∷ Reserved ∷ Parm d ∷ Aux d ∷ Init d ∷ []

-- the word that a command and its data are
unfoldable pub decode : ℕ → ℕ → Word
decode command d = get_or (commands d) command Unknown

-- the word that 20 bits are: the command, then the data
unfoldable pub word_of : ℕ → Word
word_of n = decode (n / 65536) (n % 65536)
