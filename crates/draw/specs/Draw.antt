-- What the drawing program prints (document 01, "Examples").
use Rattle.std.specs.Prelude.{cond, List, [], ◌∷◌, ℕ, length, ltb}
use Rattle.printing.specs.Printing.{stream_text}

-- `too long`, and the line's end
abbrev pub too_long : List ℕ
too_long = 116 ∷ 111 ∷ 111 ∷ 32 ∷ 108 ∷ 111 ∷ 110 ∷ 103 ∷ 10 ∷ []

-- what is printed for the bytes that are read
unfoldable pub printed : List ℕ → List ℕ
printed bytes = cond (ltb 8192 (length bytes)) too_long (stream_text bytes)
