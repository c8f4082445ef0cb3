-- Numbers as arguments tell them, in decimal digits.
use Rattle.std.specs.Prelude.{ℕ, ◌+◌, ◌*◌, ◌%◌, Bool, true, not, ◌&&◌, List, [], ◌∷◌, ltb}

-- a digit in ASCII
unfoldable pub is_digit : ℕ → Bool
is_digit byte = not (ltb byte 48) && ltb byte 58

-- whether all bytes are digits
unfoldable pub digits_only : List ℕ → Bool
digits_only [] = true
digits_only (byte ∷ rest) = is_digit byte && digits_only rest

-- the number that digits tell behind those that told n; a digit's number is its byte mod 16
unfoldable pub value_of : ℕ → List ℕ → ℕ
value_of n [] = n
value_of n (byte ∷ rest) = value_of (n * 10 + byte % 16) rest
