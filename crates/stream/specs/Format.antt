-- The format of a packed stream (document 01, "Packed stream"): 20-bit words back to back, command first, most significant bit first.
-- An odd number of words ends with four zero bits.
use Rattle.std.specs.Prelude.{ℕ, zero, suc, ◌+◌, ◌*◌, ◌/◌, ◌%◌, ◌^◌, List, [], ◌∷◌, ◌++◌, Bool, true, cond, ◌&&◌, length, get_or, take, drop, ltb, eqb}

-- the last k bits of a number, the most significant first
unfoldable pub bits : ℕ → ℕ → List ℕ
bits zero n = []
bits (suc k) n = n / 2 ^ k % 2 ∷ bits k n

-- the number that some bits are, the most significant first
unfoldable pub number : List ℕ → ℕ
number [] = 0
number (b ∷ bs) = b * 2 ^ length bs + number bs

-- every number has at most k bits
unfoldable pub fit : ℕ → List ℕ → Bool
fit k [] = true
fit k (n ∷ ns) = ltb n (2 ^ k) && fit k ns

-- numbers of k bits, back to back
unfoldable pub joined : ℕ → List ℕ → List ℕ
joined k [] = []
joined k (n ∷ ns) = bits k n ++ joined k ns

-- the first n numbers of k bits
unfoldable pub cut : ℕ → ℕ → List ℕ → List ℕ
cut k zero bs = []
cut k (suc n) bs = number (take k bs) ∷ cut k n (drop k bs)

-- all whole numbers of k bits
unfoldable pub whole : ℕ → List ℕ → List ℕ
whole k bs = cut k (length bs / k) bs

-- the words that a stream of bytes holds
unfoldable pub unpack_of : List ℕ → List ℕ
unpack_of bytes = whole 20 (joined 8 bytes)

-- the bits after the last of n words: four zero bits where n is odd
unfoldable pub closing : ℕ → List ℕ
closing n = cond (eqb (n % 2) 1) (0 ∷ 0 ∷ 0 ∷ 0 ∷ []) []

-- the stream of bytes that some words make
unfoldable pub pack_of : List ℕ → List ℕ
pack_of words = whole 8 (joined 20 words ++ closing (length words))

-- the word at a place, counted from 0; past the last word 0
unfoldable pub word_at : List ℕ → ℕ → ℕ
word_at bytes k = get_or (unpack_of bytes) k 0
