-- One turn of a loop over a text. Assumes nothing.
use Rattle.std.proofs.Common.{◌≡◌, ℕ, ◌+◌, ◌<◌, ◌≤◌, List, length, get_or, drop, add-one, drop_of_length-le, drop-cons}
use Rattle.listing.specs.Reading.{Reading, taken, read_on}

-- the text that is left is its first byte, and then the rest
pub turn : (text : List ℕ) (k : ℕ) → k < length text → (s : Reading) → read_on s (drop k text) ≡ read_on (taken s (get_or text k 0)) (drop (k + 1) text)
unfolding read_on
turn text k h s = rw (add-one, drop-cons text k 0 h)

-- nothing is left
pub over : (text : List ℕ) (k : ℕ) → length text ≤ k → (s : Reading) → read_on s (drop k text) ≡ s
unfolding read_on
over text k h s = rw (drop_of_length-le text h)
