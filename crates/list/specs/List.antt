-- What the program prints: the listing of a recording's words, in pages of 2,520 lines.
use Rattle.std.specs.Prelude.{ℕ, zero, suc, ◌+◌, List, [], ◌++◌, take, drop}
use Rattle.listing.specs.Text.{listing}

-- the page that begins with the word at a place
unfoldable pub page_of : List ℕ → ℕ → List ℕ
page_of words from = listing from (take 2520 (drop from words))

-- n pages, one after the other, from the word at a place on
unfoldable pub pages : List ℕ → ℕ → ℕ → List ℕ
pages words from zero = []
pages words from (suc n) = page_of words from ++ pages words (from + 2520) n
