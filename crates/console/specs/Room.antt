-- Arrays of one value, as the programs make room.
use Rattle.std.specs.Prelude.{◌≡◌, List, ℕ, length, replicate}

-- so many places, each with the same value
unfoldable pub filled : {A : Type 0} → ℕ → A → List A
filled places n = replicate places n

-- what an array is. Its length is said beside it: whoever lends the array asks for that, and no proof then counts a million places
pub record Filled {A : Type 0} (places : ℕ) (n : A) (array : List A) : Type 0 where
  pub same : array ≡ filled places n
  pub long : places ≡ length array
