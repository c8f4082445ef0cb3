-- What the promises of `recording`, `words` and `blank` settle: one array each. Assumes nothing.
use mathlib.Core.Path.{◌≡◌, sym, ◌∙◌}
use mathlib.Core.List.{List}
use Prim.Native.Nat.{ℕ}
use Rattle.console.specs.Room.{Filled}

-- two arrays that are filled with the same number, at as many places, are equal
pub settled : {places n : ℕ} {a b : List ℕ} → Filled places n a → Filled places n b → a ≡ b
settled p q = p.same ∙ sym q.same
