-- What was taken stands at the front of the buffer that it was taken into. Assumes nothing.
use mathlib.Core.Path.{◌≡◌, sym}
use mathlib.Core.List.{List}
use Prim.Native.Nat.{ℕ, ◌≤◌}
use native.Mathlib.Omega.{arith}
use lib.ListN.{length, take}
use lib.Seq.{length-take-le}
use Rattle.std.specs.Prelude.{Result, Ok}
use Rattle.std.specs.declared.io.Error.{Error}
use Rattle.console.specs.Taken.{Within}

module _ {room n : ℕ} {taken : Result ℕ Error} where
  -- no more bytes came than it has
  pub taken_fits : {long : ℕ} → Within room taken → taken ≡ Ok n → long ≡ room → n ≤ long
  taken_fits within came kept = let low = rw came at within in omega (arith, low, kept)

  -- so many stand at its front
  pub taken_front : (buf : List ℕ) → Within room taken → taken ≡ Ok n → length buf ≡ room → n ≡ length (take n buf)
  taken_front buf within came kept = sym (length-take-le n buf (taken_fits within came kept))
