-- The rule of the table of line lengths, proved at all of its entries by one test that is computed. Assumes nothing.
use mathlib.Core.Path.{◌≡◌}
use mathlib.Core.Bool.{Bool}
use mathlib.Core.List.{List, [], ◌∷◌}
use Prim.Native.Nat.{ℕ, ◌<◌}
use lib.Dec.{eqb, eqb→eq}
use lib.ListN.{get_or}
use Rattle.registers.specs.Lines.{line_of}
use Rattle.registers.proofs.Table.{at}

-- the table, as the code has it
unfoldable pub lengths : List ℕ
lengths =
    256 ∷ 320 ∷ 384 ∷ 448 ∷ 512 ∷ 576 ∷ 640 ∷ 704 ∷ 1024 ∷ 1088 ∷ 1152 ∷ 1216 ∷ 2048 ∷ 2112 ∷ 2176 ∷ 2240
    ∷ 0 ∷ 0 ∷ 768 ∷ 832 ∷ 0 ∷ 0 ∷ 1280 ∷ 1344 ∷ 0 ∷ 0 ∷ 2304 ∷ 2368 ∷ 4096 ∷ 4160 ∷ 4352 ∷ 4416
    ∷ 0 ∷ 0 ∷ 1536 ∷ 1600 ∷ 0 ∷ 0 ∷ 2560 ∷ 2624 ∷ 0 ∷ 0 ∷ 4608 ∷ 4672 ∷ 8192 ∷ 8256 ∷ 8704 ∷ 8768
    ∷ 0 ∷ 0 ∷ 0 ∷ 0 ∷ 0 ∷ 0 ∷ 0 ∷ 0 ∷ 0 ∷ 0 ∷ 0 ∷ 0 ∷ 0 ∷ 0 ∷ 0 ∷ 0 ∷ []

right : ℕ → ℕ → Bool
right k x = eqb x (line_of k)

-- an entry of the table is the line length of its code
pub line_at : (k : ℕ) → k < 64 → get_or lengths k 0 ≡ line_of k
unfolding lengths right line_of
line_at k h = eqb→eq _ _ (at right lengths tt k h)
