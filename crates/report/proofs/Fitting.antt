-- The text of a run fits a page that has room for any. Assumes nothing.
use mathlib.Core.Path.{◌≡◌}
use mathlib.Core.List.{List}
use Prim.Native.Nat.{ℕ, ◌^◌, ◌≤◌, ◌<◌}
use native.Mathlib.Omega.{arith}
use lib.ListN.{length, get_or}
use Rattle.report.specs.Text.{report}
use Rattle.report.specs.Calls.{writing, wrote, Stands}
use Rattle.report.specs.declared.NoRoom.{NoRoom}
use Rattle.std.specs.Prelude.{Result, Ok, Err, IsOk}
use Rattle.std.specs.Result.{result_unwrap_or}
use Rattle.report.proofs.Room.{report_short}
use Rattle.report.proofs.Calls.{answer_stands, answer_fits, answer_done, answer_told}

-- three numbers of 64 bits and 8,192 places of 16 bits: the text fits the page, so that it is written
module _
    (words refusal passed line : ℕ)
    (im zm old new : List ℕ)
    (answer : Result ℕ NoRoom)
    (a : words < 2 ^ 64)
    (b : refusal < 2 ^ 64)
    (c : passed < 2 ^ 64)
    (places : length im ≤ 8192)
    (small : (k : ℕ) → get_or im k 0 < 65536)
    (low : (k : ℕ) → get_or zm k 0 < 65536)
    (page : 180308 ≤ length old)
    (e : wrote answer new ≡ writing words refusal passed line im zm old)
  where
    enough : length (report words refusal passed line im zm) ≤ length old
    enough =
        let short =
        report_short line im zm (λ k. omega (arith, small k)) (λ k. omega (arith, low k)) words refusal passed a b c (omega arith) in
        omega (arith, short)

    -- where the call answers that it is done, the text of the run stands at the front of the page, and its length is told
    pub text_stands : {n : ℕ} → answer ≡ Ok n → Stands (report words refusal passed line im zm) old new n
    text_stands q = answer_stands (report words refusal passed line im zm) old answer enough e q

    -- the call never answers that there is no room
    pub text_fits : {none : NoRoom} → answer ≡ Err none → ⊥
    text_fits q = answer_fits (report words refusal passed line im zm) old answer enough e q

    -- so that it is done, as a caller asks that unwraps the answer
    pub text_done : IsOk answer
    text_done = answer_done (report words refusal passed line im zm) old answer enough e

    -- and its length is told, where a caller takes 0 for no room
    pub text_told : Stands (report words refusal passed line im zm) old new (result_unwrap_or answer 0)
    text_told = answer_told (report words refusal passed line im zm) old answer enough e
