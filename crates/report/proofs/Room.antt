-- How much room the text of a small picture takes at most. Assumes nothing.
use mathlib.Core.Path.{◌≡◌, refl}
use mathlib.Core.Bool.{Bool, true, false}
use mathlib.Core.List.{List}
use Prim.Native.Nat.{ℕ, zero, suc, ◌+◌, ◌*◌, ◌^◌, ◌≤◌, ◌<◌}
use native.Mathlib.Nat.{mod-le, div-le_self}
use native.Mathlib.Omega.{arith}
use borrow.Author.Tests.{eqb-true, eqb-false}
use lib.ListN.{length, get_or, length-append}
use lib.Dec.{eqb}
use Rattle.report.specs.Text.{place_of, place_line, column_of, row_of, lines, report}
use Rattle.report.proofs.Decimal.{decimal_below, decimal_short}
use Rattle.report.proofs.Lengths.{length_pair, shown_none, length_shown, length_heading, length_report}

-- a place below 10,000 and two numbers of at most five digits: at most 22 bytes
place_short : (line place i z : ℕ) → place < 10000 → i < 100000 → z < 100000 → length (place_line line place i z) ≤ 22
unfolding place_line
place_short line place i z h g k = go (eqb i 0) refl
  where
    go : (b : Bool) → eqb i 0 ≡ b → length (place_line line place i z) ≤ 22
    go true t = rw (shown_none (place_of line place i z) (eqb-true i 0 t)) (omega arith)
    go false t =
        let x = column_of line place in
        let y = row_of line place in
        let first = decimal_below 3 x (omega (arith, mod-le place line)) in
        let second = decimal_below 3 y (omega (arith, div-le_self place line)) in
        let third = decimal_below 4 i (omega arith) in
        let fourth = decimal_below 4 z (omega arith) in
        omega (arith, first, second, third, fourth, length_shown (place_of line place i z) (eqb-false i 0 t), length_pair x y 32, length_pair i z 10)

module _ (line : ℕ) (im zm : List ℕ) (small : (k : ℕ) → get_or im k 0 < 100000) (low : (k : ℕ) → get_or zm k 0 < 100000) where
  lines_short : (n : ℕ) → n ≤ 10000 → length (lines line im zm n) ≤ 22 * n
  unfolding lines
  lines_short zero h = omega arith
  lines_short (suc n) h =
      let here = place_line line n (get_or im n 0) (get_or zm n 0) in
      let more = place_short line n (get_or im n 0) (get_or zm n 0) (omega arith) (small n) (low n) in
      omega (arith, lines_short n (omega arith), more, length-append (lines line im zm n) here)

  -- three numbers of 64 bits, and at most 10,000 places
  pub report_short : (words refusal passed : ℕ) → words < 2 ^ 64 → refusal < 2 ^ 64 → passed < 2 ^ 64 → length im ≤ 10000
      → length (report words refusal passed line im zm) ≤ 22 * length im + 84
  report_short words refusal passed a b c h =
      omega (
        arith,
        length_report line im zm words refusal passed,
        length_heading words refusal passed,
        decimal_short words a,
        decimal_short refusal b,
        decimal_short passed c,
        lines_short (length im) h,
      )
