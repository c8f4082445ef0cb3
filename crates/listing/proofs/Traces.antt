-- How long the lines of a trace and their parts are. Assumes nothing.
use Rattle.std.proofs.Common.{◌≡◌, ℕ, ◌+◌, ◌*◌, ◌/◌, ◌%◌, eqb, List, [], ◌∷◌, ◌++◌, length, refl, arith, length-append}
use Rattle.ground.proofs.Truth.{either}
use Rattle.listing.specs.declared.trace.Meaning.{Meaning}
use Rattle.listing.specs.declared.trace.Traced.{Traced}
use Rattle.listing.specs.declared.trace.Numbers.{Numbers}
use Rattle.report.specs.Text.{last_digits}
use Rattle.listing.specs.Text.{name_of, placed}
use Rattle.listing.specs.Trace.{meanings, meaning_name, share, meaning_text, number_text, answer_text, traced_text, numbers_text, trace_line, watch_line}
use Rattle.report.proofs.Decimal.{length_digits}
use Rattle.listing.proofs.Lines.{length_part, length_placed, length_name}

-- ---- lengths

-- a meaning's name has twelve columns
pub length_row : (row : ℕ) → length (meaning_name row) ≡ 12
unfolding meaning_name meanings
length_row row = length_part meanings (12 * (row % 32)) 12 (omega arith)

length_some : (came wanted : ℕ) → length (last_digits 10 1 came ++ (47 ∷ []) ++ last_digits 10 1 wanted) ≡ 3
length_some came wanted =
    omega (
      arith,
      length-append (last_digits 10 1 came) (47 ∷ []),
      length-append (last_digits 10 1 came ++ (47 ∷ [])) (last_digits 10 1 wanted),
      length_digits 10 1 came,
      length_digits 10 1 wanted,
    )

length_share : (came wanted : ℕ) → length (share came wanted) ≡ 3
unfolding share
length_share came wanted = either (λ (text : List ℕ). length text ≡ 3) (eqb wanted 0) (λ _. refl) (λ _. length_some came wanted)

-- a meaning with its share of the parameters has 15 columns
pub length_meaning : (m : Meaning) → length (meaning_text m) ≡ 15
unfolding meaning_text
length_meaning m =
    omega (arith, length-append (meaning_name m.row) (share m.came m.wanted), length_row m.row, length_share m.came m.wanted)

-- a number of so many digits, with the blank before it, has one byte more than digits
pub length_number : (count n : ℕ) → length (number_text count n) ≡ 1 + count
unfolding number_text
length_number count n = omega (arith, length-append (32 ∷ []) (last_digits 10 count n), length_digits 10 count n)

length_answer : (refusal passed : ℕ) → length (answer_text refusal passed) ≡ 11
unfolding answer_text
length_answer refusal passed =
    omega (arith, length-append (number_text 2 refusal) (number_text 7 passed), length_number 2 refusal, length_number 7 passed)

-- a word with what the machine made of it has 51 columns, without the line's end
pub length_traced : (t : Traced) → length (traced_text t) ≡ 51
unfolding traced_text
length_traced t =
    let name = name_of (t.word / 65536 % 16) in
    let named = placed t.index t.word ++ name in
    let listed = named ++ last_digits 16 4 t.word in
    let meant = listed ++ meaning_text t.meaning in
    omega (
      arith,
      length-append (placed t.index t.word) name,
      length-append named (last_digits 16 4 t.word),
      length-append listed (meaning_text t.meaning),
      length-append meant (answer_text t.refusal t.passed),
      length_placed t.index t.word,
      length_name t.word,
      length_digits 16 4 t.word,
      length_meaning t.meaning,
      length_answer t.refusal t.passed,
    )

-- the two numbers of a pixel have 12 columns
pub length_numbers : (n : Numbers) → length (numbers_text n) ≡ 12
unfolding numbers_text
length_numbers n = omega (arith, length-append (number_text 5 n.i) (number_text 5 n.z), length_number 5 n.i, length_number 5 n.z)

-- a line of a trace has 52 bytes, its end included
pub length_trace : (t : Traced) → length (trace_line t) ≡ 52
unfolding trace_line
length_trace t = omega (arith, length-append (traced_text t) (10 ∷ []), length_traced t)

-- a line of a trace with a pixel's numbers before and after has 76 bytes, its end included
pub length_watch : (t : Traced) (before after : Numbers) → length (watch_line t before after) ≡ 76
unfolding watch_line
length_watch t before after =
    let first = traced_text t ++ numbers_text before in
    omega (
      arith,
      length-append (traced_text t) (numbers_text before),
      length-append first (numbers_text after),
      length-append (first ++ numbers_text after) (10 ∷ []),
      length_traced t,
      length_numbers before,
      length_numbers after,
    )
