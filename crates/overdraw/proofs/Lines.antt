-- How long the parts of a line are, and how a number is put into columns. Assumes nothing.
use mathlib.Core.Path.{◌≡◌, refl, sym, ap, ◌∙◌}
use mathlib.Core.Bool.{Bool, true, false, cond}
use mathlib.Core.List.{List, [], ◌∷◌, ◌++◌}
use Prim.Native.Nat.{ℕ, zero, suc, ◌+◌, ◌-◌, ◌*◌, ◌/◌, ◌%◌, ◌≤◌}
use native.Mathlib.Nat.{div-zero}
use native.Mathlib.Numerals.{add-one}
use native.Mathlib.Omega.{arith}
use lib.ListN.{length, set, length-append}
use lib.Dec.{eqb}
use lib.Seq.{sets}
use Rattle.report.proofs.Putting.{store_first}
use Rattle.report.specs.declared.page.Page.{Page}
use Rattle.tally.specs.declared.Count.{Count}
use Rattle.tally.specs.declared.Tally.{Tally}
use Rattle.tally.specs.Overdraw.{Entered}
use Rattle.overdraw.specs.Text.{
  glyph,
  front,
  columns,
  percent_of,
  heading,
  gouraud_name,
  constant_name,
  line0_name,
  line1_name,
  line2_name,
  refusal_name,
  too_long_name,
  numbers,
  count_line,
  tally_lines,
  refusal_line,
  too_long_line,
  entry_lines,
}

-- ---- columns, stored from the last to the first

-- a number in k columns in front of another digit has k bytes
pub length_front : (k n : ℕ) → length (front k n) ≡ k
unfolding front
length_front zero n = refl
length_front (suc k) n = length-append (front k (n / 10)) (glyph n ∷ []) ∙ rw (length_front k (n / 10)) (add-one k)

-- a number in k columns has k bytes
pub length_columns : (k n : ℕ) → length (columns k n) ≡ k
unfolding columns
length_columns zero n = refl
length_columns (suc k) n = length-append (front k (n / 10)) ((48 + n % 10) ∷ []) ∙ rw (length_front k (n / 10)) (add-one k)

module _ (k n at : ℕ) (out : List ℕ) where
  here : at + k ≡ at + length (front k (n / 10))
  here = omega (arith, length_front k (n / 10))

  -- the last of k + 1 columns stored, those in front of it are left to put
  pub put_next : {g : ℕ} → g ≡ glyph n → sets (set out (at + k) g) at (front k (n / 10)) ≡ sets out at (front (k + 1) n)
  unfolding front
  put_next e = rw (here, e, add-one k) (store_first (front k (n / 10)) out at (glyph n))

-- a page while a number is stored, from the last column to the first: what is left of it, put into the first k columns over what stands, gives what the
-- whole number gives, put over what stood; the next byte's place and the buffer are what they were
pub record Storing (width n k rest : ℕ) (old new : Page) : Type 0 where
  pub put : sets new.out.now old.at (front k rest) ≡ sets old.out.now old.at (front width n)
  pub at : new.at ≡ old.at
  pub same : new.out.ghost_name ≡ old.out.ghost_name

-- nothing is left
pub put_all : (n at : ℕ) (out : List ℕ) → sets out at (front 0 n) ≡ out
unfolding front
put_all n at out = refl

-- a number is what stands in front of its last digit, and that digit
pub columns_parts : (k n : ℕ) → 1 ≤ k → columns k n ≡ front (k - 1) (n / 10) ++ ((48 + n % 10) ∷ [])
unfolding columns
columns_parts zero n h = absurd (omega (arith, h))
columns_parts (suc k) n h = let same : k ≡ suc k - 1 = omega arith in ap (λ (j : ℕ). front j (n / 10) ++ ((48 + n % 10) ∷ [])) same

-- of no pixels none are hidden: a number div 0 is 0
pub percent_none : (c : Count) → c.offered ≡ 0 → 0 ≡ percent_of c
unfolding percent_of
percent_none c e = rw e (sym (div-zero (c.hidden * 100)))

-- ---- lines

-- five parts, one behind the other
length_five : (a b d e f : List ℕ) → length (a ++ b ++ d ++ e ++ f) ≡ length a + length b + length d + length e + length f
length_five a b d e f =
    omega (arith, length-append a b, length-append (a ++ b) d, length-append (a ++ b ++ d) e, length-append (a ++ b ++ d ++ e) f)

-- the heading has 79 bytes, the line's end included
pub length_heading : length heading ≡ 79
unfolding heading
length_heading = refl

-- the numbers of a count have 64 columns
pub length_numbers : (c : Count) → length (numbers c) ≡ 64
unfolding numbers
length_numbers c =
    omega (
      arith,
      length_five (columns 8 c.figures) (columns 16 c.offered) (columns 16 c.passed) (columns 16 c.hidden) (columns 8 (percent_of c)),
      length_columns 8 c.figures,
      length_columns 16 c.offered,
      length_columns 16 c.passed,
      length_columns 16 c.hidden,
      length_columns 8 (percent_of c),
    )

length_count : (name kind : List ℕ) (c : Count) → length (count_line name kind c) ≡ length name + length kind + 65
unfolding count_line
length_count name kind c =
    let whole : length (count_line name kind c) ≡ length (name ++ kind ++ numbers c ++ (10 ∷ [])) = refl in
    omega (
      arith,
      whole,
      length-append name kind,
      length-append (name ++ kind) (numbers c),
      length-append (name ++ kind ++ numbers c) (10 ∷ []),
      length_numbers c,
    )

module _ (name : List ℕ) where
  -- a kind's name has eight columns
  pub kind_line : (kind : List ℕ) (c : Count) → length kind ≡ 8 → length (count_line name kind c) ≡ length name + 73
  kind_line kind c eight = omega (arith, length_count name kind c, eight)

  -- the lines of a tally have 365 bytes and five times those of the name
  pub length_tally : (t : Tally) → length (tally_lines name t) ≡ length name * 5 + 365
  unfolding tally_lines
  length_tally t =
      omega (
        arith,
        length_five (count_line name gouraud_name t.gouraud) (count_line name constant_name t.constant) (count_line name line0_name t.line0)
            (count_line name line1_name t.line1) (count_line name line2_name t.line2),
        kind_line gouraud_name t.gouraud refl,
        kind_line constant_name t.constant refl,
        kind_line line0_name t.line0 refl,
        kind_line line1_name t.line1 refl,
        kind_line line2_name t.line2 refl,
      )

  length_told : (n : ℕ) → length (name ++ refusal_name ++ columns 8 n ++ (10 ∷ [])) ≡ length name + 17
  length_told n =
      omega (
        arith,
        length-append name refusal_name,
        length-append (name ++ refusal_name) (columns 8 n),
        length-append (name ++ refusal_name ++ columns 8 n) (10 ∷ []),
        length_columns 8 n,
      )

  length_refusal : (n : ℕ) → length (refusal_line name n) ≤ length name + 17
  unfolding refusal_line
  length_refusal n = go (eqb n 0)
    where
      go : (b : Bool) → length (cond {A = List ℕ} b [] (name ++ refusal_name ++ columns 8 n ++ (10 ∷ []))) ≤ length name + 17
      go true = omega arith
      go false = omega (arith, length_told n)

  length_too_long : length (too_long_line name) ≡ length name + 9
  unfolding too_long_line
  length_too_long =
      let whole : length (too_long_line name) ≡ length (name ++ too_long_name ++ (10 ∷ [])) = refl in
      omega (arith, whole, length-append name too_long_name, length-append (name ++ too_long_name) (10 ∷ []))

  -- the lines of a recording have at most 382 bytes and six times those of the name
  pub length_entry : (e : Entered) → length (entry_lines name e) ≤ length name * 6 + 382
  unfolding entry_lines
  length_entry e = go e.long
    where
      go : (b : Bool) → length (cond b (too_long_line name) (tally_lines name e.tally ++ refusal_line name e.refusal)) ≤ length name * 6 + 382
      go true = omega (arith, length_too_long)
      go false =
          omega (
            arith,
            length-append (tally_lines name e.tally) (refusal_line name e.refusal),
            length_tally e.tally,
            length_refusal e.refusal,
          )
