-- What laying a text at a place comes to, and what a caller that has room for it may take for granted. Assumes nothing.
use mathlib.Core.Path.{◌≡◌, refl, sym, ap, ◌∙◌}
use mathlib.Core.Bool.{Bool, true, false, cond, not}
use mathlib.Core.List.{List, []}
use Prim.Native.Nat.{ℕ, ◌+◌, ◌-◌, ◌≤◌}
use native.Mathlib.Omega.{arith}
use lib.Dec.{leb}
use lib.ListN.{length}
use lib.Seq.{sets, length-sets}
use borrow.Author.Tests.{leb-true, leb-false, le-leb, lt-leb, not-true, not-false}
use Rattle.report.specs.Text.{last_digits, is_base, digits_in}
use Rattle.report.specs.Calls.{Put, Adds, Room, OnPage, fits, Laid, Lays}
use Rattle.report.specs.declared.page.Page.{Page}

-- a test without a sum that could wrap
pub room_same : (room size at : ℕ) → size ≤ room → leb at (room - size) ≡ leb (at + size) room
room_same room size at h = go (leb at (room - size)) refl
  where
    go : (b : Bool) → leb at (room - size) ≡ b → leb at (room - size) ≡ leb (at + size) room
    go true e = e ∙ sym (le-leb (at + size) room (omega (arith, h, leb-true at (room - size) e)))
    go false e = e ∙ sym (lt-leb (at + size) room (omega (arith, h, leb-false at (room - size) e)))

-- the test's answer is that there is room
pub roomy : (room size at : ℕ) {r : Bool} → r ≡ leb (at + size) room → not r ≡ false → at + size ≤ room
roomy room size at {r} e n = leb-true (at + size) room (sym e ∙ not-false r n)

module _ (text old : List ℕ) (at : ℕ) {size : ℕ} {r : Bool} (long : length text ≡ size) (e : r ≡ leb (at + size) (length old)) where
  -- a text without room is left out
  pub laid_none : not r ≡ true → Laid text old at old at
  laid_none n =
      let no : fits text old at ≡ false = ap (λ (k : ℕ). leb (at + k) (length old)) long ∙ sym e ∙ not-true r n in
      record { left = rw no; end = rw no }

  -- one with room is put
  pub laid_put : {new : List ℕ} {next : ℕ} → not r ≡ false → Put text old at new next → Laid text old at new next
  laid_put n p =
      let yes : fits text old at ≡ true = ap (λ (k : ℕ). leb (at + k) (length old)) long ∙ sym e ∙ not-false r n in
      record { left = rw yes p.stands; end = rw yes p.ends }

-- ---- the same of a page

-- the test's answer is that there is room on the page
pub has : (page : Page) (size : ℕ) {r : Bool} → r ≡ leb (page.at + size) (length page.out.now) → r ≡ true → Room size page
has page size e n = roomy (length page.out.now) size page.at e (ap not n)

module _ (text : List ℕ) (page : Page) {size : ℕ} {r : Bool} (long : length text ≡ size) (e : r ≡ leb (page.at + size) (length page.out.now)) where
  -- a text without room is left out
  pub lays_none : r ≡ false → Lays text page page
  lays_none n = record { laid = laid_none text page.out.now page.at long e (ap not n); same = refl }

  -- one with room is put
  pub lays_put : {new : Page} → r ≡ true → Adds text page new → Lays text page new
  lays_put n p = record { laid = laid_put text page.out.now page.at long e (ap not n) p.put; same = p.same }

-- ---- no text, and lengths

-- no text leaves all as it is
pub laid_nothing : (old : List ℕ) (at : ℕ) → Laid [] old at old at
laid_nothing old at = record { left = go (fits [] old at); end = so (fits [] old at) }
  where
    go : (b : Bool) → old ≡ cond b (sets old at []) old
    go true = refl
    go false = refl

    so : (b : Bool) → at ≡ cond b (at + 0) at
    so true = omega arith
    so false = refl

-- and so of a page
pub lays_nothing : (page : Page) → Lays [] page page
lays_nothing page = record { laid = laid_nothing page.out.now page.at; same = refl }

-- what is laid ends inside, if it begins there
pub laid_within : {text old new : List ℕ} {at next : ℕ} → Laid text old at new next → at ≤ length old → next ≤ length old
laid_within {text} {old} {new} {at} {next} p h = rw p.end (go (fits text old at) refl)
  where
    go : (b : Bool) → fits text old at ≡ b → cond b (at + length text) at ≤ length old
    go true e = leb-true (at + length text) (length old) e
    go false e = h

-- what is laid keeps the buffer's length
pub laid_length : {text old new : List ℕ} {at next : ℕ} → Laid text old at new next → length new ≡ length old
laid_length {text} {old} {new} {at} {next} p = rw p.left (go (fits text old at))
  where
    go : (b : Bool) → length (cond b (sets old at text) old) ≡ length old
    go true = length-sets old at text
    go false = refl

-- what is laid on a page ends on it, if it begins there
pub lays_within : {text : List ℕ} {old new : Page} → Lays text old new → OnPage old → OnPage new
lays_within p h = omega (arith, laid_within p.laid h, laid_length p.laid)

-- a text that has room is put
pub put_laid : {text old new : List ℕ} {at next : ℕ} → at + length text ≤ length old → Laid text old at new next → Put text old at new next
put_laid {text} {old} {new} {at} {next} h p =
    let yes : fits text old at ≡ true = le-leb (at + length text) (length old) h in
    record { stands = rw yes at p.left; ends = rw yes at p.end }

-- and so of a page
pub put_lays : {text : List ℕ} {old new : Page} → Room (length text) old → Lays text old new → Adds text old new
put_lays h p = record { put = put_laid h p.laid; same = p.same }

-- ---- digits in any base

module _ (base k n : ℕ) where
  -- in a base they are the number's last digits
  pub digits_in_base : is_base base ≡ true → digits_in base k n ≡ last_digits base k n
  unfolding digits_in
  digits_in_base e = rw e refl

  -- in a number that is no base there are none
  pub digits_in_none : is_base base ≡ false → digits_in base k n ≡ []
  unfolding digits_in
  digits_in_none e = rw e refl
