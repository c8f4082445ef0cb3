-- The words of a page, and that their lines fit it. Assumes nothing.
use mathlib.Core.Path.{◌≡◌, refl, sym, ap, ◌∙◌}
use mathlib.Core.Bool.{Bool, true, false}
use mathlib.Core.List.{List, [], ◌++◌}
use Prim.Native.Nat.{ℕ, zero, suc, ◌+◌, ◌-◌, ◌*◌, ◌≤◌, min}
use native.Mathlib.Nat.{suc-mul}
use native.Mathlib.Omega.{arith}
use borrow.Author.Tests.{ltb-true, ltb-false}
use lib.Dec.{ltb}
use lib.ListN.{length, take, drop, length-take, length-drop, take-append-drop, drop_of_length-le}
use lib.Seq.{take_all, drop-drop, length-take-le}
use Rattle.listing.specs.Text.{lines, listing}
use Rattle.listing.proofs.Pages.{pages as Pages·pages}
use Rattle.listing.proofs.Lines.{length_listing}
use Rattle.list.specs.List.{page_of, pages}

module _ (words : List ℕ) (from : ℕ) {n : ℕ} (least : n ≡ min (length (take (length words - from) (drop from words))) 2520) where
  left : length (take (length words - from) (drop from words)) ≡ length words - from
  left = omega (arith, length-take (length words - from) (drop from words), length-drop from words)

  -- as many of the words that are left as a page has, or all of them
  part : take n (take (length words - from) (drop from words)) ≡ take 2520 (drop from words)
  part = ap (take n) (take_all (length words - from) (drop from words) (omega (arith, length-drop from words))) ∙ go (ltb (length words - from) 2520) refl
    where
      go : (b : Bool) → ltb (length words - from) 2520 ≡ b → take n (drop from words) ≡ take 2520 (drop from words)
      go true e =
          let few = ltb-true (length words - from) 2520 e in
          take_all n (drop from words) (omega (arith, few, least, left, length-drop from words))
          ∙ sym (take_all 2520 (drop from words) (omega (arith, few, length-drop from words)))
      go false e =
          let many = ltb-false (length words - from) 2520 e in
          let all : n ≡ 2520 = omega (arith, many, least, left) in
          ap (λ (k : ℕ). take k (drop from words)) all

  -- the words of a page are as many as the code counts: those that are left, but at most 2,520
  pub part_length : n ≡ length (take n (take (length words - from) (drop from words)))
  part_length =
      omega (arith, least, length-take n (take (length words - from) (drop from words)))

  -- the listing of these words is the page that begins at the place
  pub page_of_lem : listing from (take n (take (length words - from) (drop from words))) ≡ page_of words from
  unfolding page_of
  page_of_lem = ap (listing from) part

-- 2,520 lines of 26 bytes
pub page_fits : (words : List ℕ) (from : ℕ) → length (page_of words from) ≤ 65536
unfolding page_of
page_fits words from = omega (arith, length_listing from (take 2520 (drop from words)), length-take 2520 (drop from words))

-- ---- all pages

none : (from : ℕ) → listing from [] ≡ []
unfolding listing lines
none from = refl

-- a page of p lines, and what is behind it: where the page is not full that is nothing, so that its index does not matter
page_split : (p from : ℕ) (ws : List ℕ) → listing from (take p ws) ++ listing (from + p) (drop p ws) ≡ listing from ws
page_split p from ws = ap (λ (text : List ℕ). listing from (take p ws) ++ text) (go (ltb (length ws) p) refl) ∙ sym (Pages·pages from (take p ws) (drop p ws)) ∙ ap (listing from) (take-append-drop p ws)
  where
    go : (b : Bool) → ltb (length ws) p ≡ b → listing (from + p) (drop p ws) ≡ listing (from + length (take p ws)) (drop p ws)
    go true e =
        let few = ltb-true (length ws) p e in
        rw (drop_of_length-le ws {i = p} (omega (arith, few))) (none (from + p) ∙ sym (none (from + length (take p ws))))
    go false e = ap (λ (k : ℕ). listing (from + k) (drop p ws)) (sym (length-take-le p ws (ltb-false (length ws) p e)))

pages_from : (words : List ℕ) (n from : ℕ) → length words ≤ from + n * 2520 → pages words from n ≡ listing from (drop from words)
unfolding pages page_of
pages_from words zero from h = rw (drop_of_length-le words {i = from} (omega (arith, h))) (sym (none from))
pages_from words (suc n) from h =
    ap (λ (text : List ℕ). listing from (take 2520 (drop from words)) ++ text)
    (pages_from words n (from + 2520) (omega (arith, h, suc-mul n 2520)) ∙ ap (listing (from + 2520)) (sym (drop-drop 2520 from words)))
    ∙ page_split 2520 from (drop from words)

-- enough pages, one after the other, are the whole listing
pub all_pages : (words : List ℕ) (n : ℕ) → length words ≤ n * 2520 → pages words 0 n ≡ listing 0 words
all_pages words n h = pages_from words n 0 (omega (arith, h))
