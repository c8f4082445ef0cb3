-- A listing in pieces: those that `list` writes one after the other are the whole listing. Assumes nothing.
use Rattle.std.proofs.Common.{◌≡◌, ℕ, zero, suc, ◌+◌, ◌≤◌, List, ◌++◌, length, get_or, sym, refl, ap, ◌∙◌, ap₂, append_assoc, append-nil, add-zero, add_assoc, add-suc, arith, length-append, get_or-append-add}
use lib.ListN.{get_or-append}
use Rattle.listing.specs.Text.{line, lines, listing}

module _ (from : ℕ) (a b : List ℕ) where
  -- the lines of the first words see nothing of those behind
  first : (k : ℕ) → k ≤ length a → lines from (a ++ b) k ≡ lines from a k
  unfolding lines
  first zero h = refl
  first (suc k) h = ap₂ (λ (text : List ℕ) (w : ℕ). text ++ line (from + k) w) (first k (omega (arith, h))) (get_or-append a b 0 k h)

  behind : (k : ℕ) → lines from (a ++ b) (length a + k) ≡ lines from a (length a) ++ lines (from + length a) b k
  unfolding lines
  behind zero = rw (add-zero (length a)) (first (length a) (omega arith) ∙ sym (append-nil (lines from a (length a))))
  behind (suc k) =
      ap (lines from (a ++ b)) (add-suc (length a) k)
      ∙ ap₂ (λ (text last : List ℕ). text ++ last) (behind k)
      (ap₂ line (sym (add_assoc from (length a) k)) (get_or-append-add a b k 0))
      ∙ append_assoc (lines from a (length a)) (lines (from + length a) b k) (line (from + length a + k) (get_or b k 0))

  -- the listing of two runs of words joined is the listing of the first, and then that of the second, with its indices going on from the first's end
  pub pages : listing from (a ++ b) ≡ listing from a ++ listing (from + length a) b
  unfolding listing
  pages = ap (lines from (a ++ b)) (length-append a b) ∙ behind (length b)
