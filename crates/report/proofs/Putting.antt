-- Texts put one behind the other. Assumes nothing.
use mathlib.Core.Path.{◌≡◌, refl, sym, ap, ap₂, ◌∙◌}
use mathlib.Core.List.{List, [], ◌∷◌, ◌++◌, append_assoc, append-nil}
use Prim.Native.Nat.{ℕ, suc, ◌+◌, ◌/◌, ◌%◌, ◌≤◌}
use native.Mathlib.Nat.{add-zero, zero-add, add-suc, suc-add}
use native.Mathlib.Numerals.{add-one}
use native.Mathlib.Omega.{arith}
use lib.ListN.{length, set, take, drop, length-append}
use lib.Seq.{sets, sets-eq, length-sets, set_comm, drop-drop}
use borrow.Rule.Slice.PartMut.{put_mid}
use Rattle.std.proofs.Math.ListN.{drop_of_length-le}
use Rattle.stream.specs.Calls.{over}
use Rattle.report.specs.Text.{glyph, last_digits}
use Rattle.report.specs.Calls.{Put, Adds, Room}
use Rattle.report.specs.declared.page.Page.{Page}
use Rattle.report.proofs.Decimal.{length_digits}

sets_append : (a b l : List ℕ) (at : ℕ) → sets (sets l at a) (at + length a) b ≡ sets l at (a ++ b)
sets_append [] b l at = rw (add-zero at)
sets_append (x ∷ a) b l at =
    ap (λ (k : ℕ). sets (sets (set l at x) (suc at) a) k b) (add-suc at (length a) ∙ sym (suc-add at (length a)))
    ∙ sets_append a b (set l at x) (suc at)

-- what stands behind a text may be stored before it
pub store_first : (a l : List ℕ) (at x : ℕ) → sets (set l (at + length a) x) at a ≡ sets l at (a ++ (x ∷ []))
store_first [] l at x = rw (add-zero at)
store_first (y ∷ a) l at x =
    ap (λ (m : List ℕ). sets m (suc at) a)
    (set_comm l (at + suc (length a)) at x y (λ e. omega arith)
    ∙ ap (λ (k : ℕ). set (set l at y) k x) (add-suc at (length a) ∙ sym (suc-add at (length a))))
    ∙ store_first a (set l at y) (suc at) x

-- nothing
pub put_none : (l : List ℕ) (at : ℕ) → Put [] l at l at
put_none l at = record { stands = refl; ends = sym (add-zero at) }

-- one byte
pub put_byte : (l : List ℕ) (at x : ℕ) → Put (x ∷ []) l at (set l at x) (at + 1)
put_byte l at x = record { stands = refl; ends = refl }

-- a text behind a text
pub put_append : {a b l m n : List ℕ} {at k next : ℕ} → Put a l at m k → Put b m k n next → Put (a ++ b) l at n next
put_append {a} {b} {l} {m} {n} {at} {k} {next} p q = record {
  stands = q.stands ∙ ap₂ (λ (o : List ℕ) (j : ℕ). sets o j b) p.stands p.ends ∙ sets_append a b l at;
  ends = omega (arith, p.ends, q.ends, length-append a b);
}

-- a text at the front, with room enough
pub put_over : {text l m : List ℕ} {n : ℕ} → length text ≤ length l → Put text l 0 m n → (n ≡ length text) × (m ≡ over text l)
unfolding over
put_over {text} {l} {m} {n} h p = (p.ends ∙ zero-add (length text), p.stands ∙ sets-eq text l 0 (omega arith) ∙ rw (zero-add (length text)))

-- a text that is as long as the buffer is all of it
pub put_whole : {text l m : List ℕ} {n : ℕ} → length text ≡ length l → Put text l 0 m n → m ≡ text
unfolding over
put_whole {text} {l} h p =
    let end : length l ≤ length text = omega (arith, h) in
    (put_over (omega (arith, h)) p).1 ∙ rw (drop_of_length-le l end) (append-nil text)

-- ---- the same of a page

-- nothing
pub add_none : (page : Page) → Adds [] page page
add_none page = record { put = put_none page.out.now page.at; same = refl }

-- a text that is as long as the buffer is all that the buffer has in the end
pub add_whole : {text left : List ℕ} {old new : Page} → Adds text old new → old.at ≡ 0 → length text ≡ length old.out.now → new.out.now ≡ left → left ≡ text
add_whole p e h same = sym same ∙ put_whole h (rw e at p.put)

-- a text behind a text
pub add_after : {a b : List ℕ} {l m n : Page} → Adds a l m → Adds b m n → Adds (a ++ b) l n
add_after p q = record { put = put_append p.put q.put; same = q.same ∙ p.same }

-- ---- digits, stored from the last to the first

-- the last of k + 1 digits stored, the others of the number without it are left to put
pub put_last : (base k n at : ℕ) (out : List ℕ) {g : ℕ} → g ≡ glyph (n % base)
    → sets (set out (at + k) g) at (last_digits base k (n / base)) ≡ sets out at (last_digits base (k + 1) n)
unfolding last_digits
put_last base k n at out {g} e =
    let here : at + k ≡ at + length (last_digits base k (n / base)) = omega (arith, length_digits base k (n / base)) in
    rw (here, e, add-one k) (store_first (last_digits base k (n / base)) out at (glyph (n % base)))

-- none is left
pub put_all : (base n at : ℕ) (out : List ℕ) → sets out at (last_digits base 0 n) ≡ out
unfolding last_digits
put_all base n at out = refl

-- a page keeps its buffer's length
pub add_length : {text : List ℕ} {old new : Page} → Adds text old new → length new.out.now ≡ length old.out.now
add_length {text} {old} p = ap (length {A = ℕ}) p.put.stands ∙ length-sets old.out.now old.at text

-- where a text and so many bytes more have room, those bytes have room behind the text
pub room_after : {text : List ℕ} {old new : Page} (size : ℕ) → Adds text old new → Room (length text + size) old → Room size new
room_after size p h = omega (arith, h, p.put.ends, add_length p)

-- a page while digits are stored, from the last to the first: the first k digits of the rest, put over what stands, give what all digits give, put over
-- what stood; the next byte's place and the buffer are what they were
pub record Storing (base count n k rest : ℕ) (old new : Page) : Type 0 where
  pub put : sets new.out.now old.at (last_digits base k rest) ≡ sets old.out.now old.at (last_digits base count n)
  pub at : new.at ≡ old.at
  pub same : new.out.ghost_name ≡ old.out.ghost_name

-- ---- a text in place of as many bytes

-- what a buffer holds once the bytes of a text are copied into their place
pub put_copied : {text old ys : List ℕ} {at k next : ℕ} → at + length text ≤ length old → ys ≡ text → k ≡ length text → next ≡ at + length text
    → Put text old at (put_mid at k old ys) next
put_copied {text} {old} {ys} {at} {k} {next} h e f g =
    record { stands = rw (e, f, drop-drop (length text) at old) (sym (sets-eq text old at h ∙ append_assoc (take at old) text (drop (at + length text) old))); ends = g }
