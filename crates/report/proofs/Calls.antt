-- What writing a text comes to, from the test on its way. Assumes nothing.
use mathlib.Core.Path.{◌≡◌, refl, sym, ap, ◌∙◌}
use mathlib.Core.Bool.{Bool, true, false}
use mathlib.Core.List.{List}
use Rattle.std.specs.Prelude.{Result, Ok, Err, IsOk}
use Rattle.std.specs.Result.{result_unwrap_or}
use Prim.Native.Nat.{ℕ, ◌≤◌, ◌<◌}
use native.Mathlib.Omega.{arith}
use borrow.Author.Tests.{ltb-true, ltb-false}
use lib.Dec.{ltb}
use lib.ListN.{length, drop, length-append}
use lib.Seq.{length-take-le}
use Rattle.stream.specs.Calls.{Outcome, over, written, concluded}
use Rattle.stream.proofs.Calls.{no_room_lem, room}
use Rattle.report.specs.Calls.{writing_text, wrote, Adds, Stands}
use Rattle.report.specs.declared.NoRoom.{NoRoom}
use Rattle.report.specs.declared.page.Page.{Page}
use Rattle.report.proofs.Putting.{put_over}

module _ (text out : List ℕ) where
  -- a text that does not fit is not written
  pub unwritten : {e : NoRoom} → length out < length text → wrote (Err e) out ≡ writing_text text out
  unfolding writing_text concluded
  unwritten h = rw (no_room_lem text out h)

  -- a text that fits is written
  pub writes : length text ≤ length out → writing_text text out ≡ written text out
  unfolding writing_text concluded
  writes h = rw (room text out h)

  -- a call that puts a text that fits on a page from the front of the buffer on, and answers with the place after it, has written the text
  pub done : {old new : Page} {left : List ℕ} → length text ≤ length out → Adds text old new → old.out.now ≡ out → old.at ≡ 0 → new.out.now ≡ left
      → wrote (Ok new.at) left ≡ writing_text text out
  done h p e f g =
      let all = put_over h (rw (e, f, g) at p.put) in
      rw (writes h, all.0, all.1)

  -- the test's answer decides
  pub longer : {answer : Bool} {e : NoRoom} → answer ≡ ltb (length out) (length text) → answer ≡ true → wrote (Err e) out ≡ writing_text text out
  longer f t = unwritten (ltb-true (length out) (length text) (sym f ∙ t))

  -- where the test answers that the buffer is not shorter than the text, the text fits
  pub fits : {answer : Bool} → answer ≡ ltb (length out) (length text) → answer ≡ false → length text ≤ length out
  fits e t = ltb-false (length out) (length text) (sym e ∙ t)

-- what was written stands
pub stands : {text old new : List ℕ} {n : ℕ} → n ≡ length text → new ≡ over text old → Stands text old new n
unfolding over
stands {text} {old} {new} {n} e f =
    let room : n ≤ length new = omega (arith, ap (length {A = ℕ}) f ∙ length-append text (drop (length text) old)) in
    record { front = f; size = e; counts = (room, sym (length-take-le n new room)) }

-- a caller that lends enough: the text stands, and it is never refused
module _ (text old : List ℕ) {new : List ℕ} (answer : Result ℕ NoRoom) (enough : length text ≤ length old) (e : wrote answer new ≡ writing_text text old) where
  succeeds : wrote answer new ≡ written text old
  succeeds = e ∙ writes text old enough

  -- where the call answers that it is done, the text stands at the front of the buffer, and its length is told
  pub answer_stands : {n : ℕ} → answer ≡ Ok n → Stands text old new n
  answer_stands q =
      let s = rw q at succeeds in stands (ap (λ (o : Outcome). o.size) s) (ap (λ (o : Outcome). o.left) s)

  -- the call never answers that there is no room
  pub answer_fits : {none : NoRoom} → answer ≡ Err none → ⊥
  answer_fits q =
      let s = ap (λ (o : Outcome). o.refusal) (rw q at succeeds) in omega (arith, s)

  -- so that it is done, as a caller asks that unwraps the answer
  pub answer_done : IsOk answer
  answer_done = go answer refl
    where
      go : (a : Result ℕ NoRoom) → answer ≡ a → IsOk a
      go (Ok n) q = refl
      go (Err none) q = absurd (answer_fits q)

  -- and its length is told, where a caller takes 0 for no room
  pub answer_told : Stands text old new (result_unwrap_or answer 0)
  answer_told = go answer refl
    where
      go : (a : Result ℕ NoRoom) → answer ≡ a → Stands text old new (result_unwrap_or a 0)
      go (Ok n) q = answer_stands q
      go (Err none) q = absurd (answer_fits q)
