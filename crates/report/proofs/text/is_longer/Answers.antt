-- `text::is_longer` meets its contract. The invariant of its loop: the size is that of the first line and of the lines of the places passed, and fits the
-- room. Assumes nothing.
use Rattle.std.proofs.Common.{◌≡◌, ℕ, ap, sym, length, get_or, arith, length-append, lt-ltb, le-ltb}
use Rattle.report.specs.Text.{lines, place_line}
use Rattle.report.proofs.Lengths.{length_report, lines_none, lines_more, lines_within, place_told}
use Rattle.report.proofs.text.is_longer.Goals as goal

pub returns-then-room-size : goal.returns-then-room-size
returns-then-room-size c =
    let a = c.args in
    let h = a.heading in
    sym (lt-ltb a.room _ (omega (arith, length_report a.line a.im.now a.zm.now h.words h.refusal h.passed, c.size-size.ensures.size)))

pub loop-place-init : goal.loop-place-init
loop-place-init c =
    let a = c.args in
    (omega arith, omega (arith, c.size-size.ensures.size, ap (length {A = ℕ}) (lines_none a.line a.im.now a.zm.now)))

pub overflow_sub-room : goal.overflow_sub-room
overflow_sub-room c = omega (arith, c.loop-place.invariant.0)

pub returns-then-room-size-2 : goal.returns-then-room-size-2
returns-then-room-size-2 c =
    let a = c.args in
    let h = a.heading in
    let k = c.loop-place.place in
    let told = place_told a.line a.im.now a.zm.now k c.number_at.ensures c.at.ensures in
    let all = length_report a.line a.im.now a.zm.now h.words h.refusal h.passed in
    let within = lines_within a.line a.im.now a.zm.now k (omega arith) in
    sym (lt-ltb a.room _ (omega (arith, all, within, ap (length {A = ℕ}) told, c.size-more.ensures.size, c.loop-place.invariant.0, c.loop-place.invariant.1)))

pub loop-place-preserved : goal.loop-place-preserved
loop-place-preserved c =
    let a = c.args in
    let k = c.loop-place.place in
    let told = place_told a.line a.im.now a.zm.now k c.number_at.ensures c.at.ensures in
    let here = place_line a.line k (get_or a.im.now k 0) (get_or a.zm.now k 0) in (
      omega (arith, c.loop-place.invariant.0),
      rw (lines_more a.line a.im.now a.zm.now k)
          (omega (arith, ap (length {A = ℕ}) told, c.size-more.ensures.size, c.loop-place.invariant.1, length-append (lines a.line a.im.now a.zm.now k) here)),
    )

pub returns : goal.returns
returns c =
    let a = c.args in
    let h = a.heading in
    let all : c.loop-place.place ≡ length a.im.now = omega arith in
    let size = rw all at c.loop-place.invariant.1 in
    sym (le-ltb a.room _ (omega (arith, c.loop-place.invariant.0, size, length_report a.line a.im.now a.zm.now h.words h.refusal h.passed)))
