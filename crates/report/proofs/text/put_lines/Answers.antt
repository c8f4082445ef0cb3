-- `text::put_lines` meets its contract. The invariant of its loop: the lines of the places passed are put. Assumes nothing.
use Rattle.std.proofs.Common.{◌≡◌, ℕ, ap, length, arith}
use Rattle.report.specs.Text.{lines}
use Rattle.report.proofs.Lengths.{lines_more, lines_within, place_told}
use Rattle.report.proofs.Putting.{add_none, add_after, room_after}
use Rattle.report.proofs.text.put_lines.Goals as goal

pub loop-place-init : goal.loop-place-init
unfolding lines
loop-place-init c = add_none c.args.page.now

pub put-requires : goal.put-requires
put-requires c =
    let a = c.args in
    let k = c.loop-place.place in
    let told = place_told a.line a.im.now a.zm.now k c.number_at.ensures c.at.ensures in
    room_after _ c.loop-place.invariant (omega (arith, ap (length {A = ℕ}) told, lines_within a.line a.im.now a.zm.now k (omega arith)))

pub loop-place-preserved : goal.loop-place-preserved
loop-place-preserved c =
    let a = c.args in
    let k = c.loop-place.place in
    let told = place_told a.line a.im.now a.zm.now k c.number_at.ensures c.at.ensures in
    rw (lines_more a.line a.im.now a.zm.now k) (add_after c.loop-place.invariant (rw told at c.put.ensures))

pub returns : goal.returns
returns c =
    let all : c.loop-place.place ≡ length c.args.im.now = omega arith in
    rw all at c.loop-place.invariant
