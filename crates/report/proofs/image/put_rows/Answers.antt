-- `image::put_rows` meets its contract. The invariant of its loop: the rows passed are put. Assumes nothing.
use Rattle.std.proofs.Common.{◌≡◌, ◌-◌, ℕ, suc, length, ap, arith}
use Rattle.report.specs.Image.{row_bytes, down}
use Rattle.report.proofs.Pages.{down_more, down_within}
use Rattle.report.proofs.Putting.{add_none, add_after, room_after}
use Rattle.report.proofs.image.put_rows.Goals as goal

pub loop-k-init : goal.loop-k-init
unfolding down
loop-k-init c = add_none c.args.page.now

pub put_row-requires : goal.put_row-requires
put_row-requires c =
    let a = c.args in
    let k = c.loop-k.k in
    let y : c.saturating_sub-y.result ≡ a.below - suc k = omega arith in
    let row = ap (λ (y : ℕ). length (row_bytes a.most a.line a.memory.now y)) y in
    room_after _ c.loop-k.invariant (omega (arith, row, down_within a.most a.line a.memory.now a.below k a.count (omega arith)))

pub loop-k-preserved : goal.loop-k-preserved
loop-k-preserved c =
    let a = c.args in
    let y : c.saturating_sub-y.result ≡ a.below - suc c.loop-k.k = omega arith in
    rw (down_more a.most a.line a.memory.now a.below c.loop-k.k) (add_after c.loop-k.invariant (rw y at c.put_row.ensures))

pub returns : goal.returns
returns c =
    let all : c.loop-k.k ≡ c.args.count = omega arith in
    rw all at c.loop-k.invariant
