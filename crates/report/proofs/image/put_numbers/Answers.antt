-- `image::put_numbers` meets its contract. The invariant of its loop: the numbers of the places passed are put. Assumes nothing.
use Rattle.std.proofs.Common.{◌≡◌, arith}
use Rattle.report.specs.Image.{numbers}
use Rattle.report.proofs.Pages.{numbers_more, numbers_within}
use Rattle.report.proofs.Putting.{add_none, add_after, room_after}
use Rattle.report.proofs.image.put_numbers.Goals as goal

pub loop-k-init : goal.loop-k-init
unfolding numbers
loop-k-init c = add_none c.args.page.now

pub put_pixel-requires : goal.put_pixel-requires
put_pixel-requires c =
    let a = c.args in
    room_after _ c.loop-k.invariant (omega (arith, numbers_within a.most a.memory.now a.from c.loop-k.k a.count (omega arith)))

pub loop-k-preserved : goal.loop-k-preserved
loop-k-preserved c =
    let a = c.args in
    rw (numbers_more a.most a.memory.now a.from c.loop-k.k) (add_after c.loop-k.invariant (rw c.number_at.ensures at c.put_pixel.ensures))

pub returns : goal.returns
returns c =
    let all : c.loop-k.k ≡ c.args.count = omega arith in
    rw all at c.loop-k.invariant
