-- `image::put_pixel` meets its contract: the last byte, or both. Assumes nothing.
use Rattle.std.proofs.Common.{◌≡◌, ◌/◌, ◌%◌, arith}
use Rattle.report.proofs.Pages.{size_one, size_two, pixel_one, pixel_two}
use Rattle.report.proofs.Putting.{add_after, room_after}
use Rattle.report.proofs.image.put_pixel.Goals as goal

pub put_byte-requires : goal.put_byte-requires
put_byte-requires c = omega (arith, size_one c.args.most c.if-most-lt256.true)

pub returns-then-most-lt256 : goal.returns-then-most-lt256
returns-then-most-lt256 c =
    let a = c.args in
    rw (pixel_one a.most a.n c.if-most-lt256.true) (rw c.to_be_bytes-bytes.ensures at c.put_byte.ensures)

pub put_byte-requires-2 : goal.put_byte-requires-2
put_byte-requires-2 c = omega (arith, size_two c.args.most c.if-most-lt256.false)

pub put_byte-requires-3 : goal.put_byte-requires-3
put_byte-requires-3 c = room_after _ c.put_byte-2.ensures (omega (arith, size_two c.args.most c.if-most-lt256.false))

pub returns : goal.returns
returns c =
    let a = c.args in
    let high : a.n / 256 % 256 ≡ a.n / 256 = omega arith in
    rw (pixel_two a.most a.n c.if-most-lt256.false) (rw (c.to_be_bytes-bytes.ensures, high) at (add_after c.put_byte-2.ensures c.put_byte-3.ensures))
