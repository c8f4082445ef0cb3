-- `image::put_image_heading` meets its contract: its three parts, one behind the other. Assumes nothing.
use native.Mathlib.Omega.{arith}
use Rattle.report.specs.Image.{image_heading}
use Rattle.report.proofs.Pages.{image_heading_parts}
use Rattle.report.proofs.Putting.{add_after, room_after}
use Rattle.report.proofs.image.put_image_heading.Goals as goal

pub put_bytes-requires : goal.put_bytes-requires
put_bytes-requires c = let a = c.args in omega (arith, image_heading_parts a.most a.line a.rows)

pub put_pair-requires : goal.put_pair-requires
put_pair-requires c = let a = c.args in room_after _ c.put_bytes.ensures (omega (arith, image_heading_parts a.most a.line a.rows))

pub put_field-requires : goal.put_field-requires
put_field-requires c =
    let a = c.args in
    room_after _ c.put_pair.ensures (room_after _ c.put_bytes.ensures (omega (arith, image_heading_parts a.most a.line a.rows)))

pub returns : goal.returns
unfolding image_heading
returns c =
    add_after (add_after c.put_bytes.ensures c.put_pair.ensures) c.put_field.ensures
