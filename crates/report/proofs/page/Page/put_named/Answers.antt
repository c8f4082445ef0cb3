-- `page::Page::put_named` meets its contract: a number behind its name. Assumes nothing.
use native.Mathlib.Omega.{arith}
use Rattle.report.specs.Text.{named}
use Rattle.report.proofs.Lengths.{named_parts}
use Rattle.report.proofs.Putting.{add_after, room_after}
use Rattle.report.proofs.page.Page.put_named.Goals as goal

pub put_bytes-requires : goal.put_bytes-requires
put_bytes-requires c = let a = c.args in omega (arith, named_parts a.name.now a.n a.after)

pub put_field-requires : goal.put_field-requires
put_field-requires c = let a = c.args in room_after _ c.put_bytes.ensures (omega (arith, named_parts a.name.now a.n a.after))

pub returns : goal.returns
unfolding named
returns c =
    add_after c.put_bytes.ensures c.put_field.ensures
