-- `page::Page::put_pair` meets its contract: a number behind a number. Assumes nothing.
use native.Mathlib.Omega.{arith}
use Rattle.report.specs.Text.{pair}
use Rattle.report.proofs.Lengths.{pair_parts}
use Rattle.report.proofs.Putting.{add_after, room_after}
use Rattle.report.proofs.page.Page.put_pair.Goals as goal

pub put_field-requires : goal.put_field-requires
put_field-requires c = let a = c.args in omega (arith, pair_parts a.m a.n a.after)

pub put_field-requires-2 : goal.put_field-requires-2
put_field-requires-2 c = let a = c.args in room_after _ c.put_field.ensures (omega (arith, pair_parts a.m a.n a.after))

pub returns : goal.returns
unfolding pair
returns c = add_after c.put_field.ensures c.put_field-2.ensures
