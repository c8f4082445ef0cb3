-- `page::Page::put_field` meets its contract: the number, and a byte behind it. Assumes nothing.
use Rattle.std.proofs.Common.{arith}
use Rattle.report.specs.Text.{field}
use Rattle.report.proofs.Decimal.{decimal_last, length_digits}
use Rattle.report.proofs.Lengths.{length_field}
use Rattle.report.proofs.Putting.{add_after, room_after}
use Rattle.report.proofs.page.Page.put_field.Goals as goal

pub put_last_digits-requires-clause-count_in_bounds : goal.put_last_digits-requires-clause-count_in_bounds
put_last_digits-requires-clause-count_in_bounds c = let a = c.args in omega (arith, c.digits.ensures.size, length_field a.n a.after)

pub put_byte-requires : goal.put_byte-requires
put_byte-requires c =
    let a = c.args in
    room_after _ c.put_last_digits.ensures (omega (arith, c.digits.ensures.size, length_digits 10 c.digits.result a.n, length_field a.n a.after))

pub returns : goal.returns
unfolding field
returns c = add_after (rw (c.digits.ensures.size, decimal_last c.args.n) at c.put_last_digits.ensures) c.put_byte.ensures
