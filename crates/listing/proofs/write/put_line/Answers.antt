-- `write::put_line` meets its contract: its four parts, one behind the other, fill a page of its own. Assumes nothing.
use Rattle.std.proofs.Common.{rules, refl, arith}
use Rattle.report.proofs.Putting.{add_after, add_whole, room_after}
use Rattle.listing.specs.Text.{line}
use Rattle.report.proofs.Decimal.{length_digits}
use Rattle.listing.proofs.Lines.{length_placed, length_name, length_line}
use Rattle.listing.proofs.write.put_line.Goals as goal

pub put_name-requires-clause-at_in_bounds : goal.put_name-requires-clause-at_in_bounds
put_name-requires-clause-at_in_bounds c = room_after _ c.put_word.ensures (omega (arith, length_placed c.args.index c.args.word))

pub put_digits-requires : goal.put_digits-requires
put_digits-requires c =
    let a = c.args in
    room_after _ c.put_name.ensures (room_after _ c.put_word.ensures (omega (arith, length_placed a.index a.word, length_name a.word)))

pub put_text-requires : goal.put_text-requires
put_text-requires c =
    let a = c.args in
    room_after _ c.put_digits.ensures (room_after _ c.put_name.ensures (room_after _ c.put_word.ensures (omega (arith, length_placed a.index a.word, length_name a.word, length_digits 16 4 a.word))))

pub returns : goal.returns
unfolding line
returns c =
    let all = add_after (add_after (add_after c.put_word.ensures c.put_name.ensures) c.put_digits.ensures) c.put_text.ensures in
    rw (add_whole {left = c.text-2-1.given.0} all refl (length_line c.args.index c.args.word) (search rules)) at c.put_text-2.ensures
