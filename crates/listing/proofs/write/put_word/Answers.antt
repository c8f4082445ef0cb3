-- `write::put_word` meets its contract: digits, a mark and digits, one behind the other. Assumes nothing.
use Rattle.std.proofs.Common.{arith}
use Rattle.report.proofs.Putting.{add_after, room_after}
use Rattle.listing.specs.Text.{placed}
use Rattle.report.proofs.Decimal.{length_digits}
use Rattle.listing.proofs.write.put_word.Goals as goal

pub put_text-requires : goal.put_text-requires
put_text-requires c = room_after _ c.put_digits.ensures (omega (arith, length_digits 16 5 c.args.word))

pub put_digits-requires-2 : goal.put_digits-requires-2
put_digits-requires-2 c =
    room_after _ c.put_text.ensures (room_after _ c.put_digits.ensures (omega (arith, length_digits 16 5 c.args.word)))

pub returns : goal.returns
unfolding placed
returns c = add_after (add_after c.put_digits.ensures c.put_text.ensures) c.put_digits-2.ensures
