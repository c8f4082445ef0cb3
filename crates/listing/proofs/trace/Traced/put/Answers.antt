-- `trace::Traced::put` meets its contract: its five parts, one behind the other, fill a page of its own. Assumes nothing.
use Rattle.std.proofs.Common.{rules, refl, arith}
use Rattle.report.proofs.Putting.{add_after, add_whole, room_after}
use Rattle.listing.specs.Trace.{traced_text}
use Rattle.report.proofs.Decimal.{length_digits}
use Rattle.listing.proofs.Lines.{length_placed, length_name}
use Rattle.listing.proofs.Traces.{length_meaning, length_traced}
use Rattle.listing.proofs.trace.Traced.put.Goals as goal

pub put_name-requires-clause-at_in_bounds : goal.put_name-requires-clause-at_in_bounds
put_name-requires-clause-at_in_bounds c = room_after _ c.put_word.ensures (omega (arith, length_placed c.args.self.index c.args.self.word))

pub put_digits-requires : goal.put_digits-requires
put_digits-requires c =
    let t = c.args.self in
    room_after _ c.put_name.ensures (room_after _ c.put_word.ensures (omega (arith, length_placed t.index t.word, length_name t.word)))

pub put-requires : goal.put-requires
put-requires c =
    let t = c.args.self in
    room_after _ c.put_digits.ensures (room_after _ c.put_name.ensures (room_after _ c.put_word.ensures (omega (arith, length_placed t.index t.word, length_name t.word, length_digits 16 4 t.word))))

pub put_answer-requires : goal.put_answer-requires
put_answer-requires c =
    let t = c.args.self in
    room_after _ c.put.ensures
    (room_after _ c.put_digits.ensures (room_after _ c.put_name.ensures (room_after _ c.put_word.ensures (omega (arith, length_placed t.index t.word, length_name t.word, length_digits 16 4 t.word, length_meaning t.meaning)))))

pub returns : goal.returns
unfolding traced_text
returns c =
    let all = add_after (add_after (add_after (add_after c.put_word.ensures c.put_name.ensures) c.put_digits.ensures) c.put.ensures) c.put_answer.ensures in
    rw (add_whole {left = c.text-2-1.given.0} all refl (length_traced c.args.self) (search rules)) at c.put_text.ensures
