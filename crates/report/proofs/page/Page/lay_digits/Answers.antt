-- `page::Page::lay_digits` meets its contract: they are put where the test finds room, in either base. Assumes nothing.
use Rattle.report.proofs.Decimal.{length_digits}
use Rattle.report.proofs.Laying.{has, lays_none, lays_put}
use Rattle.report.proofs.page.Page.lay_digits.Goals as goal

pub put_last_digits-requires-clause-count_in_bounds : goal.put_last_digits-requires-clause-count_in_bounds
put_last_digits-requires-clause-count_in_bounds c = has c.args.self.now _ c.has_room.ensures c.if-has_room.true

pub put_last_digits-requires-in-Sixteen-clause-count_in_bounds : goal.put_last_digits-requires-in-Sixteen-clause-count_in_bounds
put_last_digits-requires-in-Sixteen-clause-count_in_bounds c = has c.args.self.now _ c.has_room.ensures c.if-has_room.true

pub returns-in-Ten : goal.returns-in-Ten
returns-in-Ten c =
    let a = c.args in
    rw c.in-Ten.is (lays_put _ _ (length_digits 10 a.count a.n) c.has_room.ensures c.if-has_room.true c.put_last_digits.ensures)

pub returns-in-Sixteen : goal.returns-in-Sixteen
returns-in-Sixteen c =
    let a = c.args in
    rw c.in-Sixteen.is (lays_put _ _ (length_digits 16 a.count a.n) c.has_room.ensures c.if-has_room.true c.put_last_digits-in-Sixteen.ensures)

pub returns-else-has_room : goal.returns-else-has_room
returns-else-has_room c =
    let a = c.args in
    lays_none _ _ (length_digits _ a.count a.n) c.has_room.ensures c.if-has_room.false
