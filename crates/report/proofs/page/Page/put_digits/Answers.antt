-- `page::Page::put_digits` meets its contract: the digits are put where both tests pass, that of the base and that of the room. Assumes nothing.
use Rattle.std.proofs.Common.{◌∙◌, sym}
use Rattle.report.proofs.Decimal.{length_digits}
use Rattle.report.proofs.Laying.{digits_in_base, digits_in_none, lays_none, lays_nothing, lays_put}
use Rattle.report.proofs.page.Page.put_digits.Goals as goal
use Rattle.report.proofs.page.Page.put_digits.Goals.{else-is_base-via-then-is_base+else-has_room, else-is_base-via-else-is_base}

pub returns-then-has_room-clause-lays : goal.returns-then-has_room-clause-lays
returns-then-has_room-clause-lays c =
    let a = c.args in
    let based = digits_in_base a.base a.count a.n (sym c.is_base.ensures ∙ c.if-is_base.true) in
    rw based (lays_put _ _ (length_digits a.base a.count a.n) c.has_room.ensures c.if-has_room.true c.put_last_digits.ensures)

pub returns-else-is_base-clause-lays : goal.returns-else-is_base-clause-lays
returns-else-is_base-clause-lays c =
    let a = c.args in
    elim c.else-is_base.branch [
      | else-is_base-via-then-is_base+else-has_room w ↦
          rw (digits_in_base a.base a.count a.n (sym c.is_base.ensures ∙ w.if-is_base.true))
          (lays_none _ _ (length_digits a.base a.count a.n) w.has_room.ensures w.if-has_room.false)
      | else-is_base-via-else-is_base w ↦
          rw (digits_in_none a.base a.count a.n (sym c.is_base.ensures ∙ w.if-is_base.false)) (lays_nothing a.self.now)
    ]
