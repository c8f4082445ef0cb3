-- `text::put_tally` meets its contract: five lines, one behind the other. Assumes nothing.
use Rattle.std.proofs.Common.{refl, arith}
use Rattle.report.proofs.Putting.{add_after, room_after}
use Rattle.overdraw.specs.Text.{gouraud_name, constant_name, line0_name, line1_name, tally_lines}
use Rattle.overdraw.proofs.Lines.{kind_line}
use Rattle.overdraw.proofs.text.put_tally.Goals as goal

pub put_count-requires-2 : goal.put_count-requires-2
put_count-requires-2 c =
    let a = c.args in
    let room = room_after _ c.put_count.ensures (omega (arith, c.requires.at_in_bounds, kind_line a.name gouraud_name a.t.gouraud refl)) in
    record { hidden_bound = omega (arith, c.requires.each_within.constant.hidden); at_in_bounds = room }

pub put_count-requires-3 : goal.put_count-requires-3
put_count-requires-3 c =
    let a = c.args in
    let gouraud = kind_line a.name gouraud_name a.t.gouraud refl in
    let constant = kind_line a.name constant_name a.t.constant refl in
    let behind_one = room_after _ c.put_count.ensures (omega (arith, c.requires.at_in_bounds, gouraud, constant)) in
    record { hidden_bound = omega (arith, c.requires.each_within.line0.hidden); at_in_bounds = room_after _ c.put_count-2.ensures behind_one }

pub put_count-requires-4 : goal.put_count-requires-4
put_count-requires-4 c =
    let a = c.args in
    let gouraud = kind_line a.name gouraud_name a.t.gouraud refl in
    let constant = kind_line a.name constant_name a.t.constant refl in
    let line0 = kind_line a.name line0_name a.t.line0 refl in
    let behind_one = room_after _ c.put_count.ensures (omega (arith, c.requires.at_in_bounds, gouraud, constant, line0)) in
    let behind_two = room_after _ c.put_count-2.ensures behind_one in
    record { hidden_bound = omega (arith, c.requires.each_within.line1.hidden); at_in_bounds = room_after _ c.put_count-3.ensures behind_two }

pub put_count-requires-5 : goal.put_count-requires-5
put_count-requires-5 c =
    let a = c.args in
    let gouraud = kind_line a.name gouraud_name a.t.gouraud refl in
    let constant = kind_line a.name constant_name a.t.constant refl in
    let line0 = kind_line a.name line0_name a.t.line0 refl in
    let line1 = kind_line a.name line1_name a.t.line1 refl in
    let behind_one = room_after _ c.put_count.ensures (omega (arith, c.requires.at_in_bounds, gouraud, constant, line0, line1)) in
    let behind_two = room_after _ c.put_count-2.ensures behind_one in
    let behind_three = room_after _ c.put_count-3.ensures behind_two in
    record { hidden_bound = omega (arith, c.requires.each_within.line2.hidden); at_in_bounds = room_after _ c.put_count-4.ensures behind_three }

pub returns : goal.returns
unfolding tally_lines
returns c =
    add_after
    (add_after (add_after (add_after c.put_count.ensures c.put_count-2.ensures) c.put_count-3.ensures) c.put_count-4.ensures)
    c.put_count-5.ensures
