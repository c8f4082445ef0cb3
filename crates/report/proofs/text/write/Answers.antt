-- `text::write` meets its contract: the test decides between the two outcomes, and the lines stand behind the first line. Assumes nothing.
use Rattle.std.proofs.Common.{rules, refl, length, arith}
use Rattle.report.specs.Text.{lines, report}
use Rattle.report.proofs.Lengths.{length_report}
use Rattle.report.proofs.Putting.{add_after, room_after}
use Rattle.report.proofs.Calls.{longer, fits, done}
use Rattle.report.proofs.text.write.Goals as goal

pub returns-then-is_longer : goal.returns-then-is_longer
returns-then-is_longer c =
    let a = c.args in
    longer (report a.words a.refusal a.passed a.line a.im.now a.zm.now) a.out.now c.is_longer.ensures c.if-is_longer.true

pub put-requires : goal.put-requires
put-requires c =
    let a = c.args in
    let enough = fits (report a.words a.refusal a.passed a.line a.im.now a.zm.now) a.out.now c.is_longer.ensures c.if-is_longer.false in
    omega (arith, enough, length_report a.line a.im.now a.zm.now a.words a.refusal a.passed)

pub put_lines-requires : goal.put_lines-requires
put_lines-requires c =
    let a = c.args in
    let enough = fits (report a.words a.refusal a.passed a.line a.im.now a.zm.now) a.out.now c.is_longer.ensures c.if-is_longer.false in
    room_after _ c.put.ensures (omega (arith, enough, length_report a.line a.im.now a.zm.now a.words a.refusal a.passed))

pub returns : goal.returns
unfolding report
returns c =
    let a = c.args in
    let enough = fits (report a.words a.refusal a.passed a.line a.im.now a.zm.now) a.out.now c.is_longer.ensures c.if-is_longer.false in
    let whole = add_after {b = lines a.line a.im.now a.zm.now (length a.im.now)} c.put.ensures c.put_lines.ensures in
    done (report a.words a.refusal a.passed a.line a.im.now a.zm.now) a.out.now enough whole refl refl (search rules)
