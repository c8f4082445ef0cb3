-- `next::trace` meets its contract: nothing is done where nothing is left. Assumes nothing.
use Rattle.std.proofs.Common.{sym, ◌∙◌}
use Rattle.tracing.proofs.Words.{turns_over, line_over, turns_next, line_next}
use Rattle.tracing.proofs.next.trace.Goals as goal

pub returns-then-is_over : goal.returns-then-is_over
returns-then-is_over c =
    let a = c.args in
    let e = sym c.is_over.ensures ∙ c.if-is_over.true in
    turns_over a.bytes.now a.run a.im.now a.zm.now e (line_over a.bytes.now a.run a.im.now a.zm.now e)

pub returns : goal.returns
returns c =
    let a = c.args in
    let e = sym c.is_over.ensures ∙ c.if-is_over.false in
    let k = c.take-taken.ensures in
    turns_next a.bytes.now a.run a.im.now a.zm.now e k (line_next a.bytes.now a.run a.im.now a.zm.now e k) c.trace_line.ensures
