-- `scale::Range::level` meets its contract: a number's share is no more than the span, so that its level fits. Assumes nothing.
use Rattle.report.proofs.Levels.{level_flat, level_told}
use Rattle.report.proofs.scale.Range.level.Goals as goal

pub returns-then-span-eq0 : goal.returns-then-span-eq0
returns-then-span-eq0 c =
    let a = c.args in
    level_flat a.self a.n c.base-base.ensures c.saturating_sub-span.ensures c.if-span-eq0.true

pub returns : goal.returns
returns c =
    let a = c.args in
    level_told a.self a.n c.base-base.ensures c.saturating_sub-span.ensures c.min.ensures c.saturating_sub-share.ensures
