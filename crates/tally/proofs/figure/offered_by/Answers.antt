-- `figure::offered_by` meets its contract. Assumes nothing.
use Rattle.std.proofs.Common.{rules}
use Rattle.tally.proofs.Figures.{muted_count, muted_i, muted_z}
use Rattle.tally.proofs.figure.offered_by.Goals as goal

pub returns : goal.returns
returns c =
    let a = c.args in
    let is = c.muted.ensures in
    let drew = c.draw.ensures.1 in
    let i = muted_i a.r a.figure a.im.now a.zm.now is drew in
    let z = muted_z a.r a.figure a.im.now a.zm.now is drew in
    (muted_count a.r a.figure a.im.now a.zm.now is drew, search rules, search rules)
