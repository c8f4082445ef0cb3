-- `put_report` meets its contract: the text fits, so that it is written and `NoRoom` is never answered. Assumes nothing.
use Rattle.std.proofs.Common.{rules}
use Rattle.report.proofs.Fitting.{text_stands, text_done}
use Rattle.printing.proofs.put_report.Goals as goal

pub unwrap-requires : goal.unwrap-requires
unwrap-requires c =
    let a = c.args in
    text_done a.words a.refusal a.passed a.line a.im.now a.zm.now a.out.now _ _ (search rules) (search rules) (search rules) (search rules)
    c.fits-im c.fits-zm (search rules) c.write.ensures

pub returns : goal.returns
returns c =
    let a = c.args in
    text_stands a.words a.refusal a.passed a.line a.im.now a.zm.now a.out.now _ _ (search rules) (search rules) (search rules) (search rules)
    c.fits-im c.fits-zm (search rules) c.write.ensures c.unwrap.ensures
