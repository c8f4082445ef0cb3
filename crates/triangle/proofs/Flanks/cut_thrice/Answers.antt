-- `Flanks::cut_thrice` meets its contract: three cuts one after the other. Assumes nothing.
use Rattle.triangle.proofs.Flanking.{cuts_all}
use Rattle.triangle.proofs.Flanks.cut_thrice.Goals as goal

pub returns : goal.returns
returns c =
    let a = c.args in
    cuts_all a.corners a.y a.columns _ _ _ c.cut-first.ensures c.cut-second.ensures c.cut.ensures
