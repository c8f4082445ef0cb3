-- `reach::taken` meets its contract: the word's parts, one by one. Assumes nothing.
use Rattle.show.proofs.Reaching.{onward_told}
use Rattle.show.proofs.reach.taken.Goals as goal

pub returns : goal.returns
returns c =
    let a = c.args in
    onward_told a.places a.s a.word c.next.ensures c.higher.ensures c.height_of.ensures c.is_missed-missed.ensures c.reach_of.ensures c.completed-figure.ensures c.rows_of-rows.ensures
