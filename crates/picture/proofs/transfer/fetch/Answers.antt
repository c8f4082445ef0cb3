-- `transfer::fetch` meets its contract. Assumes nothing.
use Rattle.picture.proofs.Stores.{read_outside, read_intensity, read_deep}
use Rattle.picture.proofs.transfer.fetch.Goals as goal

pub returns-then-deep : goal.returns-then-deep
returns-then-deep c =
    let s = c.args in
    let at = c.in-Some.ensures in
    read_deep s.frame s.im.now s.zm.now s.x s.y at.is at.inside c.if-deep.true

pub returns-else-deep : goal.returns-else-deep
returns-else-deep c =
    let s = c.args in
    let at = c.in-Some.ensures in
    read_intensity s.frame s.im.now s.zm.now s.x s.y at.is at.inside c.if-deep.false

pub returns : goal.returns
returns c = let s = c.args in read_outside s.frame s.im.now s.zm.now s.x s.y s.deep c.in_default.ensures
