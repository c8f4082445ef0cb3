-- `pixel::store_i` meets its contract. Assumes nothing.
use Rattle.picture.proofs.Offers.{store_i, keep_i}
use Rattle.picture.proofs.pixel.store_i.Goals as goal

pub returns-then-pen : goal.returns-then-pen
returns-then-pen c = let a = c.args in store_i a.pen a.im.now a.at a.i _ c.if-pen.true c.in_planes.ensures

pub returns-else-pen : goal.returns-else-pen
returns-else-pen c = let a = c.args in keep_i a.pen a.im.now a.at a.i c.if-pen.false
