-- `transfer::store` meets its contract: inside the memory Z or I gets the number, outside nothing. Assumes nothing.
use Rattle.std.proofs.Common.{refl}
use Rattle.picture.proofs.Stores.{store_outside, store_intensity, store_deep}
use Rattle.picture.proofs.transfer.store.Goals as goal

pub returns-then-deep : goal.returns-then-deep
returns-then-deep c =
    let s = c.args in
    let at = c.in-Some.ensures in
    ((refl, refl), store_deep s.pen s.m.now.i.now s.m.now.z.now s.x s.y s.value at.is at.inside c.if-deep.true c.store_z.ensures)

pub returns-else-deep : goal.returns-else-deep
returns-else-deep c =
    let s = c.args in
    let at = c.in-Some.ensures in
    ((refl, refl), store_intensity s.pen s.m.now.i.now s.m.now.z.now s.x s.y s.value at.is at.inside c.if-deep.false c.store_i.ensures)

pub returns-in_default : goal.returns-in_default
returns-in_default c = let s = c.args in ((refl, refl), store_outside s.pen s.m.now.i.now s.m.now.z.now s.x s.y s.value s.deep c.in_default.ensures)
