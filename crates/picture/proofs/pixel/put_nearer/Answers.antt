-- `pixel::put_nearer` meets its contract: a depth is nearer where it is less. Assumes nothing.
use Rattle.std.proofs.Common.{true, false, sym, lt-ltb, le-ltb, le_refl, arith}
use Rattle.picture.proofs.Rows.{nearer_pass, nearer_fail, nearer_is}
use Rattle.picture.proofs.pixel.put_nearer.Goals as goal

pub returns-then-z-zm : goal.returns-then-z-zm
returns-then-z-zm c =
    let a = c.args in
    (sym (nearer_pass a.at a.i a.z a.im.now a.zm.now a.n (nearer_is a.z _ true (lt-ltb _ _ c.if-z-zm.true))), le_refl _)

pub returns : goal.returns
returns c =
    let a = c.args in
    (sym (nearer_fail a.at a.i a.z a.im.now a.zm.now a.n (nearer_is a.z _ false (le-ltb _ _ c.if-z-zm.false))), omega arith)
