-- `Numbers::slant` meets its contract: what a step changes is a difference of two products of differences. Assumes nothing.
use Rattle.std.proofs.Common.{refl, arith}
use Rattle.triangle.proofs.Sums.{slant_told}
use Rattle.triangle.proofs.Numbers.slant.Goals as goal

pub returns : goal.returns
returns c =
    let u = c.args.across in
    let p = c.args.self in
    slant_told u.a u.b u.c p.a p.b p.c _ _ _ _ _ (omega arith) (omega arith) (omega arith) (omega arith) (omega arith) (omega arith)
    c.over.ensures c.over-2.ensures c.over-3.ensures c.over-4.ensures (omega arith) refl
