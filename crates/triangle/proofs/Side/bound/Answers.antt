-- `Side::bound` meets its contract: the side's number tells the bound, by a quotient where that is below 65,536. A number that stands for one below 0 is far above
-- any such, modulo 2 ^ 64. Assumes nothing.
use Rattle.std.proofs.Common.{◌<◌, ◌≤◌, arith}
use Rattle.triangle.proofs.Sides.{bound_low, bound_at, bound_far, edge_low}
use Rattle.triangle.proofs.Side.bound.Goals as goal

pub crossing-requires : goal.crossing-requires
crossing-requires c =
    let m = c.requires.height in
    let some : 0 < c.args.self.height.tall = omega (arith, c.if-self.true) in
    record { some = some; low = omega (arith, m.is); near = c.if-self.true; least = m.least some; most = m.most some }

pub returns-then-self : goal.returns-then-self
returns-then-self c =
    let a = c.args in
    let e = edge_low a.a a.b a.y (omega arith) (omega arith) (omega arith) (omega arith) (omega arith) in
    let tall : a.self.height.tall ≤ 65535 = omega (arith, c.requires.height.is) in
    bound_at a.a a.b a.y a.self c.requires tall e.0 e.1 _ c.if-self.true c.crossing.ensures

pub returns-then-self-ge-HALF : goal.returns-then-self-ge-HALF
returns-then-self-ge-HALF c =
    let a = c.args in
    let e = edge_low a.a a.b a.y (omega arith) (omega arith) (omega arith) (omega arith) (omega arith) in
    let tall : a.self.height.tall ≤ 65535 = omega (arith, c.requires.height.is) in
    bound_low a.a a.b a.y a.self c.requires tall e.0 e.1 c.if-self-ge-HALF.true

pub returns : goal.returns
returns c =
    let a = c.args in
    let e = edge_low a.a a.b a.y (omega arith) (omega arith) (omega arith) (omega arith) (omega arith) in
    let tall : a.self.height.tall ≤ 65535 = omega (arith, c.requires.height.is) in
    bound_far a.a a.b a.y a.self c.requires tall e.0 e.1 (omega (arith, c.if-self-ge-HALF.false)) (omega (arith, c.if-self.false))
