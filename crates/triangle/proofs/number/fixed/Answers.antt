-- `number::fixed` meets its contract. Assumes nothing.
use Rattle.picture.specs.Draw.{carried_one}
use Rattle.std.proofs.Common.{◌+◌, ◌*◌, ◌/◌, ◌≤◌}
use Rattle.triangle.proofs.Carry.{fixed_low, fixed_high, fixed_fits}
use Rattle.triangle.proofs.number.fixed.Goals as goal

pub returns : goal.returns
returns c =
    let fits : c.args.n / c.args.m * carried_one + c.part.result ≤ 18446603336221196288 =
    fixed_fits c.args.n c.args.m c.part.result c.part.ensures.0 c.part.ensures.1 c.requires.0 c.requires.2 in
    let a = c.args in
    let k = c.part in (
      fixed_low a.n a.m k.result k.ensures.0 k.ensures.1,
      fixed_high a.n a.m k.result k.ensures.0 k.ensures.1,
      fits,
    )
