-- `pixel::Pixel::passes` meets its contract: with the window narrowed and the enables off, what is drawn is counted and not stored. Assumes nothing.
use Rattle.std.proofs.Common.{rules}
use Rattle.tracing.proofs.Aimed.{aimed_count, aimed_i, aimed_z}
use Rattle.tracing.proofs.pixel.Pixel.passes.Goals as goal

pub returns : goal.returns
returns c =
    let a = c.args in
    let is = c.aim.ensures in
    let drew = c.draw.ensures.1 in
    let i = aimed_i a.self.x a.self.y a.registers a.figure a.im.now a.zm.now is drew in
    let z = aimed_z a.self.x a.self.y a.registers a.figure a.im.now a.zm.now is drew in
    record {
      told = aimed_count a.self.x a.self.y a.registers a.figure a.im.now a.zm.now is drew;
      i_stays = search rules;
      z_stays = search rules;
    }
