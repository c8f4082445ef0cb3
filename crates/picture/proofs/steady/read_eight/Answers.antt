-- `steady::read_eight` meets its contract, a pixel at a time. Assumes nothing.
use Rattle.std.proofs.Common.{◌+◌, get_or, rules}
use Rattle.std.proofs.lemmas.List.FromFn.{fill_by_all}
use Rattle.picture.specs.Loops.{eight_at}
use Rattle.picture.proofs.steady.read_eight.Goals as goal

pub returns : goal.returns
unfolding eight_at
returns c = let a = c.args in fill_by_all (λ k. get_or a.m.now (a.at + k) 0) c.loop-k.read 8 0 c.loop-k.invariant.0 (search rules)
