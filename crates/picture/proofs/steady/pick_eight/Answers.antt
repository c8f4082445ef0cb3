-- `steady::pick_eight` meets its contract, a pixel at a time. Assumes nothing.
use Rattle.std.proofs.Common.{cond, ltb, get_or, rules}
use Rattle.std.proofs.lemmas.List.FromFn.{fill_by_all}
use Rattle.picture.specs.Loops.{each_of}
use Rattle.picture.proofs.steady.pick_eight.Goals as goal

pub returns : goal.returns
unfolding each_of
returns c = let a = c.args in fill_by_all (λ k. cond (ltb a.z (get_or a.deep k 0)) a.new (get_or a.old k 0)) c.loop-k.picked 8 0 c.loop-k.invariant.0 (search rules)
