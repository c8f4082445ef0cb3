-- `nearer::run_of` meets its contract. Assumes nothing.
use Rattle.std.proofs.Common.{sym, ◌∙◌}
use Rattle.picture.proofs.Runs.{plain_beside}
use Rattle.picture.proofs.nearer.run_of.Goals as goal

pub returns-then-lies_plain : goal.returns-then-lies_plain
returns-then-lies_plain c =
    let a = c.args in
    plain_beside a.frame a.s.lo a.s.hi a.s.y a.s.i a.s.z c.requires.0 c.requires.1 (sym c.lies_plain.ensures ∙ c.if-lies_plain.true) c.place.ensures.0 c.place.ensures.1
