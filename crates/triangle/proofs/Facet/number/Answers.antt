-- `Facet::number` meets its contract. Assumes nothing.
use Rattle.std.proofs.Common.{ℕ, ◌*◌, ◌/◌, ap}
use Rattle.triangle.specs.Number.{mixed}
use Rattle.triangle.proofs.Facet.number.Goals as goal

pub returns : goal.returns
unfolding mixed
returns c = ap (λ (n : ℕ). n / (2 * c.args.self.area)) c.mass.ensures.0
