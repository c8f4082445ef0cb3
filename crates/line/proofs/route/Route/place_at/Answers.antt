-- `Route::place_at` meets its contract, by the way. Assumes nothing.
use Rattle.std.proofs.Common.{ap, arith}
use Rattle.line.specs.declared.part.Part.{Part}
use Rattle.line.proofs.Parts.{part_shift}
use Rattle.line.proofs.route.Route.place_at.Goals as goal

pub overflow_shr-result : goal.overflow_shr-result
overflow_shr-result c = omega (arith, ap (λ (p : Part). p.shift) c.requires, part_shift c.args.frame)
