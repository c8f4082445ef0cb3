-- `bounds::are_allowed` meets its contract: `all` goes over the places that have come. Assumes nothing.
use Rattle.std.proofs.Common.{rules, ◌≡◌, ℕ, true, false, refl, arith}
use borrow.Author.Tests.{tests}
use Rattle.std.proofs.lemmas.Iterator.{cases_from_all, YieldsList-from_range}
use Rattle.registers.specs.Next.{value}
use Rattle.refusals.specs.Allowed.{parameter_allowed}
use Rattle.refusals.proofs.Came.{came_found}
use Rattle.refusals.proofs.bounds.are_allowed.Goals as goal

pub returns : goal.returns
returns c =
    let a = c.args in
    came_found (parameter_allowed a.s) a.values a.came c.all.result
    (cases_from_all _ _ _ (λ (k : ℕ). parameter_allowed a.s k (value a.values k) ≡ true) (λ (k : ℕ). parameter_allowed a.s k (value a.values k) ≡ false) c.all.ensures.ran
    (YieldsList-from_range 0 a.came a.came refl (omega arith)) (λ x q k. search (rules, tests)) (λ x q k. search (rules, tests)))
