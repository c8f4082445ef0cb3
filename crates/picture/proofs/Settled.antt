-- What the promises of drawing calls settle: one outcome each. Assumes nothing.
use Rattle.std.proofs.Common.{◌≡◌, ℕ, List, sym, ap, ◌∙◌}
use Rattle.picture.specs.Picture.{Picture, picture}

-- of a call that draws: any two outcomes that its promise allows have the same memories and the same count
pub settled : {outcome : Picture} {i i' z z' : List ℕ} {n n' : ℕ} → picture i z n ≡ outcome → picture i' z' n' ≡ outcome → (i ≡ i') × (z ≡ z') × (n ≡ n')
settled p q =
    let same = p ∙ sym q in
    (ap (λ (s : Picture). s.i) same, ap (λ (s : Picture). s.z) same, ap (λ (s : Picture). s.passed) same)
