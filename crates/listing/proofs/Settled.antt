-- What the promises of the calls settle: one outcome each. Of `list` it is `report`'s law, since it answers as `report` does. Assumes nothing.
use Rattle.std.proofs.Common.{◌≡◌, ℕ, List, sym, ap, ◌∙◌}
use Rattle.listing.specs.declared.read.Reader.{Reader}
use Rattle.listing.specs.Reading.{Reading, reading}

-- of `read`: any two outcomes that its promise allows have the same reader and the same words
pub read_settled : {s : Reading} {r r' : Reader} {left left' : List ℕ} → reading r left ≡ s → reading r' left' ≡ s → (r ≡ r') × (left ≡ left')
read_settled p q =
    let same = p ∙ sym q in
    (ap (λ (s : Reading). s.reader) same, ap (λ (s : Reading). s.words) same)
