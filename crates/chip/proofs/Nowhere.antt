-- Memories without places: no figure offers anything there, so that nothing is drawn. Assumes nothing.
use Rattle.std.proofs.Common.{◌≡◌, ℕ, true, List, [], ◌∷◌, length, sym, refl, ap, ◌∙◌, arith}
use mathlib.Core.List.{Memᴰ}
use Rattle.picture.specs.Place.{rows_of}
use Rattle.picture.specs.Offer.{Offer, offered}
use Rattle.picture.specs.Picture.{picture, drawn}
use Rattle.picture.proofs.Fold.{drawn_nil}
use Rattle.picture.proofs.Places.{place_below}
use Rattle.picture.proofs.Members.{offered_at_lem}
use Rattle.registers.specs.declared.Registers.{Registers}
use Rattle.registers.specs.declared.shape.Completed.{Completed}
use Rattle.registers.specs.Next.{pen_of}
use Rattle.chip.specs.Chip.{figure_offers}
use Rattle.chip.proofs.Figures.{figured}
use Rattle.chip.proofs.Laws.{figure_offered}

-- over memories without places no figure offers anything
pub nowhere_offered : (r : Registers) (ni nz : ℕ) (f : Completed) → ni ≡ 0 → figure_offers (rows_of r.frame ni nz) r f ≡ []
nowhere_offered r ni nz f none = go (figure_offers (rows_of r.frame ni nz) r f) (figure_offered (rows_of r.frame ni nz) r f)
  where
    go : (os : List Offer) → ((o : Offer) → Memᴰ o os → offered (pen_of r) (rows_of r.frame ni nz) o ≡ true) → os ≡ []
    go [] h = refl
    go (o ∷ os) h = absurd (omega (arith, none, (place_below r.frame ni nz o.x o.y (offered_at_lem (pen_of r) (rows_of r.frame ni nz) o (h o (Memᴰ.head refl)))).0))

-- so nothing is drawn there
pub nowhere_drawn : (r : Registers) (i z : List ℕ) (f : Completed) → length i ≡ 0 → picture i z 0 ≡ figured r i z f
nowhere_drawn r i z f none =
    sym (ap (λ (os : List Offer). drawn (pen_of r) os (picture i z 0)) (nowhere_offered r (length i) (length z) f none) ∙ drawn_nil (pen_of r) (picture i z 0))
