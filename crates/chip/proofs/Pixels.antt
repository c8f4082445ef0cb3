-- A pixel stored and one read, from the promises of the calls that do it. Assumes nothing.
use Rattle.std.proofs.Common.{◌≡◌, ℕ, Bool, List, length, subst}
use Rattle.picture.specs.declared.Pen.{Pen}
use Rattle.picture.specs.Place.{rows_of}
use Rattle.picture.specs.Picture.{picture}
use Rattle.picture.specs.Store.{filled, pixel_for, storable}
use Rattle.registers.specs.declared.Registers.{Registers}
use Rattle.registers.specs.Next.{pen_of, is_deep_picture}
use Rattle.chip.specs.Chip.{picture_stores}

-- the region's pixel, stored by the pen and the memory that the registers name
pub pixel_stored : (r : Registers) (i z : List ℕ) (v : ℕ) {i' z' : List ℕ} {pen : Pen} {deep : Bool} → pen ≡ pen_of r → deep ≡ is_deep_picture r
    → picture i' z' 0 ≡ filled pen (storable pen (rows_of pen.frame (length i) (length z)) (pixel_for deep r.region.x r.region.y v)) (picture i z 0)
    → picture i' z' 0 ≡ filled (pen_of r) (picture_stores (rows_of r.frame (length i) (length z)) r v) (picture i z 0)
pixel_stored r i z v {i'} {z'} {pen} {deep} is d e =
    subst (λ (p : Pen). picture i' z' 0 ≡ filled p (storable p (rows_of p.frame (length i) (length z)) (pixel_for (is_deep_picture r) r.region.x r.region.y v)) (picture i z 0)) is
    (subst (λ (b : Bool). picture i' z' 0 ≡ filled pen (storable pen (rows_of pen.frame (length i) (length z)) (pixel_for b r.region.x r.region.y v)) (picture i z 0)) d e)
