-- A completed figure drawn, from the promise of the call that draws it, or cut. Assumes nothing.
use Rattle.std.proofs.Common.{◌≡◌, ℕ, Bool, true, false, List, [], length, sym, ap, ◌∙◌, ap₂}
use mathlib.Core.List.Memᴰ
use mathlib.Core.List.{Memᴰ}
use Rattle.picture.specs.declared.Pen.{Pen}
use Rattle.picture.specs.declared.Vertex.{Vertex}
use Rattle.picture.specs.Place.{rows_of}
use Rattle.picture.specs.Offer.{Offer}
use Rattle.picture.specs.Picture.{Picture, picture, drawn}
use Rattle.picture.proofs.Fold.{drawn_nil}
use Rattle.triangle.specs.Offers.{triangle_offers}
use Rattle.line.specs.declared.Style.{Style}
use Rattle.line.specs.Segment.{segment_offers}
use Rattle.registers.specs.declared.Registers.{Registers}
use Rattle.registers.specs.declared.shape.Completed.{Completed}
use Rattle.registers.specs.declared.shape.Completed.TheVariants.{Nothing, Triangle, Segment}
use Rattle.registers.specs.Next.{pen_of}
use Rattle.ground.proofs.Truth.{either}
use Rattle.chip.specs.Chip.{is_constant, style_of, whole_offers, is_cut, figure_offers}

-- what a figure offers is among what it holds
pub offers_held : (rows : ℕ) (r : Registers) (f : Completed) (o : Offer) → Memᴰ o (figure_offers rows r f) → Memᴰ o (whole_offers rows r f)
unfolding figure_offers
offers_held rows r f o =
    either (λ (os : List Offer). Memᴰ o os → Memᴰ o (whole_offers rows r f)) (is_cut r f) {x = []} {y = whole_offers rows r f} (λ t u. absurd (Memᴰ.not-nil u)) (λ t u. u)

module _ (r : Registers) (i z : List ℕ) where
  -- the picture after what a figure offers, which is nothing if it is cut
  abbrev pub figured : Completed → Picture
  figured f = drawn (pen_of r) (figure_offers (rows_of r.frame (length i) (length z)) r f) (picture i z 0)

  -- the picture after all that a figure holds to be offered, as if nothing cut it
  abbrev pub whole : Completed → Picture
  whole f = drawn (pen_of r) (whole_offers (rows_of r.frame (length i) (length z)) r f) (picture i z 0)

  -- nothing completed, nothing drawn
  pub nothing_drawn : picture i z 0 ≡ figured Nothing
  unfolding figure_offers whole_offers is_cut
  nothing_drawn = sym (drawn_nil (pen_of r) (picture i z 0))

  module _ (figure : Completed) {cut : Bool} (is : cut ≡ is_cut r figure) where
    -- a figure that is cut, nothing drawn
    pub cut_drawn : cut ≡ true → picture i z 0 ≡ figured figure
    unfolding figure_offers
    cut_drawn t = rw (← is, t) (sym (drawn_nil (pen_of r) (picture i z 0)))

    -- any other is drawn whole
    pub uncut_drawn : {i' z' : List ℕ} {n : ℕ} → cut ≡ false → picture i' z' n ≡ whole figure → picture i' z' n ≡ figured figure
    unfolding figure_offers
    uncut_drawn t e = rw (← is, t) e

  -- a figure that is none
  pub none_drawn : {figure : Completed} → figure ≡ Nothing → picture i z 0 ≡ whole figure
  unfolding whole_offers
  none_drawn e = rw e (sym (drawn_nil (pen_of r) (picture i z 0)))

  module _ {figure : Completed} {i' z' : List ℕ} {n : ℕ} {pen : Pen} (is : pen ≡ pen_of r) where
    -- a triangle drawn by its pen
    pub triangle_drawn : {a b c : Vertex} → figure ≡ Triangle a b c
        → picture i' z' n ≡ drawn pen (triangle_offers pen (rows_of pen.frame (length i) (length z)) (is_constant r) a b c) (picture i z 0) → picture i' z' n ≡ whole figure
    unfolding whole_offers
    triangle_drawn {a} {b} {c} e told =
        rw e (told ∙ ap (λ (p : Pen). drawn p (triangle_offers p (rows_of p.frame (length i) (length z)) (is_constant r) a b c) (picture i z 0)) is)

    -- a visible segment drawn by its pen and style
    pub segment_drawn : {style : Style} {a b : Vertex} → style ≡ style_of r → figure ≡ Segment a b
        → picture i' z' n ≡ drawn pen (segment_offers pen (rows_of pen.frame (length i) (length z)) style a b) (picture i z 0) → picture i' z' n ≡ whole figure
    unfolding whole_offers
    segment_drawn {style} {a} {b} s e told =
        rw e (told ∙ ap₂ (λ (p : Pen) (q : Style). drawn p (segment_offers p (rows_of p.frame (length i) (length z)) q a b) (picture i z 0)) is s)
