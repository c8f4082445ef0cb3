-- What a segment offers: pixels of its mode's kind that are offered, with numbers no greater than its vertices', one at most for each step. Assumes nothing.
use Rattle.std.proofs.Common.{ℕ, ◌+◌, ◌≤◌, Bool, true, false, cond, ltb, List, [], length, refl, zero-le, arith}
use mathlib.Core.List.Memᴰ
use mathlib.Core.List.{Memᴰ}
use Rattle.picture.specs.declared.Pen.{Pen}
use Rattle.picture.specs.declared.Vertex.{Vertex}
use Rattle.picture.specs.declared.Kind.{Kind}
use Rattle.picture.specs.declared.Kind.TheVariants.{Line0, Line1, Line2}
use Rattle.picture.specs.Offer.{Offer, offer, keep}
use Rattle.picture.specs.Picture.{Picture, drawn}
use Rattle.picture.proofs.Spans.{spans_counts}
use Rattle.picture.proofs.Offers.{keep_length}
use Rattle.picture.proofs.Members.{Numbers, Member, every_span, every_kept}
use Rattle.line.specs.declared.Mode.{Mode}
use Rattle.line.specs.declared.Mode.TheVariants.{Zero, One, Two}
use Rattle.line.specs.declared.Style.{Style}
use Rattle.line.specs.Segment.{kind_of, larger, x_at, y_at, is_set, first_of, from, dash_offers, shade_offers, step_offers, segment_offers}
use Rattle.line.proofs.Rounding.{number_le}

-- the steps from a first one on have what each step has, and what no offers have
from_has : (P : List Offer → Type 0) (first : ℕ) (f : ℕ → List Offer) (k : ℕ) → P [] → P (f k) → P (from first f k)
unfolding from
from_has P first f k p q = go (ltb k first)
  where
    go : (t : Bool) → P (cond t [] (f k))
    go true = p
    go false = q

module _ (pen : Pen) (rows : ℕ) (style : Style) (a b : Vertex) where
  module _ (n : ℕ) (first : Numbers n a) (second : Numbers n b) (fore : style.foreground ≤ n) (back : style.background ≤ n) where
    dash_member : (kind : Kind) (backing : Bool) (k : ℕ) (o : Offer) → Memᴰ o (dash_offers pen rows kind backing style a b k) → Member pen rows kind n o
    unfolding dash_offers
    dash_member kind backing k o = go (is_set style k) backing
      where
        inked : (colour : ℕ) → colour ≤ n → Memᴰ o (keep pen rows (offer kind (x_at a b k) (y_at a b k) colour 0)) → Member pen rows kind n o
        inked colour h = every_kept (Member pen rows kind n) pen rows _ (λ e. record { of_kind = refl; is_offered = e; i = h; z = zero-le }) o

        go : (t g : Bool)
            → Memᴰ o
            (cond t (keep pen rows (offer kind (x_at a b k) (y_at a b k) style.foreground 0))
            (cond g (keep pen rows (offer kind (x_at a b k) (y_at a b k) style.background 0)) []))
            → Member pen rows kind n o
        go true g m = inked style.foreground fore m
        go false true m = inked style.background back m
        go false false m = absurd (Memᴰ.not-nil m)

    shade_member : (k : ℕ) → k ≤ larger a b → (o : Offer) → Memᴰ o (shade_offers pen rows a b k) → Member pen rows Line2 n o
    unfolding shade_offers
    shade_member k h =
        every_kept (Member pen rows Line2 n) pen rows _
        (λ e.
        record {
          of_kind = refl;
          is_offered = e;
          i = number_le (larger a b) k a.i b.i n h first.i second.i;
          z = number_le (larger a b) k a.z b.z n h first.z second.z;
        })

    step_member : (m : Mode) (k : ℕ) → k ≤ larger a b → (o : Offer) → Memᴰ o (step_offers pen rows style m a b k) → Member pen rows (kind_of m) n o
    step_member Zero k h o =
        from_has (λ os. Memᴰ o os → Member pen rows Line0 n o) (first_of style.joined) (dash_offers pen rows Line0 true style a b) k (λ u. absurd (Memᴰ.not-nil u)) (dash_member Line0 true k o)
    step_member One k h o =
        from_has (λ os. Memᴰ o os → Member pen rows Line1 n o) (first_of style.joined) (dash_offers pen rows Line1 false style a b) k (λ u. absurd (Memᴰ.not-nil u)) (dash_member Line1 false k o)
    step_member Two k h o = shade_member k h o

    -- each offer of a segment
    pub segment_member : (o : Offer) → Memᴰ o (segment_offers pen rows style a b) → Member pen rows (kind_of style.mode) n o
    unfolding segment_offers
    segment_member = every_span (Member pen rows (kind_of style.mode) n) _ (larger a b + 1) (λ k h. step_member style.mode k (omega arith))

  -- ---- how many pass

  dash_length : (kind : Kind) (backing : Bool) (k : ℕ) → length (dash_offers pen rows kind backing style a b k) ≤ 1
  unfolding dash_offers
  dash_length kind backing k = go (is_set style k) backing
    where
      go : (t g : Bool)
          → length
          (cond t (keep pen rows (offer kind (x_at a b k) (y_at a b k) style.foreground 0))
          (cond g (keep pen rows (offer kind (x_at a b k) (y_at a b k) style.background 0)) []))
          ≤ 1
      go true g = keep_length pen rows _
      go false true = keep_length pen rows _
      go false false = zero-le

  shade_length : (k : ℕ) → length (shade_offers pen rows a b k) ≤ 1
  unfolding shade_offers
  shade_length k = keep_length pen rows _

  step_length : (m : Mode) (k : ℕ) → length (step_offers pen rows style m a b k) ≤ 1
  step_length Zero k = from_has (λ os. length os ≤ 1) (first_of style.joined) (dash_offers pen rows Line0 true style a b) k zero-le (dash_length Line0 true k)
  step_length One k = from_has (λ os. length os ≤ 1) (first_of style.joined) (dash_offers pen rows Line1 false style a b) k zero-le (dash_length Line1 false k)
  step_length Two k = shade_length k

  -- no more pixels of a segment pass than it has steps
  pub segment_counts : (p : Picture) → (drawn pen (segment_offers pen rows style a b) p).passed ≤ p.passed + (larger a b + 1)
  unfolding segment_offers
  segment_counts p = omega (arith, spans_counts pen (step_offers pen rows style style.mode a b) 1 (larger a b + 1) p (step_length style.mode))
