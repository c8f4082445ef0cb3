-- What holds of each offer of a figure: it is offered, so it lies inside the memory, it is of the figure's kind, and its numbers
-- are no greater than those of the figure's vertices. Assumes nothing.
use Rattle.std.proofs.Common.{◌≡◌, ℕ, zero, suc, ◌<◌, ◌≤◌, Bool, true, false, cond, List, [], ◌∷◌, sym, refl, subst, ⊎_elim, arith}
use mathlib.Core.List.Memᴰ
use mathlib.Core.List.{Memᴰ}
use Rattle.picture.specs.declared.Pen.{Pen}
use Rattle.picture.specs.declared.Vertex.{Vertex}
use Rattle.picture.specs.declared.Kind.{Kind}
use Rattle.picture.specs.Place.{in_memory}
use Rattle.picture.specs.Offer.{Offer, offered, keep}
use Rattle.picture.specs.Draw.{spans}
use Rattle.picture.proofs.Offers.{offered_inside}

-- a vertex's numbers are at most n
pub record Numbers (n : ℕ) (v : Vertex) : Type 0 where
  pub i : v.i ≤ n
  pub z : v.z ≤ n

-- an offer of a figure of this kind, with numbers at most n
pub record Member (pen : Pen) (rows : ℕ) (kind : Kind) (n : ℕ) (o : Offer) : Type 0 where
  pub of_kind : o.kind ≡ kind
  pub is_offered : offered pen rows o ≡ true
  pub i : o.i ≤ n
  pub z : o.z ≤ n

-- an offered pixel lies inside the memory
pub offered_at_lem : (pen : Pen) (rows : ℕ) (o : Offer) → offered pen rows o ≡ true → in_memory pen.frame rows o.x o.y ≡ true
unfolding offered
offered_at_lem pen rows o h = offered_inside pen rows o.kind o.x o.y h

-- what holds of each offer of f 0, f 1, .. below n holds of each of them laid end to end
pub every_span : (P : Offer → Type 0) (f : ℕ → List Offer) (n : ℕ) → ((k : ℕ) → k < n → (o : Offer) → Memᴰ o (f k) → P o)
    → (o : Offer) → Memᴰ o (spans f n) → P o
unfolding spans
every_span P f zero h o m = absurd (Memᴰ.not-nil m)
every_span P f (suc n) h o m =
    ⊎_elim (λ u. every_span P f n (λ k l. h k (omega arith)) o u) (λ u. h n (omega arith) o u) (Memᴰ.append_cases (spans f n) m)

-- what holds of a pixel if it is offered holds of what is kept of it
pub every_kept : (P : Offer → Type 0) (pen : Pen) (rows : ℕ) (p : Offer) → (offered pen rows p ≡ true → P p) → (o : Offer)
    → Memᴰ o (keep pen rows p) → P o
unfolding keep
every_kept P pen rows p h o m = go (offered pen rows p) refl m
  where
    go : (t : Bool) → offered pen rows p ≡ t → Memᴰ o (cond t (p ∷ []) []) → P o
    go true e u = subst P (sym (Memᴰ.eq_of_singleton u)) (h e)
    go false e u = absurd (Memᴰ.not-nil u)

-- what is kept of a pixel is offered
pub kept_offered : (pen : Pen) (rows : ℕ) (p o : Offer) → Memᴰ o (keep pen rows p) → offered pen rows o ≡ true
kept_offered pen rows p = every_kept (λ o. offered pen rows o ≡ true) pen rows p (λ e. e)
