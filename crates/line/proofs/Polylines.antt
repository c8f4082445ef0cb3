-- A line that is drawn segment by segment is drawn step by step: the pattern runs on through its bends, each of which is one step. By induction
-- on the legs: the steps of the first are the first steps of the line, and those after it are the steps of the rest but its first.
-- Assumes nothing.
use Rattle.std.proofs.Common.{◌≡◌, ℕ, ◌+◌, ◌-◌, ◌%◌, ◌<◌, ◌≤◌, Bool, true, false, List, [], ◌∷◌, ◌++◌, sym, refl, ap, ◌∙◌, ap₂, append-nil, zero-add, arith, le-leb}
use borrow.Author.Tests.{lt-leb}
use Rattle.picture.specs.declared.Vertex.{Vertex}
use Rattle.picture.specs.Offer.{Offer}
use Rattle.picture.specs.Draw.{spans}
use Rattle.picture.proofs.Spans.{spans_same, spans_from, spans_none}
use Rattle.line.specs.Segment.{larger, is_set, pattern_at, first_of, from, dash_offers, segment_offers}
use Rattle.line.specs.Polyline.{Leg, leg_kind, styled, segments_offers, steps_of, dot_offers, bend_offers, line_offers}
use Rattle.line.proofs.Loops.{first_low, from_before, from_on}

-- from the same first step on, the same is offered where each step offers the same
first_same : (first : ℕ) (f g : ℕ → List Offer) (k : ℕ) → f k ≡ g k → from first f k ≡ from first g k
unfolding from
first_same first f g k e = rw e

-- steps but for the first
rest_steps : (f : ℕ → List Offer) (n : ℕ) → spans (from 1 f) (n + 1) ≡ spans (λ j. f (1 + j)) n
rest_steps f n =
    ap (spans (from 1 f)) (omega arith)
    ∙ spans_from (from 1 f) 1 n
    ∙ ap (λ (os : List Offer). os ++ spans (λ j. from 1 f (1 + j)) n) (spans_none (from 1 f) 1 (λ k h. from_before 1 f k h))
    ∙ spans_same _ _ n (λ j h. from_on 1 f (1 + j) (omega arith))

-- ---- a leg

module _ (leg : Leg) (before : ℕ) (joined : Bool) (a : Vertex) where
  -- its steps, where the line has made so many before
  abbrev dashes : ℕ → List Offer
  dashes = dash_offers leg.pen leg.rows (leg_kind leg) leg.backing (styled leg before joined) a leg.to

  -- whether it has a ground or not, it offers them, but for its first where it is joined
  leg_dashes : (g : Bool) → leg.backing ≡ g
      → segment_offers leg.pen leg.rows (styled leg before joined) a leg.to ≡ spans (from (first_of joined) dashes) (larger a leg.to + 1)
  unfolding segment_offers
  leg_dashes true e = rw e
  leg_dashes false e = rw e

-- ---- step by step

-- the steps of a line that has made so many before
abbrev bends : ℕ → Vertex → List Leg → ℕ → List Offer
bends before a legs j = bend_offers (pattern_at (before + j)) a legs j

module _ (leg : Leg) (legs : List Leg) (before : ℕ) (joined : Bool) (a : Vertex) where
  -- in its first leg, the steps of a line are the leg's
  bend_within : (j : ℕ) → j ≤ larger a leg.to → dashes leg before joined a j ≡ bends before a (leg ∷ legs) j
  unfolding dash_offers is_set bend_offers dot_offers
  bend_within j h = rw (le-leb j (larger a leg.to) h)

  -- after it, they are those of the rest
  bend_after : (j : ℕ) → bends before a (leg ∷ legs) (larger a leg.to + 1 + j) ≡ bends ((before + larger a leg.to) % 32) leg.to legs (1 + j)
  unfolding bend_offers
  bend_after j =
      let n = larger a leg.to in
      let past : n < n + 1 + j = omega arith in
      let rest : n + 1 + j - n ≡ 1 + j = omega arith in
      let place : (before + (n + 1 + j)) % 32 ≡ ((before + n) % 32 + (1 + j)) % 32 = omega arith in
      rw (lt-leb (n + 1 + j) n past, rest) (ap (λ (p : ℕ). bend_offers (31 - p) leg.to legs (1 + j)) place)

  -- a line of one leg more
  line_more : spans (from (first_of joined) (dashes leg before joined a)) (larger a leg.to + 1)
      ++ spans (from 1 (bends ((before + larger a leg.to) % 32) leg.to legs)) (steps_of leg.to legs + 1)
      ≡ spans (from (first_of joined) (bends before a (leg ∷ legs))) (steps_of a (leg ∷ legs) + 1)
  unfolding steps_of
  line_more =
      ap₂ (λ (p q : List Offer). p ++ q) (spans_same _ _ (larger a leg.to + 1) first)
      (rest_steps (bends ((before + larger a leg.to) % 32) leg.to legs) (steps_of leg.to legs) ∙ spans_same _ _ (steps_of leg.to legs) later)
      ∙ sym (ap (spans whole) (omega arith) ∙ spans_from whole (larger a leg.to + 1) (steps_of leg.to legs))
    where
      whole : ℕ → List Offer
      whole = from (first_of joined) (bends before a (leg ∷ legs))

      first : (k : ℕ) → k < larger a leg.to + 1 → from (first_of joined) (dashes leg before joined a) k ≡ whole k
      first k h = first_same (first_of joined) _ _ k (bend_within k (omega arith))

      later : (j : ℕ) → j < steps_of leg.to legs → bends ((before + larger a leg.to) % 32) leg.to legs (1 + j) ≡ whole (larger a leg.to + 1 + j)
      later j h =
          sym (bend_after j) ∙ sym (from_on (first_of joined) _ (larger a leg.to + 1 + j) (let l = first_low joined in omega (arith, l)))

-- ---- a whole line

-- legs that are joined to a segment before them
line_on : (before : ℕ) (a : Vertex) (legs : List Leg) → segments_offers before true a legs ≡ spans (from 1 (bends before a legs)) (steps_of a legs + 1)
unfolding segments_offers steps_of first_of
line_on before a [] = sym (spans_none _ (0 + 1) (λ k h. from_before 1 _ k h))
line_on before a (leg ∷ legs) =
    ap₂ (λ (p q : List Offer). p ++ q) (leg_dashes leg before true a leg.backing refl) (line_on ((before + larger a leg.to) % 32) leg.to legs)
    ∙ line_more leg legs before true a

-- a line from LX on uses bit 31 − (j mod 32) at its j-th step: before it there is no step, and its first leg is joined to none
pub line_whole : (a : Vertex) (legs : List Leg) → segments_offers 0 false a legs ≡ line_offers a legs
unfolding segments_offers line_offers steps_of first_of bend_offers
line_whole a [] = sym (spans_none _ (0 + 1) (λ k h. refl))
line_whole a (leg ∷ legs) =
    ap₂ (λ (p q : List Offer). p ++ q) (leg_dashes leg 0 false a leg.backing refl) (line_on ((0 + larger a leg.to) % 32) leg.to legs)
    ∙ line_more leg legs 0 false a
    ∙ spans_same _ _ (steps_of a (leg ∷ legs) + 1)
    (λ k h. from_on 0 (bends 0 a (leg ∷ legs)) k (omega arith) ∙ ap (λ (n : ℕ). bend_offers (pattern_at n) a (leg ∷ legs) k) (zero-add k))

-- the first segment of a line is drawn as before: from bit 31 on, both ends with it
pub segment_whole : (leg : Leg) (a : Vertex) → segment_offers leg.pen leg.rows (styled leg 0 false) a leg.to ≡ line_offers a (leg ∷ [])
unfolding segments_offers
segment_whole leg a = sym (append-nil _) ∙ line_whole a (leg ∷ [])
