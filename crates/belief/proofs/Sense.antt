-- What `least`, `earliest`, `last_line` and `intensity` mean, in the order's own words: no depth offered is below the least; where a line offered
-- it, the last such line gives the intensity; where none did and it is below the starting depth, one of the offers has it, the earliest of
-- which gives the intensity. Assumes nothing.
use mathlib.Core.Path.{◌≡◌, refl, sym, ap, ◌∙◌, subst}
use mathlib.Core.Logic.{◌≢◌, ◌⊎◌, inl, inr, ⊎_elim}
use mathlib.Core.Bool.{Bool, true, false, cond, ◌&&◌, true≢false}
use mathlib.Core.List.Memᴰ
use mathlib.Core.List.{List, [], ◌∷◌, ◌++◌, Memᴰ}
use Prim.Native.Nat.{ℕ, min, ◌≤◌, ◌<◌}
use native.Mathlib.Decide.{ℕ_discrete}
use native.Mathlib.Omega.{arith}
use lib.Dec.{eqb}
use borrow.Author.Tests.{lt-ltb, le-ltb, eqb-true, eqb-false, eq-eqb, ne_eqb}
use Rattle.picture.specs.Offer.{Offer}
use Rattle.picture.specs.Picture.{is_edge}
use Rattle.picture.specs.Cell.{Cell, there}
use Rattle.registers.specs.declared.Registers.{Registers}
use Rattle.registers.specs.declared.word.Word.{Word}
use Rattle.refusals.proofs.Refusals.{accepted_when}
use Rattle.machine.specs.Offers.{next_in, offers_at}
use Rattle.machine.proofs.Offers.{offers_refused}
use Rattle.chip.specs.Chip.{chip}
use Rattle.belief.specs.Belief.{least, earliest, last_line, unlined, intensity, Believed}
use Rattle.belief.proofs.Ends.{least_low}

-- no depth offered is below the least
pub least_below : (z : ℕ) (os : List Offer) (o : Offer) → Memᴰ o os → least z os ≤ o.z
unfolding least
least_below z [] o u = absurd (Memᴰ.not-nil u)
least_below z (p ∷ os) o u =
    ⊎_elim (λ e. let low = least_low (min z p.z) os in omega (arith, low, ap (λ (q : Offer). q.z) e)) (λ v. least_below (min z p.z) os o v)
    (Memᴰ.cases_cons u)

-- an offer among others: those before it, and the rest behind it
pub record Amidst (os : List Offer) : Type 0 where
  pub before : List Offer
  pub offer : Offer
  pub rest : List Offer
  pub among : os ≡ before ++ (offer ∷ rest)

-- the first of them
abbrev foremost : (o : Offer) (os : List Offer) → Amidst (o ∷ os)
foremost o os = record { before = []; offer = o; rest = os; among = refl }

-- one behind the first
abbrev behind : (o : Offer) {os : List Offer} → Amidst os → Amidst (o ∷ os)
behind o a = record { before = o ∷ a.before; offer = a.offer; rest = a.rest; among = ap (λ (us : List Offer). o ∷ us) a.among }

-- an offer with a depth, before which none has it; the earliest intensity is its
pub record First (depth : ℕ) (os : List Offer) : Type 0 where
  pub here : Amidst os
  pub has : here.offer.z ≡ depth
  pub none : (o : Offer) → Memᴰ o here.before → o.z ≢ depth
  pub gives : earliest depth os ≡ here.offer.i

-- an offer with another depth does not come before it
first_later : (depth : ℕ) (o : Offer) (os : List Offer) → o.z ≢ depth → First depth os → First depth (o ∷ os)
unfolding earliest
first_later depth o os other f =
    record {
      here = behind o f.here;
      has = f.has;
      none = λ p u. ⊎_elim (λ same e. other (ap (λ (q : Offer). q.z) (sym same) ∙ e)) (λ v. f.none p v) (Memᴰ.cases_cons u);
      gives = rw (ne_eqb o.z depth other) f.gives;
    }

-- a least depth below the starting depth is an offer's
pub least_offered : (z : ℕ) (os : List Offer) → least z os < z → First (least z os) os
unfolding least earliest
least_offered z [] h = absurd (omega (arith, h))
least_offered z (o ∷ os) h = go (ℕ_discrete o.z d) (least_offered (min z o.z) os)
  where
    d : ℕ
    d = least (min z o.z) os

    go : Dec (o.z ≡ d) → (d < min z o.z → First d os) → First d (o ∷ os)
    go (yes e) rest =
        record { here = foremost o os; has = e; none = λ p u. absurd (Memᴰ.not-nil u); gives = rw (eq-eqb o.z d e) }
    go (no e) rest = let low = least_low (min z o.z) os in first_later d o os e (rest (omega (arith, h, low, e)))

-- a line has a depth
abbrev pub Lines : ℕ → Offer → Type 0
Lines depth o = (is_edge o.kind ≡ true) × (o.z ≡ depth)

-- no line has it
abbrev pub Unlined : ℕ → List Offer → Type 0
Unlined depth os = (o : Offer) → Memᴰ o os → Lines depth o → ⊥

-- a line with a depth, after which none has it; the last line's intensity is its
pub record Last (depth : ℕ) (os : List Offer) : Type 0 where
  pub here : Amidst os
  pub has : Lines depth here.offer
  pub none : Unlined depth here.rest
  pub gives : (other : ℕ) → last_line depth os other ≡ here.offer.i

-- without one the intensity is another's
unlined_gives : (depth : ℕ) (os : List Offer) → Unlined depth os → (other : ℕ) → last_line depth os other ≡ other
unfolding last_line
unlined_gives depth [] none other = refl
unlined_gives depth (o ∷ os) none other =
    ap (last_line depth os) (go (is_edge o.kind) (eqb o.z depth) refl refl) ∙ unlined_gives depth os (λ p u. none p (Memᴰ.tail u)) other
  where
    go : (k b : Bool) → is_edge o.kind ≡ k → eqb o.z depth ≡ b → cond (k && b) o.i other ≡ other
    go true true e f = absurd (none o (Memᴰ.head refl) (e, eqb-true _ _ f))
    go true false e f = refl
    go false b e f = refl

-- a depth has a last line, or none
pub last_or_none : (depth : ℕ) (os : List Offer) → Last depth os ⊎ Unlined depth os
unfolding last_line
last_or_none depth [] = inr (λ o u. absurd (Memᴰ.not-nil u))
last_or_none depth (o ∷ os) = ⊎_elim (λ f. inl (later f)) (λ none. go none (is_edge o.kind) (eqb o.z depth) refl refl) (last_or_none depth os)
  where
    later : Last depth os → Last depth (o ∷ os)
    later f =
        record {
          here = behind o f.here;
          has = f.has;
          none = f.none;
          gives = λ other. f.gives (cond (is_edge o.kind && eqb o.z depth) o.i other);
        }

    not_front : Unlined depth os → (Lines depth o → ⊥) → Unlined depth (o ∷ os)
    not_front none h p u = ⊎_elim (λ same. subst (λ (q : Offer). Lines depth q → ⊥) (sym same) h) (none p) (Memᴰ.cases_cons u)

    go : Unlined depth os → (k b : Bool) → is_edge o.kind ≡ k → eqb o.z depth ≡ b → Last depth (o ∷ os) ⊎ Unlined depth (o ∷ os)
    go none true true e f =
        inl
        (record {
          here = foremost o os;
          has = (e, eqb-true _ _ f);
          none = none;
          gives = λ other. rw (e, f) (unlined_gives depth os none o.i);
        })
    go none true false e f = inr (not_front none (λ h. eqb-false o.z depth f h.1))
    go none false b e f = inr (not_front none (λ h. true≢false (sym h.0 ∙ e)))

-- the intensity that no line brings, told by whether the depth is below the starting depth
module _ (depth : ℕ) (start : Cell) (os : List Offer) (none : Unlined depth os) where
  below_start : depth < start.z → intensity depth start os ≡ earliest depth os
  unfolding intensity unlined
  below_start h = unlined_gives depth os none _ ∙ rw (lt-ltb _ _ h)

  not_below : start.z ≤ depth → intensity depth start os ≡ start.i
  unfolding intensity unlined
  not_below h = unlined_gives depth os none _ ∙ rw (le-ltb _ _ h)

lined_gives : (depth : ℕ) (start : Cell) (os : List Offer) (f : Last depth os) → intensity depth start os ≡ f.here.offer.i
unfolding intensity
lined_gives depth start os f = f.gives (unlined depth start os)

-- of a place that ends as is believed
module _ {start end : Cell} {os : List Offer} (b : Believed start os end) where
  -- it ends no farther than it started
  pub ends_low : end.z ≤ start.z
  ends_low = rw b.depth (least_low start.z os)

  -- and no farther than any offer there
  pub ends_below : (o : Offer) → Memᴰ o os → end.z ≤ o.z
  ends_below o u = rw b.depth (least_below start.z os o u)

  by_depth : end.i ≡ intensity end.z start os
  by_depth = b.shown ∙ ap (λ (d : ℕ). intensity d start os) (sym b.depth)

  -- where a line has the depth that it ends with, the starting depth too, the last such line gives the intensity
  pub ends_lined : (f : Last end.z os) → end.i ≡ f.here.offer.i
  ends_lined f = by_depth ∙ lined_gives end.z start os f

  module _ (h : end.z < start.z) where
    -- below the starting depth, an offer has the depth that it ends with
    pub ends_offered : First end.z os
    ends_offered = subst (λ (d : ℕ). First d os) (sym b.depth) (least_offered start.z os (rw b.depth at h))

    -- and where no line has it, the earliest that has it gives the intensity
    pub ends_earliest : Unlined end.z os → end.i ≡ ends_offered.here.offer.i
    ends_earliest none = by_depth ∙ below_start end.z start os none h ∙ ends_offered.gives

  -- otherwise the intensity is unchanged
  pub ends_unchanged : Unlined end.z os → start.z ≤ end.z → end.i ≡ start.i
  ends_unchanged none h = by_depth ∙ not_below end.z start os none h

-- ---- memories of unlike length

-- over them words offer nothing
pub unlike_none : (ni nz at : ℕ) → ni ≢ nz → (ws : List Word) (r : Registers) → offers_at chip ni nz at r ws ≡ []
unfolding offers_at there
unlike_none ni nz at unlike [] r = refl
unlike_none ni nz at unlike (w ∷ ws) r =
    rw (offers_refused chip ni nz r w (λ e. unlike ((accepted_when ni nz r w).0 e).same)) (unlike_none ni nz at unlike ws (next_in chip ni nz r w))
