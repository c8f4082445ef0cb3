-- A loop over the steps of a segment: what holds before step k, that a step keeps it, and what it says after the last. f is what each step
-- offers, with so many rows in use, and nothing is offered before the first step that is drawn. Assumes nothing.
use Rattle.std.proofs.Common.{◌≡◌, ℕ, ◌+◌, ◌/◌, ◌^◌, ◌<◌, ◌≤◌, min, Bool, true, false, cond, ◌||◌, ltb, List, [], length, sym, refl, ap, ◌∙◌, true≢false, arith, le-ltb, lt-ltb}
use Rattle.picture.specs.declared.Pen.{Pen}
use Rattle.picture.specs.declared.Kind.{Kind}
use Rattle.picture.specs.declared.Vertex.{Vertex}
use Rattle.picture.specs.Place.{rows_of}
use Rattle.picture.specs.Offer.{Offer, offer, offered, keep}
use Rattle.picture.specs.Draw.{carried_one, spans}
use Rattle.picture.specs.Picture.{is_deep, picture, drawn}
use Rattle.picture.proofs.Spans.{Reached, reached_start, reached_add, reached_end, reached_i, reached_z}
use Rattle.picture.proofs.Rows.{carried_start, carried_next, carried_at}
use Rattle.line.specs.declared.Mode.{Mode}
use Rattle.line.specs.declared.Mode.TheVariants.{Zero, One, Two}
use Rattle.line.specs.declared.Style.{Style}
use Rattle.line.specs.declared.slope.Slope.{Slope}
use Rattle.line.specs.declared.walk.Walk.{Walk}
use Rattle.line.specs.declared.walk.Step.{Step}
use Rattle.line.specs.declared.pattern.Ink.{Ink}
use Rattle.line.specs.declared.slope.Pixel.{Pixel}
use Rattle.line.specs.Segment.{larger, number_at, x_at, y_at, is_set, first_of, from, dash_offers, shade_offers, step_offers, kind_of}
use Rattle.line.specs.Step.{slope_of, step_pixel, OnStep}
use Rattle.line.specs.Ink.{ink, has_ground, ink_of, joined_in}
use Rattle.line.specs.Walk.{Carries, Stands, start_of, next_of, OnWalk, Numbers, Reaches}
use Rattle.line.proofs.Segments.{smaller_le}
use Rattle.line.proofs.Rounding.{number_side}

-- ---- what is carried

-- at step 0, and a step on
pub begins : (w : Walk) → w.side.first < 2 ^ 64 → w.i.first < 2 ^ 64 → w.z.first < 2 ^ 64 → Stands w (start_of w)
begins w s i z = record { side = carried_start w.side s; i = carried_start w.i i; z = carried_start w.z z }

-- where a walk of single steps stands at a step, it stands at the next one with what a step adds
pub stands_next : (w : Walk) (p : Step) → w.stride ≡ 1 → Stands w p → Stands w (next_of w p)
stands_next w p e h =
    rw e
    (record {
      side = carried_next w.side.first w.side.add p.k _ p.side h.side refl;
      i = carried_next w.i.first w.i.add p.k _ p.i h.i refl;
      z = carried_next w.z.first w.z.add p.k _ p.z h.z refl;
    })

-- where a walk stands, it tells the side
module _ {deep : Bool} {a b : Vertex} {s : Slope} {w : Walk} {p : Step} (on : OnStep a b s p.k) (c : Carries deep a b s w) (h : Stands w p) where
  -- what is carried to a step of the segment tells how far that moves to the side
  pub on_walk : OnWalk a b s p
  on_walk =
      let m : s.m ≤ s.n = rw on.slope (smaller_le a b) in
      record {
        on = on;
        side = carried_at w.side p.k p.side h.side ∙ c.side.told p.k on.step ∙ number_side s.n s.m p.k on.step m;
      }

  -- and the numbers
  pub on_numbers : Numbers deep a b s p
  on_numbers =
      record {
        i = λ d. carried_at w.i p.k p.i h.i ∙ (c.i d).told p.k on.step;
        z = λ d. carried_at w.z p.k p.z h.z ∙ (c.z d).told p.k on.step;
      }

-- ---- the loop

-- the rows in use of the memories that a loop starts with
abbrev rows : Pen → List ℕ → List ℕ → ℕ
rows pen i z = rows_of pen.frame (length i) (length z)

-- a loop at step p, its first or a later one, has drawn what f has for the steps before, passed no more pixels than these, and carries what stands at p
pub record Walked (pen : Pen) (f : ℕ → ℕ → List Offer) (first : ℕ) (deep : Bool) (a b : Vertex) (s : Slope) (w : Walk) (n : ℕ) (i₀ z₀ i z : List ℕ) (p : Step) (passed : ℕ) : Type 0 where
  pub so_far_lem : Reached pen (f (rows pen i₀ z₀)) i₀ z₀ i z passed (min p.k (n + 1))
  pub slope : s ≡ slope_of a b
  pub last : n ≡ s.n
  pub small : n ≤ 65535
  pub count : passed ≤ p.k
  pub begun : first ≤ p.k
  pub carries : Carries deep a b s w
  pub stands : Stands w p

module _ {pen : Pen} {f : ℕ → ℕ → List Offer} {first : ℕ} {deep : Bool} {a b : Vertex} {s : Slope} {w : Walk} {n : ℕ} {i₀ z₀ : List ℕ} where
  -- a loop may start at its first step with nothing counted, where f has nothing before it
  pub walked_start : {p : Step} → ((j : ℕ) → j < first → f (rows pen i₀ z₀) j ≡ []) → first ≤ 1 → s ≡ slope_of a b → n ≡ s.n → n ≤ 65535
      → Carries deep a b s w → Stands w p × (p.k ≡ first) → Walked pen f first deep a b s w n i₀ z₀ i₀ z₀ p 0
  walked_start {p} q u e l h c t =
      record {
        so_far_lem = reached_start (λ j b. q j (omega (arith, t.1)));
        slope = e;
        last = l;
        small = h;
        count = omega arith;
        begun = omega (arith, t.1);
        carries = c;
        stands = t.0;
      }

  module _ {i z : List ℕ} {p : Step} {passed : ℕ} (h : Walked pen f first deep a b s w n i₀ z₀ i z p passed) where
    walked_step_on : p.k ≤ n → OnStep a b s p.k
    walked_step_on l = record { slope = h.slope; step = rw h.last at l }

    -- up to the last step, the one that a loop is at is a step of the segment, and its side is told
    pub walked_on : p.k ≤ n → OnWalk a b s p
    walked_on l = on_walk (walked_step_on l) h.carries h.stands

    -- so it is one that is drawn, or that would be if it had ink
    pub walked_reaches : {style : Style} → first ≡ first_of (joined_in style style.mode) → p.k ≤ n → Reaches style deep s a b p
    walked_reaches e l =
        record { walk = walked_on l; numbers = on_numbers (walked_step_on l) h.carries h.stands; begun = rw e at h.begun }

    -- a loop keeps the rows in use
    pub walked_rows : rows pen i z ≡ rows pen i₀ z₀
    walked_rows = rw (reached_i h.so_far_lem, reached_z h.so_far_lem)

    -- from a step that is drawn to another, with nothing offered between the two
    pub walked_next : {j q : List ℕ} {m : ℕ} {r : Step} → p.k ≤ n → picture j q m ≡ drawn pen (f (rows pen i z) p.k) (picture i z 0) → m ≤ 1
        → Stands w r → p.k < r.k → ((k : ℕ) → p.k < k → k < r.k → k ≤ n → f (rows pen i₀ z₀) k ≡ [])
        → Walked pen f first deep a b s w n i₀ z₀ j q r (passed + m)
    walked_next {r = r} l d c t u v =
        let e : min p.k (n + 1) ≡ p.k = omega arith in
        record {
          so_far_lem =
              record {
                so = reached_end (min r.k (n + 1)) (reached_add (rw e at h.so_far_lem) (rw walked_rows at d)) (omega arith) (λ k x y. v k (omega arith) (omega arith) (omega arith));
              };
          slope = h.slope;
          last = h.last;
          small = h.small;
          count = omega (arith, h.count);
          begun = omega (arith, h.begun);
          carries = h.carries;
          stands = t;
        }

    -- to the next step
    pub walked_step : {j q : List ℕ} {m : ℕ} {r : Step} → p.k ≤ n → picture j q m ≡ drawn pen (f (rows pen i z) p.k) (picture i z 0) → m ≤ 1
        → r ≡ next_of w p → Walked pen f first deep a b s w n i₀ z₀ j q r (passed + m)
    walked_step l d c e =
        rw e
        (walked_next l d c (stands_next w p h.carries.single h.stands) (omega (arith, h.carries.single)) (λ k x y g. absurd (omega (arith, x, y, h.carries.single))))

    -- past the last step, all that f has for the steps of the segment is drawn
    pub walked_end : n < p.k → picture i z passed ≡ drawn pen (spans (f (rows pen i₀ z₀)) (larger a b + 1)) (picture i₀ z₀ 0)
    walked_end l =
        let e : min p.k (n + 1) ≡ larger a b + 1 = omega (arith, h.last, ap (λ (s : Slope). s.n) h.slope) in
        rw e at h.so_far_lem.so

-- ---- the steps from a first one on

-- it is 0 or 1
pub first_low : (joined : Bool) → first_of joined ≤ 1
unfolding first_of
first_low true = omega arith
first_low false = omega arith

-- before the first nothing is offered
pub from_before : (first : ℕ) (f : ℕ → List Offer) (k : ℕ) → k < first → from first f k ≡ []
unfolding from
from_before first f k h = rw (lt-ltb k first h)

-- from it on each step offers what it does
pub from_on : (first : ℕ) (f : ℕ → List Offer) (k : ℕ) → first ≤ k → from first f k ≡ f k
unfolding from
from_on first f k h = rw (le-ltb k first h)

-- ---- what a step offers

-- the ink, by whether lines of the mode have depths, and a ground
pub ink_deep : (style : Style) (m : Mode) (set : Bool) (i z : ℕ) → is_deep (kind_of m) ≡ true → ink true i z ≡ ink_of style m set i z
ink_deep style Zero set i z e = absurd (true≢false (sym e))
ink_deep style One set i z e = absurd (true≢false (sym e))
ink_deep style Two set i z e = refl

-- without depths a step has the colour of its pattern bit, and is drawn where the bit is set or the mode has a ground
pub ink_flat : (style : Style) (m : Mode) (set : Bool) (i z : ℕ) → is_deep (kind_of m) ≡ false
    → ink (set || has_ground m) (cond set style.foreground style.background) 0 ≡ ink_of style m set i z
ink_flat style Zero true i z e = refl
ink_flat style Zero false i z e = refl
ink_flat style One true i z e = refl
ink_flat style One false i z e = refl
ink_flat style Two set i z e = absurd (true≢false e)

module _ (pen : Pen) (rows : ℕ) (style : Style) (a b : Vertex) where
  -- before the first step that is drawn nothing is
  pub before_first : (m : Mode) (j : ℕ) → j < first_of (joined_in style m) → step_offers pen rows style m a b j ≡ []
  unfolding first_of
  before_first Zero j h = from_before (first_of style.joined) (dash_offers pen rows _ true style a b) j h
  before_first One j h = from_before (first_of style.joined) (dash_offers pen rows _ false style a b) j h
  before_first Two j h = absurd (omega arith)

  -- nor is what is not offered
  pub hidden_step : (m : Mode) (k : ℕ) → offered pen rows (offer (kind_of m) (x_at a b k) (y_at a b k) 0 0) ≡ false → step_offers pen rows style m a b k ≡ []
  unfolding from dash_offers shade_offers keep offered
  hidden_step Zero k e = rw e (go (ltb k (first_of style.joined)) (is_set style k))
    where
      go : (t u : Bool) → cond {A = List Offer} t [] (cond u [] []) ≡ []
      go true u = refl
      go false true = refl
      go false false = refl
  hidden_step One k e = rw e (go (ltb k (first_of style.joined)) (is_set style k))
    where
      go : (t u : Bool) → cond {A = List Offer} t [] (cond u [] []) ≡ []
      go true u = refl
      go false true = refl
      go false false = refl
  hidden_step Two k e = rw e

  module _ (k : ℕ) (set : Bool) (i z : ℕ) (e : set ≡ is_set style k) where
    abbrev at : ℕ → List Offer
    at colour = keep pen rows (offer (kind_of Zero) (x_at a b k) (y_at a b k) colour 0)

    abbrev at_one : ℕ → List Offer
    at_one colour = keep pen rows (offer (kind_of One) (x_at a b k) (y_at a b k) colour 0)

    -- a step with ink offers its pixel
    pub ink_drawn : (m : Mode) → first_of (joined_in style m) ≤ k
        → (is_deep (kind_of m) ≡ true → i ≡ number_at (larger a b) k a.i b.i) → (is_deep (kind_of m) ≡ true → z ≡ number_at (larger a b) k a.z b.z)
        → (ink_of style m set i z).drawn ≡ true
        → keep pen rows (offer (kind_of m) (x_at a b k) (y_at a b k) (ink_of style m set i z).i (ink_of style m set i z).z) ≡ step_offers pen rows style m a b k
    unfolding dash_offers shade_offers
    ink_drawn Zero l hi hz d = rw (from_on (first_of style.joined) (dash_offers pen rows (kind_of Zero) true style a b) k l, ← e) (go set)
      where
        go : (set : Bool) → at (cond set style.foreground style.background) ≡ cond set (at style.foreground) (at style.background)
        go true = refl
        go false = refl
    ink_drawn One l hi hz d = rw (from_on (first_of style.joined) (dash_offers pen rows (kind_of One) false style a b) k l, ← e) (go set d)
      where
        go : (set : Bool) → set ≡ true → at_one (cond set style.foreground style.background) ≡ cond set (at_one style.foreground) []
        go true h = refl
        go false h = absurd (true≢false (sym h))
    ink_drawn Two l hi hz d = rw (hi refl, hz refl)

    -- and one without nothing
    pub ink_none : (m : Mode) → first_of (joined_in style m) ≤ k → (ink_of style m set i z).drawn ≡ false → step_offers pen rows style m a b k ≡ []
    unfolding dash_offers
    ink_none Zero l d = absurd (true≢false d)
    ink_none One l d = rw (from_on (first_of style.joined) (dash_offers pen rows (kind_of One) false style a b) k l, ← e, d)
    ink_none Two l d = absurd (true≢false d)

  -- by the pixel, the kind and the ink that were computed
  module _ (s : Slope) (p : Step) (q : Pixel) (kind : Kind) (ink : Ink) where
    -- a step with ink offers its pixel, with the two numbers of the ink
    pub inked_step : Reaches style (is_deep (kind_of style.mode)) s a b p → q ≡ step_pixel a b p.k → kind ≡ kind_of style.mode
        → ink ≡ ink_of style style.mode (is_set style p.k) (p.i / carried_one) (p.z / carried_one) → ink.drawn ≡ true
        → keep pen rows (offer kind q.x q.y ink.i ink.z) ≡ step_offers pen rows style style.mode a b p.k
    inked_step on eq ek ei d =
        rw (eq, ek, ei)
        (ink_drawn p.k (is_set style p.k) (p.i / carried_one) (p.z / carried_one) refl style.mode on.begun
        (λ t. on.numbers.i t ∙ ap (λ (s : Slope). number_at s.n p.k a.i b.i) on.walk.on.slope)
        (λ t. on.numbers.z t ∙ ap (λ (s : Slope). number_at s.n p.k a.z b.z) on.walk.on.slope)
        (sym (ap (λ (i : Ink). i.drawn) ei) ∙ d))

  -- a step whose computed ink is not drawn offers nothing
  pub blank_step : (p : Step) (ink : Ink) → first_of (joined_in style style.mode) ≤ p.k
      → ink ≡ ink_of style style.mode (is_set style p.k) (p.i / carried_one) (p.z / carried_one) → ink.drawn ≡ false
      → step_offers pen rows style style.mode a b p.k ≡ []
  blank_step p ink t ei d =
      ink_none p.k (is_set style p.k) (p.i / carried_one) (p.z / carried_one) refl style.mode t (sym (ap (λ (i : Ink). i.drawn) ei) ∙ d)
