-- What stands at a place in the end does not depend on the order of its offers, nor on any other place. The least of some depths is the same in
-- any order, and where no two share a depth the earliest offer of that depth, and the last line's, is the only one. Assumes nothing.
use mathlib.Core.Path.{◌≡◌, refl, sym, ap, ap₂, ◌∙◌}
use mathlib.Core.Logic.{◌≢◌, ∥∥₁_elim}
use mathlib.Core.HLevel.{¬_prop}
use mathlib.Core.Bool.{Bool, true, false, cond, ◌&&◌}
use mathlib.Core.List.{List, [], ◌∷◌, map, Mem, mem-cons_self, mem-cons_of_mem}
use mathlib.Core.List.Perm
use mathlib.Core.List.Permᴰ
use mathlib.Core.List.{Perm, Permᴰ}
use mathlib.Core.List.Pairwise
use mathlib.Core.List.{Pairwise}
use Prim.Native.Nat.{ℕ, min}
use native.Mathlib.Nat.{ℕ_set}
use native.Mathlib.Omega.{arith}
use lib.Dec.{eqb, ltb}
use lib.ListN.{length}
use borrow.Author.Tests.{ltb-false, eqb-true, ne_eqb}
use Rattle.picture.specs.Offer.{Offer}
use Rattle.picture.specs.Picture.{is_edge}
use Rattle.picture.specs.Cell.{Cell}
use Rattle.registers.specs.declared.Registers.{Registers}
use Rattle.registers.specs.declared.word.Word.{Word}
use Rattle.registers.specs.Record.{reset_as}
use Rattle.registers.specs.Word.{word_of}
use Rattle.machine.specs.Machine.{Memories, memories}
use Rattle.machine.specs.Touched.{cell_in}
use Rattle.machine.specs.Offers.{cell_after}
use Rattle.machine.proofs.Offers.{all_cell}
use Rattle.chip.specs.Chip.{chip}
use Rattle.chip.specs.Demands.{Ended}
use Rattle.chip.proofs.Laws.{inside}
use Rattle.belief.specs.Belief.{words_taken, offers_of, least, earliest, last_line, unlined, intensity, Believable, AfterCalls}
use Rattle.belief.specs.Order.{SameThere, left_by, AfterBoth, numbers_of, Drawn, drawn_of, Apart, Reordered, Agrees, AnyOrder, AlikeAt, NoOtherPlace}
use Rattle.belief.proofs.Ends.{least_low}
use Rattle.belief.proofs.Demand3.{stream_left, calls_leave, demand_3}

-- ---- the least and the earliest, told by the offers' numbers alone

least_in : ℕ → List Cell → ℕ
least_in z [] = z
least_in z (o ∷ os) = least_in (min z o.z) os

earliest_in : ℕ → List Cell → ℕ
earliest_in d [] = 0
earliest_in d (o ∷ os) = cond (eqb o.z d) o.i (earliest_in d os)

least_in_lem : (z : ℕ) (os : List Offer) → least z os ≡ least_in z (map numbers_of os)
unfolding least least_in
least_in_lem z [] = refl
least_in_lem z (o ∷ os) = least_in_lem (min z o.z) os

earliest_in_lem : (d : ℕ) (os : List Offer) → earliest d os ≡ earliest_in d (map numbers_of os)
unfolding earliest earliest_in
earliest_in_lem d [] = refl
earliest_in_lem d (o ∷ os) = ap (λ (r : ℕ). cond (eqb o.z d) o.i r) (earliest_in_lem d os)

-- the last line's, told by the offers' numbers and whether a line brings them
last_in : ℕ → List Drawn → ℕ → ℕ
last_in d [] other = other
last_in d (o ∷ os) other = last_in d os (cond (o.line && eqb o.numbers.z d) o.numbers.i other)

last_in_lem : (d : ℕ) (os : List Offer) (other : ℕ) → last_line d os other ≡ last_in d (map drawn_of os) other
unfolding last_line last_in
last_in_lem d [] other = refl
last_in_lem d (o ∷ os) other = last_in_lem d os (cond (is_edge o.kind && eqb o.z d) o.i other)

-- no two share a depth, whether lines bring them or not
abbrev ApartDrawn : List Drawn → Type 0
ApartDrawn os = Pairwise (λ (o : Drawn) (p : Drawn). o.numbers.z ≢ p.numbers.z) os

drawn_apart : (os : List Offer) → Apart (map numbers_of os) → ApartDrawn (map drawn_of os)
drawn_apart os n =
    Pairwise.map' {S = λ (o : Drawn) (p : Drawn). o.numbers.z ≢ p.numbers.z} drawn_of (λ a b. ¬_prop) {l = os}
    (Pairwise.of_map' {S = λ (o : Cell) (p : Cell). o.z ≢ p.z} numbers_of {l = os} n)

-- ---- the same up to order

least_perm : {ts us : List Cell} → Permᴰ ts us → (z : ℕ) → least_in z ts ≡ least_in z us
unfolding least_in
least_perm Permᴰ.nil z = refl
least_perm (Permᴰ.cons {a = a} {l₂ = us} e d) z = least_perm d (min z a.z) ∙ ap (λ (t : Cell). least_in (min z t.z) us) e
least_perm (Permᴰ.swap {l = l} e f) z =
    let g = ap (λ (t : Cell). t.z) e in
    let h = ap (λ (t : Cell). t.z) f in
    ap (λ (k : ℕ). least_in k l) (omega arith)
least_perm (Permᴰ.trans d f) z = least_perm d z ∙ least_perm f z

-- of two neighbours of other depths, which comes first does not matter
swapped : (a b : Cell) (d r : ℕ) → a.z ≢ b.z
    → cond (eqb a.z d) a.i (cond (eqb b.z d) b.i r) ≡ cond (eqb b.z d) b.i (cond (eqb a.z d) a.i r)
swapped a b d r n = go (eqb a.z d) (eqb b.z d) refl refl
  where
    go : (p q : Bool) → eqb a.z d ≡ p → eqb b.z d ≡ q → cond p a.i (cond q b.i r) ≡ cond q b.i (cond p a.i r)
    go true true e f = absurd (n (eqb-true _ _ e ∙ sym (eqb-true _ _ f)))
    go true false e f = refl
    go false true e f = refl
    go false false e f = refl

earliest_perm : {ts us : List Cell} → Permᴰ ts us → Apart ts → (d : ℕ) → earliest_in d ts ≡ earliest_in d us
unfolding earliest_in
earliest_perm Permᴰ.nil n d = refl
earliest_perm (Permᴰ.cons e p) (Pairwise.cons h n) d = ap₂ (λ (t : Cell) (r : ℕ). cond (eqb t.z d) t.i r) e (earliest_perm p n d)
earliest_perm (Permᴰ.swap {a = a} {b = b} {l = l} e f) (Pairwise.cons h n) d =
    swapped a b d (earliest_in d l) (h b mem-cons_self)
    ∙ ap₂ (λ (t u : Cell). cond (eqb t.z d) t.i (cond (eqb u.z d) u.i (earliest_in d l))) f e
earliest_perm (Permᴰ.trans p q) n d =
    earliest_perm p n d ∙ earliest_perm q (Permᴰ.pairwise {R = λ (t : Cell) (u : Cell). t.z ≢ u.z} (λ a b. ¬_prop) (λ x y k e. k (sym e)) p n) d

last_perm : {ts us : List Drawn} → Permᴰ ts us → ApartDrawn ts → (d r : ℕ) → last_in d ts r ≡ last_in d us r
unfolding last_in
last_perm Permᴰ.nil n d r = refl
last_perm (Permᴰ.cons {a = a} {l₂ = us} e p) (Pairwise.cons h n) d r =
    last_perm p n d (cond (a.line && eqb a.numbers.z d) a.numbers.i r)
    ∙ ap (λ (t : Drawn). last_in d us (cond (t.line && eqb t.numbers.z d) t.numbers.i r)) e
last_perm (Permᴰ.swap {a = a} {b = b} {l = l} e f) (Pairwise.cons h n) d r =
    ap (last_in d l) (go a.line (eqb a.numbers.z d) b.line (eqb b.numbers.z d) refl refl)
    ∙ ap₂ (λ (t u : Drawn). last_in d l (cond (u.line && eqb u.numbers.z d) u.numbers.i (cond (t.line && eqb t.numbers.z d) t.numbers.i r))) f e
  where
    go : (k p m q : Bool) → eqb a.numbers.z d ≡ p → eqb b.numbers.z d ≡ q
        → cond (m && q) b.numbers.i (cond (k && p) a.numbers.i r) ≡ cond (k && p) a.numbers.i (cond (m && q) b.numbers.i r)
    go true true true true x y = absurd (h b mem-cons_self (eqb-true _ _ x ∙ sym (eqb-true _ _ y)))
    go true true true false x y = refl
    go true true false q x y = refl
    go true false m q x y = refl
    go false p m q x y = refl
last_perm (Permᴰ.trans p q) n d r =
    last_perm p n d r
    ∙ last_perm q (Permᴰ.pairwise {R = λ (t : Drawn) (u : Drawn). t.numbers.z ≢ u.numbers.z} (λ a b. ¬_prop) (λ x y k e. k (sym e)) p n) d r

-- ---- where no two share a depth, the last line's tells no more than the earliest's

-- a depth that none has
none_last : (d : ℕ) (os : List Offer) (r : ℕ) → ((t : Cell) → Mem t (map numbers_of os) → d ≢ t.z) → last_line d os r ≡ r
unfolding last_line
none_last d [] r h = refl
none_last d (o ∷ os) r h = ap (last_line d os) (go (is_edge o.kind)) ∙ none_last d os r (λ t u. h t (mem-cons_of_mem (numbers_of o) u))
  where
    go : (b : Bool) → cond (b && eqb o.z d) o.i r ≡ r
    go true = rw (ne_eqb o.z d (λ e. h (numbers_of o) mem-cons_self (sym e)))
    go false = refl

-- a depth that one may have
lone_last : (d : ℕ) (os : List Offer) → Apart (map numbers_of os) → last_line d os (earliest d os) ≡ earliest d os
unfolding last_line earliest
lone_last d [] n = refl
lone_last d (o ∷ os) (Pairwise.cons h n) = go (is_edge o.kind) (eqb o.z d) refl (lone_last d os n)
  where
    go : (k b : Bool) → eqb o.z d ≡ b → last_line d os (earliest d os) ≡ earliest d os
        → last_line d os (cond (k && b) o.i (cond b o.i (earliest d os))) ≡ cond b o.i (earliest d os)
    go true true e rest = none_last d os o.i (λ t u q. h t u (eqb-true _ _ e ∙ q))
    go false true e rest = none_last d os o.i (λ t u q. h t u (eqb-true _ _ e ∙ q))
    go true false e rest = rest
    go false false e rest = rest

-- and none has the starting depth: no line is asked
lone_shown : (c : Cell) (os : List Offer) → Apart (c ∷ map numbers_of os) → intensity (least c.z os) c os ≡ unlined (least c.z os) c os
unfolding intensity unlined
lone_shown c os (Pairwise.cons h n) = go (ltb (least c.z os) c.z) refl
  where
    go : (b : Bool) → ltb (least c.z os) c.z ≡ b
        → last_line (least c.z os) os (cond b (earliest (least c.z os) os) c.i) ≡ cond b (earliest (least c.z os) os) c.i
    go true e = lone_last (least c.z os) os n
    go false e =
        let same : least c.z os ≡ c.z = omega (arith, least_low c.z os, ltb-false (least c.z os) c.z e) in
        none_last (least c.z os) os c.i (λ t u q. h t u (sym same ∙ q))

-- ---- offers of the same numbers up to order

module _ (os us : List Offer) (same : Perm (map numbers_of os) (map numbers_of us)) where
  least_any : (z : ℕ) → least z os ≡ least z us
  least_any z = least_in_lem z os ∙ ∥∥₁_elim same (ℕ_set _ _) (λ q. least_perm q z) ∙ sym (least_in_lem z us)

  unlined_any : (c : Cell) → Apart (map numbers_of os) → unlined (least c.z os) c os ≡ unlined (least c.z us) c us
  unfolding unlined
  unlined_any c apart =
      let d = least c.z us in
      ap (λ (k : ℕ). cond (ltb k c.z) (earliest k os) c.i) (least_any c.z)
      ∙ ap (λ (k : ℕ). cond (ltb d c.z) k c.i) (earliest_in_lem d os ∙ ∥∥₁_elim same (ℕ_set _ _) (λ q. earliest_perm q apart d) ∙ sym (earliest_in_lem d us))

  -- none has the starting depth
  shown_any : (c : Cell) → Apart (c ∷ map numbers_of os) → intensity (least c.z os) c os ≡ intensity (least c.z us) c us
  shown_any c apart =
      lone_shown c os apart
      ∙ unlined_any c (Pairwise.of_cons apart)
      ∙ sym (lone_shown c us (Perm.pairwise {R = λ (t : Cell) (u : Cell). t.z ≢ u.z} (λ a b. ¬_prop) (λ x y k e. k (sym e)) (Perm.cons c same) apart))

  -- lines bring the same of them
  drawn_any : (c : Cell) → Apart (map numbers_of os) → Perm (map drawn_of os) (map drawn_of us)
      → intensity (least c.z os) c os ≡ intensity (least c.z us) c us
  unfolding intensity
  drawn_any c apart lines =
      let d = least c.z us in
      ap (λ (k : ℕ). last_line k os (unlined (least c.z os) c os)) (least_any c.z)
      ∙ ap (last_line d os) (unlined_any c apart)
      ∙ last_in_lem d os (unlined d c us)
      ∙ ∥∥₁_elim lines (ℕ_set _ _) (λ q. last_perm q (drawn_apart os apart) d (unlined d c us))
      ∙ sym (last_in_lem d us (unlined d c us))

-- ---- two runs

-- of two runs of which demand 3 holds
agrees : (r s : Registers) (ws vs : List Word) (m n left other : Memories) (at : ℕ) → Believable r ws m left → Believable s vs n other
    → Reordered r s ws vs m n at → Agrees r s ws vs m n at left other
agrees r s ws vs m n left other at b c k =
    let p = b k.one at in
    let q = c k.other at in
    let os = offers_of r (length m.i) (length m.z) ws at in
    let us = offers_of s (length n.i) (length n.z) vs at in
    let end = ap (λ (t : Cell). intensity (least t.z us) t us) k.start ∙ sym q.shown in
    record {
      depth = p.depth ∙ least_any os us k.same (cell_in m at).z ∙ ap (λ (t : Cell). least t.z us) k.start ∙ sym q.depth;
      shown = λ apart. p.shown ∙ shown_any os us k.same (cell_in m at) apart ∙ end;
      drawn = λ apart lines. p.shown ∙ drawn_any os us k.same (cell_in m at) apart lines ∙ end;
    }

-- calls of `step` leave what their words leave, so what is so of two runs of words is so of both rows of calls
both_leave : (So : Memories → Memories → Type 0) (r s : Registers) (numbers others : List ℕ) (m n : Memories)
    → So (left_by r (map word_of numbers) m) (left_by s (map word_of others) n) → AfterBoth So r s numbers others m n
both_leave So r s numbers others m n so =
    calls_leave (λ left. AfterCalls (So left) s others n) numbers r m (calls_leave (So (left_by r (map word_of numbers) m)) others s n so)

-- under demand 3's premises the order of a place's offers does not matter, in whatever layout each run draws
pub any_order : (layout other : ℕ) → AnyOrder layout other
any_order layout other =
    let r = reset_as layout in
    let s = reset_as other in
    let words_agree : (numbers others : List ℕ) (m n : Memories) (at : ℕ) → Reordered r s (map word_of numbers) (map word_of others) m n at
    → Agrees r s (map word_of numbers) (map word_of others) m n at (left_by r (map word_of numbers) m) (left_by s (map word_of others) n) =
    λ numbers others m n at.
    agrees r s (map word_of numbers) (map word_of others) m n (left_by r (map word_of numbers) m) (left_by s (map word_of others) n) at
    ((demand_3 layout).words numbers m) ((demand_3 other).words others n) in
    record {
      words = words_agree;
      calls = λ numbers others m n at k.
          both_leave (Agrees r s (map word_of numbers) (map word_of others) m n at) r s numbers others m n (words_agree numbers others m n at k);
      streams = λ bytes others i z j y o p at.
          agrees r s (words_taken r (length i) (length z) bytes) (words_taken s (length j) (length y) others) (memories i z) (memories j y)
          (memories o.i_left o.z_left) (memories p.i_left p.z_left) at ((demand_3 layout).streams bytes i z o) ((demand_3 other).streams others j y p);
    }

-- ---- one place

words_alike : (ws : List Word) (r : Registers) (m n : Memories) (at : ℕ) → AlikeAt at m n → SameThere at (left_by r ws m) (left_by r ws n)
words_alike ws r m n at k =
    all_cell chip inside at ws r m
    ∙ ap₂ (λ (a b : ℕ). cell_after chip a b at r ws (cell_in m at)) k.i_length k.z_length
    ∙ ap (cell_after chip (length n.i) (length n.z) at r ws) k.numbers
    ∙ sym (all_cell chip inside at ws r n)

-- over memories of the same lengths a stream takes the same words
streams_alike : (start : Registers) (bytes i z j y : List ℕ) (o : Ended start bytes i z) (p : Ended start bytes j y) (at : ℕ)
    → AlikeAt at (memories i z) (memories j y) → SameThere at (memories o.i_left o.z_left) (memories p.i_left p.z_left)
streams_alike start bytes i z j y o p at k =
    ap (λ (m : Memories). cell_in m at) (stream_left start bytes i z o)
    ∙ words_alike (words_taken start (length i) (length z) bytes) start (memories i z) (memories j y) at k
    ∙ ap₂ (λ (a b : ℕ). cell_in (left_by start (words_taken start a b bytes) (memories j y)) at) k.i_length k.z_length
    ∙ ap (λ (m : Memories). cell_in m at) (sym (stream_left start bytes j y p))

-- what words leave at a place depends on the words, the lengths and that place's two starting numbers, and on no other place
pub no_other_place : NoOtherPlace
no_other_place =
    record {
      words = words_alike;
      calls = λ numbers r m n at k. both_leave (SameThere at) r r numbers numbers m n (words_alike (map word_of numbers) r m n at k);
      streams = streams_alike;
    }
