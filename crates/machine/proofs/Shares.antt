-- Offers and stores to one picture, dealt out to several that hold it together: the offers at place p are those that unit p mod N gets at its place
-- p div N. So they hold it together still, and as many pixels pass. Assumes nothing.
use mathlib.Core.Path.{◌≡◌, refl, sym, ap, ap₂, ◌∙◌, subst}
use mathlib.Core.Logic.{⊎_elim}
use mathlib.Core.Bool.{Bool, true, false, cond, ◌&&◌}
use mathlib.Core.List.Memᴰ
use mathlib.Core.List.{List, [], ◌∷◌, ◌++◌, foldl, Memᴰ}
use Prim.Native.Nat.{ℕ, zero, suc, ◌+◌, ◌/◌, ◌%◌, ◌<◌}
use native.Mathlib.Nat.{mod-lt}
use native.Mathlib.Omega.{arith}
use lib.Dec.{eqb}
use lib.ListN.{length}
use borrow.Author.Tests.{eq-eqb, ne_eqb, eqb-true, eqb-false}
use Rattle.picture.specs.declared.Frame.{Frame}
use Rattle.picture.specs.declared.Pen.{Pen}
use Rattle.picture.specs.Place.{Layout, layout_of, place_of, mine}
use Rattle.picture.specs.Offer.{Offer}
use Rattle.picture.specs.Picture.{passes, Picture, draw_one, drawn}
use Rattle.picture.specs.Draw.{spans}
use Rattle.picture.specs.Cell.{Cell, cell_at, offer_leaves, there}
use Rattle.picture.specs.Store.{Store, site, filled, after_store, stores_at}
use Rattle.picture.proofs.Layouts.{digits_same}
use Rattle.ground.proofs.Truth.{both, same_test}
use Rattle.picture.proofs.Fold.{drawn_nil, drawn_one, drawn_i, drawn_z}
use Rattle.picture.proofs.Cells.{drawn_cell}
use Rattle.picture.proofs.Stores.{filled_cell}
use Rattle.machine.specs.Shares.{held_by, stores_held_by, sum_of}
use Rattle.machine.proofs.Pixels.{Twins, Sized, fold_same, step_sized, step_passed}

-- ---- sums

-- sums of the same terms are the same
pub sum_same : (n : ℕ) (f g : ℕ → ℕ) → ((u : ℕ) → u < n → f u ≡ g u) → sum_of n f ≡ sum_of n g
unfolding sum_of
sum_same zero f g h = refl
sum_same (suc n) f g h = ap₂ ◌+◌ (sum_same n f g (λ u l. h u (omega (arith, l)))) (h n (omega arith))

-- a sum of noughts is 0
pub sum_none : (n : ℕ) → sum_of n (λ (u : ℕ). 0) ≡ 0
unfolding sum_of
sum_none zero = refl
sum_none (suc n) = let h = sum_none n in omega (arith, h)

-- one term grows
sum_grows : (n v d : ℕ) (f g : ℕ → ℕ) → v < n → f v ≡ g v + d → ((u : ℕ) → u < n → (u ≡ v → ⊥) → f u ≡ g u) → sum_of n f ≡ sum_of n g + d
unfolding sum_of
sum_grows zero v d f g l e h = absurd (omega (arith, l))
sum_grows (suc n) v d f g l e h = go (eqb n v) refl (λ k. sum_grows n v d f g (omega (arith, l, k)) e (λ u m. h u (omega (arith, m))))
  where
    go : (b : Bool) → eqb n v ≡ b → ((n ≡ v → ⊥) → sum_of n f ≡ sum_of n g + d) → sum_of n f + f n ≡ sum_of n g + g n + d
    go true q r =
        let k = eqb-true n v q in
        let same = sum_same n f g (λ u m. h u (omega (arith, m)) (λ t. omega (arith, k, t, m))) in
        let last : f n ≡ g n + d = subst (λ (j : ℕ). f j ≡ g j + d) (sym k) e in
        omega (arith, same, last)
    go false q r =
        let k = eqb-false n v q in
        let more = r k in
        let last = h n (omega arith) k in
        omega (arith, more, last)

-- ---- what a layout holds

-- is among what there is
held_member : (k : Layout) (os : List Offer) (o : Offer) → Memᴰ o (held_by k os) → Memᴰ o os
unfolding held_by
held_member k [] o m = m
held_member k (p ∷ os) o m = go (mine k p.x) (held_member k os o) m
  where
    go : (b : Bool) → (Memᴰ o (held_by k os) → Memᴰ o os) → Memᴰ o (cond b (p ∷ held_by k os) (held_by k os)) → Memᴰ o (p ∷ os)
    go true rest u = ⊎_elim (λ e. Memᴰ.head e) (λ v. Memᴰ.tail (rest v)) (Memᴰ.cases_cons u)
    go false rest u = Memᴰ.tail (rest u)

stores_member : (k : Layout) (ss : List Store) (s : Store) → Memᴰ s (stores_held_by k ss) → Memᴰ s ss
unfolding stores_held_by
stores_member k [] s m = m
stores_member k (p ∷ ss) s m = go (mine k p.x) (stores_member k ss s) m
  where
    go : (b : Bool) → (Memᴰ s (stores_held_by k ss) → Memᴰ s ss) → Memᴰ s (cond b (p ∷ stores_held_by k ss) (stores_held_by k ss)) → Memᴰ s (p ∷ ss)
    go true rest u = ⊎_elim (λ e. Memᴰ.head e) (λ v. Memᴰ.tail (rest v)) (Memᴰ.cases_cons u)
    go false rest u = Memᴰ.tail (rest u)

-- of two lists it holds what it holds of each
held_append : (k : Layout) (os ps : List Offer) → held_by k (os ++ ps) ≡ held_by k os ++ held_by k ps
unfolding held_by
held_append k [] ps = refl
held_append k (o ∷ os) ps = go (mine k o.x) (held_append k os ps)
  where
    go : (b : Bool) → held_by k (os ++ ps) ≡ held_by k os ++ held_by k ps
        → cond b (o ∷ held_by k (os ++ ps)) (held_by k (os ++ ps)) ≡ cond b (o ∷ held_by k os) (held_by k os) ++ held_by k ps
    go true e = ap (λ (rest : List Offer). o ∷ rest) e
    go false e = e

-- and so of any number of them
pub held_spans : (k : Layout) (f : ℕ → List Offer) (n : ℕ) → held_by k (spans f n) ≡ spans (λ j. held_by k (f j)) n
unfolding spans held_by
held_spans k f zero = refl
held_spans k f (suc n) = held_append k (spans f n) (f n) ∙ ap (λ (os : List Offer). os ++ held_by k (f n)) (held_spans k f n)

-- a layout that has every column holds all
pub held_all : (k : Layout) → ((x : ℕ) → mine k x ≡ true) → (os : List Offer) → held_by k os ≡ os
unfolding held_by
held_all k every [] = refl
held_all k every (o ∷ os) = rw (every o.x) (ap (λ (rest : List Offer). o ∷ rest) (held_all k every os))

-- and holds all that is to be stored
pub stores_all : (k : Layout) → ((x : ℕ) → mine k x ≡ true) → (ss : List Store) → stores_held_by k ss ≡ ss
unfolding stores_held_by
stores_all k every [] = refl
stores_all k every (s ∷ ss) = rw (every s.x) (ap (λ (rest : List Store). s ∷ rest) (stores_all k every ss))

-- ---- dealing

-- frames of units and of the one deal the pixels that fit: that whose place is p belongs to unit p mod N alone, at place p div N, and both memories have it
pub record Deals (ways n n' : ℕ) (frame : ℕ → Frame) (frame' : Frame) (Fit : ℕ → ℕ → Type 0) : Type 0 where
  pub some : 0 < ways
  pub column : (u x y : ℕ) → u < ways → Fit x y → mine (layout_of (frame u)) x ≡ eqb (place_of frame' x y % ways) u
  pub spot : (u x y : ℕ) → u < ways → Fit x y → place_of (frame u) x y ≡ place_of frame' x y / ways
  pub low : (x y : ℕ) → Fit x y → place_of frame' x y / ways < n
  pub low' : (x y : ℕ) → Fit x y → place_of frame' x y < n'

-- two places are the same where they are so of one unit
same_place : (ways p q : ℕ) → eqb (q % ways) (p % ways) && eqb (q / ways) (p / ways) ≡ eqb q p
same_place ways p q =
    same_test _ _
    (λ e. let s = both (eqb (q % ways) (p % ways)) (eqb (q / ways) (p / ways)) e in eq-eqb q p (digits_same ways (eqb-true _ _ s.1) (eqb-true _ _ s.0)))
    (λ e.
    subst (λ (k : ℕ). eqb (k % ways) (p % ways) && eqb (k / ways) (p / ways) ≡ true) (sym (eqb-true q p e))
    (rw (eq-eqb (p % ways) (p % ways) refl, eq-eqb (p / ways) (p / ways) refl)))

module _ (ways n n' : ℕ) (frame : ℕ → Frame) (frame' : Frame) (Fit : ℕ → ℕ → Type 0) (deals : Deals ways n n' frame frame' Fit) (p : ℕ) where
  abbrev own : Frame
  own = frame (p % ways)

  below : p % ways < ways
  below = mod-lt p deals.some

  dealt_test : (x y : ℕ) → Fit x y → mine (layout_of own) x && eqb (place_of own x y) (p / ways) ≡ eqb (place_of frame' x y) p
  dealt_test x y h =
      ap₂ ◌&&◌ (deals.column (p % ways) x y below h) (ap (λ (k : ℕ). eqb k (p / ways)) (deals.spot (p % ways) x y below h))
      ∙ same_place ways p (place_of frame' x y)

  -- the unit's offers at its place are the one's at p
  there_dealt : (os : List Offer) → ((o : Offer) → Memᴰ o os → Fit o.x o.y) → there own (p / ways) (held_by (layout_of own) os) ≡ there frame' p os
  unfolding there held_by
  there_dealt [] fits = refl
  there_dealt (o ∷ os) fits =
      go (mine (layout_of own) o.x)
      ∙ ap₂ (λ (b : Bool) (rest : List Offer). cond b (o ∷ rest) rest) (dealt_test o.x o.y (fits o (Memᴰ.head refl))) (there_dealt os (λ q m. fits q (Memᴰ.tail m)))
    where
      go : (b : Bool) → there own (p / ways) (cond b (o ∷ held_by (layout_of own) os) (held_by (layout_of own) os))
          ≡ cond (b && eqb (place_of own o.x o.y) (p / ways)) (o ∷ there own (p / ways) (held_by (layout_of own) os)) (there own (p / ways) (held_by (layout_of own) os))
      go true = refl
      go false = refl

module _ (ways n n' : ℕ) (pen : ℕ → Pen) (pen' : Pen) (Fit : ℕ → ℕ → Type 0) (twins : (u : ℕ) → Twins (pen u) pen')
    (deals : Deals ways n n' (λ u. (pen u).frame) pen'.frame Fit)
  where
    abbrev k : ℕ → Layout
    k u = layout_of (pen u).frame

    abbrev Fits : List Offer → Type 0
    Fits os = (o : Offer) → Memᴰ o os → Fit o.x o.y

    abbrev StoresFit : List Store → Type 0
    StoresFit ss = (s : Store) → Memᴰ s ss → Fit s.x s.y

    -- the several, read together, are the one
    abbrev Joined : (ℕ → Picture) → Picture → Type 0
    Joined b q = (p : ℕ) → p / ways < n → p < n' → cell_at (b (p % ways)) (p / ways) ≡ cell_at q p

    within : (b : Picture) (m at : ℕ) → Sized m m b → at < m → (at < length b.i) × (at < length b.z)
    within b m at s h = (subst (λ (j : ℕ). at < j) (sym s.i) h, subst (λ (j : ℕ). at < j) (sym s.z) h)

    module _ (p : ℕ) where
      -- the unit's stores at its place are the one's at p
      stores_dealt : (ss : List Store) → StoresFit ss
          → stores_at (pen (p % ways)) (p / ways) (stores_held_by (k (p % ways)) ss) ≡ stores_at pen' p ss
      unfolding stores_at stores_held_by
      stores_dealt [] fits = refl
      stores_dealt (s ∷ ss) fits =
          go (mine (k (p % ways)) s.x)
          ∙ ap₂ (λ (b : Bool) (rest : List Store). cond b (s ∷ rest) rest) (dealt_test ways n n' (λ u. (pen u).frame) pen'.frame Fit deals p s.x s.y (fits s (Memᴰ.head refl)))
          (stores_dealt ss (λ q m. fits q (Memᴰ.tail m)))
        where
          go : (b : Bool) → stores_at (pen (p % ways)) (p / ways) (cond b (s ∷ stores_held_by (k (p % ways)) ss) (stores_held_by (k (p % ways)) ss))
              ≡ cond (b && eqb (site (pen (p % ways)) s) (p / ways)) (s ∷ stores_at (pen (p % ways)) (p / ways) (stores_held_by (k (p % ways)) ss))
              (stores_at (pen (p % ways)) (p / ways) (stores_held_by (k (p % ways)) ss))
          go true = refl
          go false = refl

      -- offers leave the same at both places
      pub drawn_dealt : (os : List Offer) (b q : Picture) → Sized n n b → Sized n' n' q → Fits os → cell_at b (p / ways) ≡ cell_at q p
          → cell_at (drawn (pen (p % ways)) (held_by (k (p % ways)) os) b) (p / ways) ≡ cell_at (drawn pen' os q) p
      drawn_dealt os b q l l' fits same =
          drawn_cell (pen (p % ways)) (held_by (k (p % ways)) os) b (p / ways)
          (λ o m e.
          let h = fits o (held_member (k (p % ways)) os o m) in
          within b n (p / ways) l
          (subst (λ (j : ℕ). j < n) (sym (deals.spot (p % ways) o.x o.y (mod-lt p deals.some) h) ∙ e) (deals.low o.x o.y h)))
          ∙ ap (foldl (offer_leaves (pen (p % ways))) (cell_at b (p / ways))) (there_dealt ways n n' (λ u. (pen u).frame) pen'.frame Fit deals p os fits)
          ∙ fold_same (offer_leaves (pen (p % ways))) (offer_leaves pen') (twins (p % ways)).leave (there pen'.frame p os) _
          ∙ ap (λ (c : Cell). foldl (offer_leaves pen') c (there pen'.frame p os)) same
          ∙ sym (drawn_cell pen' os q p (λ o m e. within q n' p l' (subst (λ (j : ℕ). j < n') e (deals.low' o.x o.y (fits o m)))))

      -- and so do stores
      pub filled_dealt : (ss : List Store) (b q : Picture) → Sized n n b → Sized n' n' q → StoresFit ss → cell_at b (p / ways) ≡ cell_at q p
          → cell_at (filled (pen (p % ways)) (stores_held_by (k (p % ways)) ss) b) (p / ways) ≡ cell_at (filled pen' ss q) p
      filled_dealt ss b q l l' fits same =
          filled_cell (pen (p % ways)) (stores_held_by (k (p % ways)) ss) b (p / ways)
          (λ s m e.
          let h = fits s (stores_member (k (p % ways)) ss s m) in
          within b n (p / ways) l
          (subst (λ (j : ℕ). j < n) (sym (deals.spot (p % ways) s.x s.y (mod-lt p deals.some) h) ∙ e) (deals.low s.x s.y h)))
          ∙ ap (foldl (after_store (pen (p % ways))) (cell_at b (p / ways))) (stores_dealt ss fits)
          ∙ fold_same (after_store (pen (p % ways))) (after_store pen') (twins (p % ways)).store (stores_at pen' p ss) _
          ∙ ap (λ (c : Cell). foldl (after_store pen') c (stores_at pen' p ss)) same
          ∙ sym (filled_cell pen' ss q p (λ s m e. within q n' p l' (subst (λ (j : ℕ). j < n') e (deals.low' s.x s.y (fits s m)))))

    -- ---- as many pass

    -- what one offer leaves of each
    abbrev given : (ℕ → Picture) → Offer → ℕ → Picture
    given b o u = drawn (pen u) (held_by (k u) (o ∷ [])) (b u)

    given_rest : (b : ℕ → Picture) (o : Offer) (os : List Offer) (u : ℕ) → drawn (pen u) (held_by (k u) (o ∷ os)) (b u) ≡ drawn (pen u) (held_by (k u) os) (given b o u)
    unfolding held_by drawn
    given_rest b o os u = go (mine (k u) o.x)
      where
        go : (t : Bool) → drawn (pen u) (cond t (o ∷ held_by (k u) os) (held_by (k u) os)) (b u) ≡ drawn (pen u) (held_by (k u) os) (drawn (pen u) (cond t (o ∷ []) []) (b u))
        go true = refl
        go false = refl

    given_sized : (b : ℕ → Picture) (o : Offer) (u : ℕ) → Sized n n (b u) → Sized n n (given b o u)
    given_sized b o u s = record { i = drawn_i (pen u) (held_by (k u) (o ∷ [])) (b u) ∙ s.i; z = drawn_z (pen u) (held_by (k u) (o ∷ [])) (b u) ∙ s.z }

    -- one more passes, or none
    abbrev more : Picture → Offer → ℕ
    more q o = cond {A = ℕ} (passes pen' o.kind o.z (cell_at q (place_of pen'.frame o.x o.y)).z) 1 0

    counts : (t : Bool) (m : ℕ) → cond t (m + 1) m ≡ m + cond {A = ℕ} t 1 0
    counts true m = refl
    counts false m = omega arith

    -- the one chip's count goes on by it
    more_one : (q : Picture) (o : Offer) → (draw_one pen' q o).passed ≡ q.passed + more q o
    more_one q o = step_passed pen' q o ∙ counts (passes pen' o.kind o.z (cell_at q (place_of pen'.frame o.x o.y)).z) q.passed

    module _ (b : ℕ → Picture) (q : Picture) (o : Offer) (fit : Fit o.x o.y) (joined : Joined b q) where
      abbrev at : ℕ
      at = place_of pen'.frame o.x o.y

      abbrev owner : ℕ
      owner = at % ways

      owner_low : owner < ways
      owner_low = mod-lt at deals.some

      -- so does that of the unit to which the pixel belongs
      more_owner : (given b o owner).passed ≡ (b owner).passed + more q o
      unfolding held_by
      more_owner =
          rw (deals.column owner o.x o.y owner_low fit ∙ eq-eqb owner owner refl)
          (ap (λ (c : Picture). c.passed) (drawn_one (pen owner) o (b owner))
          ∙ step_passed (pen owner) (b owner) o
          ∙ ap (λ (t : Bool). cond t ((b owner).passed + 1) (b owner).passed)
          ((twins owner).pass o.kind o.z _
          ∙ ap (λ (c : Cell). passes pen' o.kind o.z c.z)
          (ap (cell_at (b owner)) (deals.spot owner o.x o.y owner_low fit) ∙ joined at (deals.low o.x o.y fit) (deals.low' o.x o.y fit)))
          ∙ counts (passes pen' o.kind o.z (cell_at q at).z) (b owner).passed)

      -- those of the others stay
      more_other : (u : ℕ) → u < ways → (u ≡ owner → ⊥) → (given b o u).passed ≡ (b u).passed
      unfolding held_by
      more_other u l other =
          rw (deals.column u o.x o.y l fit ∙ ne_eqb owner u (λ e. other (sym e))) (ap (λ (c : Picture). c.passed) (drawn_nil (pen u) (b u)))

      more_all : sum_of ways (λ u. (given b o u).passed) ≡ sum_of ways (λ u. (b u).passed) + more q o
      more_all = sum_grows ways owner (more q o) (λ u. (given b o u).passed) (λ u. (b u).passed) owner_low more_owner more_other

    -- together they count what the one counts
    pub count_dealt : (os : List Offer) (b : ℕ → Picture) (q : Picture) → ((u : ℕ) → u < ways → Sized n n (b u)) → Sized n' n' q → Fits os → Joined b q
        → sum_of ways (λ u. (drawn (pen u) (held_by (k u) os) (b u)).passed) + q.passed ≡ (drawn pen' os q).passed + sum_of ways (λ u. (b u).passed)
    unfolding drawn held_by
    count_dealt [] b q l l' fits joined = omega arith
    count_dealt (o ∷ os) b q l l' fits joined =
        let first = fits o (Memᴰ.head refl) in
        let one = more_one q o in
        let all = more_all b q o first joined in
        let same = sum_same ways (λ u. (drawn (pen u) (held_by (k u) (o ∷ os)) (b u)).passed) (λ u. (drawn (pen u) (held_by (k u) os) (given b o u)).passed) (λ u m. ap (λ (c : Picture). c.passed) (given_rest b o os u)) in
        let rest = count_dealt os (given b o) (draw_one pen' q o) (λ u m. given_sized b o u (l u m)) (step_sized pen' n' n' q o l') (λ a m. fits a (Memᴰ.tail m))
        (λ p h h'.
        drawn_dealt p (o ∷ []) (b (p % ways)) q (l (p % ways) (mod-lt p deals.some)) l' (λ a m. subst (λ (c : Offer). Fit c.x c.y) (sym (Memᴰ.eq_of_singleton m)) first) (joined p h h')
        ∙ ap (λ (c : Picture). cell_at c p) (drawn_one pen' o q)) in
        omega (arith, one, all, same, rest)
