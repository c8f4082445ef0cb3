-- What is offered of a pixel. Assumes nothing.
use Rattle.std.proofs.Common.{◌≡◌, ℕ, ◌+◌, ◌<◌, ◌≤◌, min, max, Bool, true, false, cond, ◌&&◌, ltb, leb, ◌≢◌, List, [], ◌∷◌, length, get_or, set, sym, refl, ap, ◌∙◌, arith, le-ltb, lt-ltb, eq-eqb, ne_eqb, le-leb, leb-true}
use lib.Seq.{set-get_or}
use Rattle.picture.specs.declared.Pen.{Pen}
use Rattle.picture.specs.declared.Kind.{Kind}
use Rattle.picture.specs.declared.Kind.TheVariants.{Line2}
use Rattle.std.proofs.Common.{Ordering, Less, Equal, Greater, nat_cmp}
use Rattle.picture.specs.Place.{lies_plain, place_of, rows_of, in_memory}
use Rattle.picture.specs.Offer.{Offer, offer, lets_through, in_window, offered, keep}
use Rattle.picture.specs.Picture.{is_deep, compared_of, wins, passes, in_planes, new_i, new_z, Picture, picture, step_at, draw_one, drawn}
use Rattle.picture.specs.Draw.{placed, shown, seen}
use Rattle.ground.proofs.Truth.{both}
use Rattle.picture.proofs.Places.{inside_parts, inside_of, plain_mine, place_below}
use Rattle.picture.proofs.Fold.{drawn_passed}

-- inside the window, the window asks nothing more
pub keep_seen : (pen : Pen) (rows : ℕ) (o : Offer) → in_window pen o.x o.y ≡ true → keep pen rows o ≡ seen pen rows o
unfolding keep offered seen shown
keep_seen pen rows o h = rw h (go (in_memory pen.frame rows o.x o.y) (lets_through pen o.kind o.x o.y))
  where
    go : (m s : Bool) → cond (m && s) (o ∷ []) [] ≡ cond m (cond s (o ∷ []) []) []
    go true s = refl
    go false s = refl

-- outside, nothing is offered
pub keep_out : (pen : Pen) (rows : ℕ) (o : Offer) → in_window pen o.x o.y ≡ false → keep pen rows o ≡ []
unfolding keep offered
keep_out pen rows o h = rw h

-- at most one
pub keep_length : (pen : Pen) (rows : ℕ) (o : Offer) → length (keep pen rows o) ≤ 1
unfolding keep
keep_length pen rows o = go (offered pen rows o)
  where
    go : (b : Bool) → length (cond b (o ∷ []) []) ≤ 1
    go true = omega arith
    go false = omega arith

-- so at most one passes
pub keep_counts : (pen : Pen) (rows : ℕ) (o : Offer) (p : Picture) → (drawn pen (keep pen rows o) p).passed ≤ p.passed + 1
keep_counts pen rows o p = omega (arith, drawn_passed pen (keep pen rows o) p, keep_length pen rows o)

module _ (pen : Pen) (x y : ℕ) where
  -- a pixel between the borders, or on them, is inside the window
  pub window_in : pen.left ≤ x → x ≤ pen.right → pen.bottom ≤ y → y ≤ pen.top → in_window pen x y ≡ true
  unfolding in_window
  window_in a b c d = rw (le-leb _ _ a, le-leb _ _ b, le-leb _ _ c, le-leb _ _ d)

  -- a pixel inside the window lies between the borders, or on them
  pub window_of : in_window pen x y ≡ true → (pen.left ≤ x) × (x ≤ pen.right) × (pen.bottom ≤ y) × (y ≤ pen.top)
  unfolding in_window
  window_of h =
      let k = both (leb pen.left x && leb x pen.right && leb pen.bottom y) (leb y pen.top) h in
      let l = both (leb pen.left x && leb x pen.right) (leb pen.bottom y) k.0 in
      let m = both (leb pen.left x) (leb x pen.right) l.0 in
      (leb-true _ _ m.0, leb-true _ _ m.1, leb-true _ _ l.1, leb-true _ _ k.1)

-- ---- one pixel of a figure, offered or not

module _ (pen : Pen) (rows : ℕ) (kind : Kind) (x y : ℕ) where
  -- an offered pixel is inside the memory
  pub offered_inside : offered pen rows (offer kind x y 0 0) ≡ true → in_memory pen.frame rows x y ≡ true
  unfolding offered
  offered_inside h =
      let k = both (in_window pen x y && in_memory pen.frame rows x y) (lets_through pen kind x y) h in
      (both (in_window pen x y) (in_memory pen.frame rows x y) k.0).1

  -- where a pixel is offered, what an offer does at its place is what is drawn of the pixel
  pub keep_drawn : (i z : ℕ) (p q : Picture) → offered pen rows (offer kind x y 0 0) ≡ true → q ≡ step_at pen kind (place_of pen.frame x y) i z p
      → q ≡ drawn pen (keep pen rows (offer kind x y i z)) p
  unfolding keep offered draw_one drawn
  keep_drawn i z p q h e = rw h e

  -- a pixel that is not offered leaves the picture as it was
  pub keep_left : (i z : ℕ) (p : Picture) → offered pen rows (offer kind x y 0 0) ≡ false → p ≡ drawn pen (keep pen rows (offer kind x y i z)) p
  unfolding keep offered draw_one drawn
  keep_left i z p h = rw h

-- ---- what is stored of a passed pixel

module _ (pen : Pen) (l : List ℕ) (at : ℕ) where
  -- with the I enable on, what a passed pixel leaves in I is its number in the set planes and the old one in the others
  pub store_i : (i v : ℕ) → pen.ienable ≡ true → v ≡ in_planes pen.planes (get_or l at 0) i → set l at v ≡ set l at (new_i pen i (get_or l at 0))
  unfolding new_i
  store_i i v h e = rw (h, e)

  -- with the I enable off, a passed pixel leaves I as it was
  pub keep_i : (i : ℕ) → pen.ienable ≡ false → l ≡ set l at (new_i pen i (get_or l at 0))
  unfolding new_i
  keep_i i h = rw h (sym (set-get_or l at 0))

  -- with the Z enable off, or by a kind without depth, a passed pixel leaves Z as it was
  pub keep_z : (kind : Kind) (z : ℕ) → pen.zenable && is_deep kind ≡ false → l ≡ set l at (new_z pen kind z (get_or l at 0))
  unfolding new_z
  keep_z kind z h = rw h (sym (set-get_or l at 0))

-- a depth that is stored where its enable is on and its kind has depth
pub new_z_is : (pen : Pen) (kind : Kind) (l : List ℕ) (at z : ℕ) {deep : Bool} {l' : List ℕ} → deep ≡ is_deep kind
    → l' ≡ set l at (cond (pen.zenable && deep) z (get_or l at 0)) → l' ≡ set l at (new_z pen kind z (get_or l at 0))
unfolding new_z
new_z_is pen kind l at z e h = rw e at h

-- ---- how depths compare

-- std's comparison of two numbers is that of two depths
pub compared_is : (new old : ℕ) {how : Ordering} → how ≡ nat_cmp new old → how ≡ compared_of new old
unfolding compared_of
compared_is new old e = e

-- a depth below the old one is nearer
pub compared_nearer : (new old : ℕ) → new < old → compared_of new old ≡ Less
unfolding compared_of
compared_nearer new old h = rw (lt-ltb new old h)

-- a depth that is the old one compares as equal
pub compared_equal : (new old : ℕ) → new ≡ old → compared_of new old ≡ Equal
unfolding compared_of
compared_equal new old e = rw (le-ltb new old (omega (arith, e)), eq-eqb new old e)

-- a depth that is neither below the old one nor equal to it is farther
pub compared_farther : (new old : ℕ) → old ≤ new → new ≢ old → compared_of new old ≡ Greater
unfolding compared_of
compared_farther new old h e = rw (le-ltb new old h, ne_eqb new old e)

-- ---- whether a pixel passes

-- where depths are tested and the kind has depth, a pixel passes if its depth wins
pub passes_tested : (pen : Pen) (kind : Kind) (z old : ℕ) → pen.depth && is_deep kind ≡ true → passes pen kind z old ≡ wins kind (compared_of z old)
unfolding passes
passes_tested pen kind z old h = rw h

-- where depths are not tested, or the kind has none, every pixel passes
pub passes_free : (pen : Pen) (kind : Kind) (z old : ℕ) → pen.depth && is_deep kind ≡ false → passes pen kind z old ≡ true
unfolding passes
passes_free pen kind z old h = rw h

-- ---- an offer at a place

module _ (pen : Pen) (kind : Kind) (at i z : ℕ) (p : Picture) where
  -- at a place that both memories have, an offer does what it does there
  pub placed_in : ltb at (length p.i) && ltb at (length p.z) ≡ true → placed pen kind at i z p ≡ step_at pen kind at i z p
  unfolding placed
  placed_in h = rw h

  -- at any other place an offer leaves the picture as it was
  pub placed_out : ltb at (length p.i) && ltb at (length p.z) ≡ false → placed pen kind at i z p ≡ p
  unfolding placed
  placed_out h = rw h

-- an offered pixel, drawn at its place
pub keep_placed : (pen : Pen) (ni nz : ℕ) (kind : Kind) (x y i z at : ℕ) (im zm : List ℕ) (n : ℕ) → length im ≡ ni → length zm ≡ nz
    → offered pen (rows_of pen.frame ni nz) (offer kind x y 0 0) ≡ true → at ≡ place_of pen.frame x y
    → placed pen kind at i z (picture im zm n) ≡ drawn pen (keep pen (rows_of pen.frame ni nz) (offer kind x y i z)) (picture im zm n)
keep_placed pen ni nz kind x y i z at im zm n li lz h e =
    let below = place_below pen.frame ni nz x y (offered_inside pen (rows_of pen.frame ni nz) kind x y h) in
    let within : ltb at (length im) && ltb at (length zm) ≡ true = rw (lt-ltb at (length im) (omega (arith, below.0)), lt-ltb at (length zm) (omega (arith, below.1))) in
    keep_drawn pen (rows_of pen.frame ni nz) kind x y i z (picture im zm n) _ h
    (placed_in pen kind at i z (picture im zm n) within ∙ ap (λ (a : ℕ). step_at pen kind a i z (picture im zm n)) e)

-- where both ends of a box are inside the window and a memory of rows one after the other, so is every pixel of it
pub box_offered : (pen : Pen) (rows : ℕ) → lies_plain pen.frame ≡ true → (ax ay bx by x y : ℕ) (kind : Kind)
    → offered pen rows (offer Line2 ax ay 0 0) ≡ true → offered pen rows (offer Line2 bx by 0 0) ≡ true
    → min ax bx ≤ x → x ≤ max ax bx → min ay by ≤ y → y ≤ max ay by → lets_through pen kind x y ≡ true
    → offered pen rows (offer kind x y 0 0) ≡ true
unfolding offered
box_offered pen rows lies ax ay bx by x y kind p q l r b t s =
    let w = parts ax ay p in
    let v = parts bx by q in
    rw (
      window_in pen x y (omega (arith, w.0, v.0)) (omega (arith, w.1, v.1)) (omega (arith, w.2, v.2)) (omega (arith, w.3, v.3)),
      inside_of pen.frame rows x y (omega (arith, w.4, v.4)) (omega (arith, w.5, v.5)) (plain_mine pen.frame x lies),
    )
    s
  where
    parts : (cx cy : ℕ) → in_window pen cx cy && in_memory pen.frame rows cx cy && true ≡ true
        → (pen.left ≤ cx) × (cx ≤ pen.right) × (pen.bottom ≤ cy) × (cy ≤ pen.top) × (cx < pen.frame.line) × (cy < rows)
    parts cx cy e =
        let m = both (in_window pen cx cy) (in_memory pen.frame rows cx cy) (both (in_window pen cx cy && in_memory pen.frame rows cx cy) true e).0 in
        let w = window_of pen cx cy m.0 in
        let k = inside_parts pen.frame rows cx cy m.1 in
        (w.0, w.1, w.2, w.3, k.0, k.1)
