-- What drawing leaves at a pixel, wherever it lies: what the offers and the stores of that pixel leave. So two pictures that are the same pixel by
-- pixel, each in a frame of its own, stay the same under the same offers and stores, and as many pixels pass. Assumes nothing.
use mathlib.Core.Path.{◌≡◌, refl, sym, ap, ap₂, ◌∙◌, subst}
use mathlib.Core.Bool.{Bool, true, false, cond, ◌&&◌}
use mathlib.Core.List.Memᴰ
use mathlib.Core.List.{List, [], ◌∷◌, foldl, Memᴰ}
use Prim.Native.Nat.{ℕ, ◌+◌, ◌<◌}
use lib.Dec.{eqb}
use lib.ListN.{length, get_or, set}
use borrow.Author.Tests.{eq-eqb, eqb-true}
use Rattle.picture.specs.declared.Frame.{Frame}
use Rattle.picture.specs.declared.Pen.{Pen}
use Rattle.picture.specs.declared.Kind.{Kind}
use Rattle.picture.specs.Place.{place_of, rows_of, in_memory}
use Rattle.picture.specs.Offer.{Offer, on_pixel}
use Rattle.picture.specs.Picture.{passes, new_i, new_z, Picture, picture, step_at, draw_one, drawn}
use Rattle.picture.specs.Cell.{Cell, cell_at, offer_leaves, there}
use Rattle.picture.specs.Store.{Store, filled, after_store, stores_at}
use Rattle.ground.proofs.Truth.{both, same_test}
use Rattle.picture.proofs.Places.{place_below, place_apart}
use Rattle.picture.proofs.Fold.{step_i, step_z, drawn_one}
use Rattle.picture.proofs.Cells.{drawn_cell}
use Rattle.picture.proofs.Stores.{filled_cell}
use Rattle.machine.specs.Alike.{stores_on, SamePixels}

-- ---- the offers of a pixel are those at its place

module _ (frame : Frame) (ni nz x y : ℕ) (h : in_memory frame (rows_of frame ni nz) x y ≡ true) where
  same_pixel : (u v : ℕ) → in_memory frame (rows_of frame ni nz) u v ≡ true → eqb (place_of frame u v) (place_of frame x y) ≡ eqb u x && eqb v y
  same_pixel u v k =
      same_test _ _
      (λ e. let s = place_apart frame ni nz u v x y k h (eqb-true _ _ e) in rw (eq-eqb _ _ s.0, eq-eqb _ _ s.1))
      (λ e. let s = both (eqb u x) (eqb v y) e in eq-eqb _ _ (ap₂ (place_of frame) (eqb-true _ _ s.0) (eqb-true _ _ s.1)))

  there_pixel : (os : List Offer) → ((o : Offer) → Memᴰ o os → in_memory frame (rows_of frame ni nz) o.x o.y ≡ true)
      → there frame (place_of frame x y) os ≡ on_pixel x y os
  unfolding there on_pixel
  there_pixel [] held = refl
  there_pixel (o ∷ os) held =
      ap₂ (λ (b : Bool) (rest : List Offer). cond b (o ∷ rest) rest) (same_pixel o.x o.y (held o (Memᴰ.head refl))) (there_pixel os (λ q m. held q (Memᴰ.tail m)))

-- and so are its stores
stores_pixel : (pen : Pen) (ni nz x y : ℕ) → in_memory pen.frame (rows_of pen.frame ni nz) x y ≡ true
    → (ss : List Store) → ((s : Store) → Memᴰ s ss → in_memory pen.frame (rows_of pen.frame ni nz) s.x s.y ≡ true)
    → stores_at pen (place_of pen.frame x y) ss ≡ stores_on x y ss
unfolding stores_at stores_on
stores_pixel pen ni nz x y h [] held = refl
stores_pixel pen ni nz x y h (s ∷ ss) held =
    ap₂ (λ (b : Bool) (rest : List Store). cond b (s ∷ rest) rest) (same_pixel pen.frame ni nz x y h s.x s.y (held s (Memᴰ.head refl)))
    (stores_pixel pen ni nz x y h ss (λ q m. held q (Memᴰ.tail m)))

-- what offers inside leave at a pixel inside
pub pixel_cell : (pen : Pen) (ni nz : ℕ) (os : List Offer) (p : Picture) → length p.i ≡ ni → length p.z ≡ nz
    → ((o : Offer) → Memᴰ o os → in_memory pen.frame (rows_of pen.frame ni nz) o.x o.y ≡ true)
    → (x y : ℕ) → in_memory pen.frame (rows_of pen.frame ni nz) x y ≡ true
    → cell_at (drawn pen os p) (place_of pen.frame x y) ≡ foldl (offer_leaves pen) (cell_at p (place_of pen.frame x y)) (on_pixel x y os)
pixel_cell pen ni nz os p li lz held x y h =
    drawn_cell pen os p (place_of pen.frame x y)
    (λ o m e.
    let b = place_below pen.frame ni nz o.x o.y (held o m) in
    (subst (λ (k : ℕ). k < length p.i) e (subst (λ (n : ℕ). place_of pen.frame o.x o.y < n) (sym li) b.0), subst (λ (k : ℕ). k < length p.z) e (subst (λ (n : ℕ). place_of pen.frame o.x o.y < n) (sym lz) b.1)))
    ∙ ap (foldl (offer_leaves pen) (cell_at p (place_of pen.frame x y))) (there_pixel pen.frame ni nz x y h os held)

-- and what stores inside leave there
pub store_cell : (pen : Pen) (ni nz : ℕ) (ss : List Store) (p : Picture) → length p.i ≡ ni → length p.z ≡ nz
    → ((s : Store) → Memᴰ s ss → in_memory pen.frame (rows_of pen.frame ni nz) s.x s.y ≡ true)
    → (x y : ℕ) → in_memory pen.frame (rows_of pen.frame ni nz) x y ≡ true
    → cell_at (filled pen ss p) (place_of pen.frame x y) ≡ foldl (after_store pen) (cell_at p (place_of pen.frame x y)) (stores_on x y ss)
store_cell pen ni nz ss p li lz held x y h =
    filled_cell pen ss p (place_of pen.frame x y)
    (λ s m e.
    let b = place_below pen.frame ni nz s.x s.y (held s m) in
    (subst (λ (k : ℕ). k < length p.i) e (subst (λ (n : ℕ). place_of pen.frame s.x s.y < n) (sym li) b.0), subst (λ (k : ℕ). k < length p.z) e (subst (λ (n : ℕ). place_of pen.frame s.x s.y < n) (sym lz) b.1)))
    ∙ ap (foldl (after_store pen) (cell_at p (place_of pen.frame x y))) (stores_pixel pen ni nz x y h ss held)

-- ---- two pens that do the same with an offer and with a store, wherever they lie

-- with either pen the same depths pass, and an offer and a store leave the same of the two numbers at a place
pub record Twins (pen pen' : Pen) : Type 0 where
  pub pass : (kind : Kind) (z old : ℕ) → passes pen kind z old ≡ passes pen' kind z old
  pub leave : (c : Cell) (o : Offer) → offer_leaves pen c o ≡ offer_leaves pen' c o
  pub store : (c : Cell) (s : Store) → after_store pen c s ≡ after_store pen' c s

-- two folds that do the same at each element are the same
pub fold_same : {A : Type 0} (f g : Cell → A → Cell) → ((c : Cell) (o : A) → f c o ≡ g c o) → (os : List A) (c : Cell) → foldl f c os ≡ foldl g c os
fold_same f g h [] c = refl
fold_same f g h (o ∷ os) c = ap (λ (d : Cell). foldl f d os) (h c o) ∙ fold_same f g h os (g c o)

-- what holds of an offer's pixel holds of each of a list of it alone
one_held : (frame : Frame) (rows : ℕ) (o : Offer) → in_memory frame rows o.x o.y ≡ true → (q : Offer) → Memᴰ q (o ∷ []) → in_memory frame rows q.x q.y ≡ true
one_held frame rows o h q m = subst (λ (k : Offer). in_memory frame rows k.x k.y ≡ true) (sym (Memᴰ.eq_of_singleton m)) h

-- how many have passed after one offer
pub step_passed : (pen : Pen) (p : Picture) (o : Offer)
    → (draw_one pen p o).passed ≡ cond (passes pen o.kind o.z (cell_at p (place_of pen.frame o.x o.y)).z) (p.passed + 1) p.passed
unfolding draw_one step_at
step_passed pen p o = go (passes pen o.kind o.z (get_or p.z (place_of pen.frame o.x o.y) 0)) (new_i pen o.i (get_or p.i (place_of pen.frame o.x o.y) 0)) (new_z pen o.kind o.z (get_or p.z (place_of pen.frame o.x o.y) 0))
  where
    go : (b : Bool) (i z : ℕ) → (cond b (picture (set p.i (place_of pen.frame o.x o.y) i) (set p.z (place_of pen.frame o.x o.y) z) (p.passed + 1)) p).passed ≡ cond b (p.passed + 1) p.passed
    go true i z = refl
    go false i z = refl

-- a picture of two lengths
pub record Sized (ni nz : ℕ) (p : Picture) : Type 0 where
  pub i : length p.i ≡ ni
  pub z : length p.z ≡ nz

-- an offer leaves the lengths
pub step_sized : (pen : Pen) (ni nz : ℕ) (p : Picture) (o : Offer) → Sized ni nz p → Sized ni nz (draw_one pen p o)
step_sized pen ni nz p o s = record { i = step_i pen p o ∙ s.i; z = step_z pen p o ∙ s.z }

module _ (pen pen' : Pen) (twins : Twins pen pen') (rows ni nz ni' nz' : ℕ) (is : rows_of pen.frame ni nz ≡ rows) (is' : rows_of pen'.frame ni' nz' ≡ rows)
    (inside : (x y : ℕ) → in_memory pen.frame rows x y ≡ true → in_memory pen'.frame rows x y ≡ true)
  where
    abbrev Same : Picture → Picture → Type 0
    Same p p' = SamePixels pen.frame pen'.frame rows p p'

    abbrev Held : List Offer → Type 0
    Held os = (o : Offer) → Memᴰ o os → in_memory pen.frame rows o.x o.y ≡ true

    here : (x y : ℕ) → in_memory pen.frame rows x y ≡ true → in_memory pen.frame (rows_of pen.frame ni nz) x y ≡ true
    here x y h = subst (λ (k : ℕ). in_memory pen.frame k x y ≡ true) (sym is) h

    here' : (x y : ℕ) → in_memory pen.frame rows x y ≡ true → in_memory pen'.frame (rows_of pen'.frame ni' nz') x y ≡ true
    here' x y h = subst (λ (k : ℕ). in_memory pen'.frame k x y ≡ true) (sym is') (inside x y h)

    -- the same offers leave the same pictures
    pub drawn_same : (os : List Offer) (p p' : Picture) → Sized ni nz p → Sized ni' nz' p' → Held os → Same p p' → Same (drawn pen os p) (drawn pen' os p')
    drawn_same os p p' l l' held same x y h =
        pixel_cell pen ni nz os p l.i l.z (λ o m. here o.x o.y (held o m)) x y (here x y h)
        ∙ fold_same (offer_leaves pen) (offer_leaves pen') twins.leave (on_pixel x y os) _
        ∙ ap (λ (c : Cell). foldl (offer_leaves pen') c (on_pixel x y os)) (same x y h)
        ∙ sym (pixel_cell pen' ni' nz' os p' l'.i l'.z (λ o m. here' o.x o.y (held o m)) x y (here' x y h))

    -- and so do the same stores
    pub filled_same : (ss : List Store) (p p' : Picture) → Sized ni nz p → Sized ni' nz' p'
        → ((s : Store) → Memᴰ s ss → in_memory pen.frame rows s.x s.y ≡ true) → Same p p' → Same (filled pen ss p) (filled pen' ss p')
    filled_same ss p p' l l' held same x y h =
        store_cell pen ni nz ss p l.i l.z (λ s m. here s.x s.y (held s m)) x y (here x y h)
        ∙ fold_same (after_store pen) (after_store pen') twins.store (stores_on x y ss) _
        ∙ ap (λ (c : Cell). foldl (after_store pen') c (stores_on x y ss)) (same x y h)
        ∙ sym (store_cell pen' ni' nz' ss p' l'.i l'.z (λ s m. here' s.x s.y (held s m)) x y (here' x y h))

    step_same : (o : Offer) (p p' : Picture) → Sized ni nz p → Sized ni' nz' p' → Held (o ∷ []) → Same p p' → Same (draw_one pen p o) (draw_one pen' p' o)
    step_same o p p' l l' held same =
        subst (λ (q : Picture). Same q (draw_one pen' p' o)) (drawn_one pen o p)
        (subst (λ (q : Picture). Same (drawn pen (o ∷ []) p) q) (drawn_one pen' o p') (drawn_same (o ∷ []) p p' l l' held same))

    step_count : (o : Offer) (p p' : Picture) → in_memory pen.frame rows o.x o.y ≡ true → Same p p' → p.passed ≡ p'.passed
        → (draw_one pen p o).passed ≡ (draw_one pen' p' o).passed
    step_count o p p' h same e =
        step_passed pen p o
        ∙ ap₂ (λ (b : Bool) (n : ℕ). cond b (n + 1) n)
        (twins.pass o.kind o.z _ ∙ ap (λ (c : Cell). passes pen' o.kind o.z c.z) (same o.x o.y h)) e
        ∙ sym (step_passed pen' p' o)

    -- and as many pass
    pub drawn_count : (os : List Offer) (p p' : Picture) → Sized ni nz p → Sized ni' nz' p' → Held os → Same p p' → p.passed ≡ p'.passed
        → (drawn pen os p).passed ≡ (drawn pen' os p').passed
    unfolding drawn
    drawn_count [] p p' l l' held same e = e
    drawn_count (o ∷ os) p p' l l' held same e =
        let first = held o (Memᴰ.head refl) in
        drawn_count os (draw_one pen p o) (draw_one pen' p' o) (step_sized pen ni nz p o l) (step_sized pen' ni' nz' p' o l') (λ q m. held q (Memᴰ.tail m))
        (step_same o p p' l l' (one_held pen.frame rows o first) same)
        (step_count o p p' first same e)
