-- What words leave at a place, refused ones among them, follows from the words, the lengths of the memories and the two numbers that stood
-- there: it is what the offers made there leave of them. Assumes nothing.
use mathlib.Core.Path.{◌≡◌, refl, sym, ap, ap₂, ◌∙◌, subst}
use mathlib.Core.Logic.{◌≢◌, ⊎_elim}
use mathlib.Core.Bool.{Bool, true, false, cond}
use mathlib.Core.List.Memᴰ
use mathlib.Core.List.{List, [], ◌∷◌, foldl, foldl-append, Memᴰ}
use Prim.Native.Nat.{ℕ, ◌+◌, ◌%◌, ◌^◌, ◌<◌}
use native.Mathlib.Omega.{arith}
use lib.Dec.{eqb}
use lib.ListN.{length}
use borrow.Author.Tests.{eq-eqb, ne_eqb}
use Rattle.picture.specs.Place.{place_of, rows_of}
use Rattle.picture.specs.Offer.{Offer}
use Rattle.picture.specs.Picture.{picture, drawn}
use Rattle.picture.specs.Store.{Store, site, after_store, stores_at}
use Rattle.picture.proofs.Stores.{filled_cell}
use Rattle.picture.proofs.Fold.{drawn_i, drawn_z}
use Rattle.picture.specs.Cell.{Cell, offer_leaves, there}
use Rattle.ground.proofs.Truth.{both}
use Rattle.picture.proofs.Places.{place_below}
use Rattle.picture.proofs.Cells.{drawn_cell, there_member}
use Rattle.machine.specs.Run.{Ran, ran, run_from}
use Rattle.machine.specs.Machine.{Machine, Memories, rows_in, number_of, step_of}
use Rattle.machine.specs.Touched.{cell_in}
use Rattle.machine.specs.Promises.{StaysInside}
use Rattle.machine.specs.Offers.{state, all_of, next_in, offers_in, offers_there, stores_in, cell_by, registers_in, offers_at, cell_after, taken_of, each_in}
use Rattle.machine.proofs.Runs.{zero_or_not, stays, advance_accepted, advance_refused}
use Rattle.machine.proofs.Steps.{step_either, step_number}
use Rattle.machine.proofs.Kept.{step_length_i, step_length_z}

-- ---- a word, over memories of two lengths

module _ (M : Machine) (ni nz : ℕ) (r : M.Registers) (w : M.Word) where
  module _ (e : M.refusal ni nz r w ≡ 0) where
    -- an accepted word goes on to the next registers
    pub next_accepted : next_in M ni nz r w ≡ M.next r w
    unfolding next_in
    next_accepted = rw (eq-eqb _ _ e)

    -- and offers what the machine says
    pub offers_accepted : offers_in M ni nz r w ≡ M.offers (rows_of (M.pen r).frame ni nz) r w
    unfolding offers_in
    offers_accepted = rw (eq-eqb _ _ e)

    -- and stores what the machine says
    pub stores_accepted : stores_in M ni nz r w ≡ M.stores (rows_of (M.pen r).frame ni nz) r w
    unfolding stores_in
    stores_accepted = rw (eq-eqb _ _ e)

  module _ (e : M.refusal ni nz r w ≢ 0) where
    -- a refused word leaves the registers
    pub next_refused : next_in M ni nz r w ≡ r
    unfolding next_in
    next_refused = rw (ne_eqb _ _ e)

    -- and offers nothing
    pub offers_refused : offers_in M ni nz r w ≡ []
    unfolding offers_in
    offers_refused = rw (ne_eqb _ _ e)

    -- and stores nothing
    pub stores_refused : stores_in M ni nz r w ≡ []
    unfolding stores_in
    stores_refused = rw (ne_eqb _ _ e)

  -- what every accepted word keeps of the registers, a word keeps
  pub next_keeps : (P : M.Registers → Type 0) → (M.refusal ni nz r w ≡ 0 → P (M.next r w)) → P r → P (next_in M ni nz r w)
  next_keeps P yea p = zero_or_not (M.refusal ni nz r w) (λ e. rw (next_accepted e) (yea e)) (λ e. rw (next_refused e) p)

-- ---- a word, over memories

module _ (M : Machine) (r : M.Registers) (w : M.Word) (m : Memories) where
  -- the registers after it go by the lengths
  pub step_registers : (step_of M r w m).registers ≡ next_in M (length m.i) (length m.z) r w
  step_registers =
      step_either M r w m (λ o. o.registers ≡ next_in M (length m.i) (length m.z) r w) (λ e. sym (next_accepted M _ _ r w e)) (λ e. sym (next_refused M _ _ r w e))

  -- of a machine that draws inside, both memories have the place of each offer
  offer_below : StaysInside M → (o : Offer) → Memᴰ o (M.offers (rows_in M r m) r w)
      → (place_of (M.pen r).frame o.x o.y < length m.i) × (place_of (M.pen r).frame o.x o.y < length m.z)
  offer_below inside o u =
      place_below (M.pen r).frame (length m.i) (length m.z) o.x o.y (inside.at (rows_in M r m) r w o u)

  store_below : StaysInside M → (s : Store) → Memᴰ s (M.stores (rows_in M r m) r w) → (site (M.pen r) s < length m.i) × (site (M.pen r) s < length m.z)
  store_below inside s u =
      place_below (M.pen r).frame (length m.i) (length m.z) s.x s.y (inside.stores (rows_in M r m) r w s u)

  -- and what a word leaves at a place is what its offers and its stores there leave
  pub step_cell : StaysInside M → (at : ℕ)
      → cell_in (step_of M r w m).memories at ≡ cell_by M (length m.i) (length m.z) at r w (cell_in m at)
  unfolding there stores_at
  step_cell inside at =
      step_either M r w m (λ o. cell_in o.memories at ≡ left (offers_in M (length m.i) (length m.z) r w) (stores_in M (length m.i) (length m.z) r w))
      (λ e.
      let p = drawn (M.pen r) (M.offers (rows_in M r m) r w) (picture m.i m.z 0) in
      filled_cell (M.pen r) (M.stores (rows_in M r m) r w) p at
      (λ s u same.
      let k = subst (λ (k : ℕ). (k < length m.i) × (k < length m.z)) same (store_below inside s u) in
      (rw (drawn_i (M.pen r) (M.offers (rows_in M r m) r w) (picture m.i m.z 0)) k.0, rw (drawn_z (M.pen r) (M.offers (rows_in M r m) r w) (picture m.i m.z 0)) k.1))
      ∙ ap (λ (c : Cell). foldl (after_store (M.pen r)) c (stores_at (M.pen r) at (M.stores (rows_in M r m) r w)))
      (drawn_cell (M.pen r) (M.offers (rows_in M r m) r w) (picture m.i m.z 0) at
      (λ o u same. subst (λ (k : ℕ). (k < length m.i) × (k < length m.z)) same (offer_below inside o u)))
      ∙ ap₂ left (sym (offers_accepted M _ _ r w e)) (sym (stores_accepted M _ _ r w e)))
      (λ e. ap₂ left (sym (offers_refused M _ _ r w e)) (sym (stores_refused M _ _ r w e)))
    where
      left : List Offer → List Store → Cell
      left os ss = foldl (after_store (M.pen r)) (foldl (offer_leaves (M.pen r)) (cell_in m at) (there (M.pen r).frame at os)) (stores_at (M.pen r) at ss)

-- ---- all of some words

module _ (M : Machine) where
  -- the registers after them go by the lengths
  pub all_registers : (ws : List M.Word) (r : M.Registers) (m : Memories)
      → (all_of (step_of M) r ws m).registers ≡ registers_in M (length m.i) (length m.z) r ws
  unfolding registers_in
  all_registers [] r m = refl
  all_registers (w ∷ ws) r m =
      let o = step_of M r w m in
      all_registers ws o.registers o.memories
      ∙ ap₂ (λ (a b : ℕ). registers_in M a b o.registers ws) (step_length_i M r w m) (step_length_z M r w m)
      ∙ ap (λ (q : M.Registers). registers_in M (length m.i) (length m.z) q ws) (step_registers M r w m)

  -- of a machine that draws inside, what they leave at a place depends on the words, the lengths and what stood there, and on no other place
  pub all_cell : StaysInside M → (at : ℕ) (ws : List M.Word) (r : M.Registers) (m : Memories)
      → cell_in (all_of (step_of M) r ws m).memories at ≡ cell_after M (length m.i) (length m.z) at r ws (cell_in m at)
  unfolding cell_after
  all_cell inside at [] r m = refl
  all_cell inside at (w ∷ ws) r m =
      let o = step_of M r w m in
      all_cell inside at ws o.registers o.memories
      ∙ ap₂ (λ (a b : ℕ). cell_after M a b at o.registers ws (cell_in o.memories at)) (step_length_i M r w m) (step_length_z M r w m)
      ∙ ap₂ (λ (q : M.Registers) (c : Cell). cell_after M (length m.i) (length m.z) at q ws c) (step_registers M r w m) (step_cell M r w m inside at)

  -- a run has taken some words more, and leaves what all of them leave
  pub record Took (vs : List M.Word) (k : ℕ) (r : M.Registers) (m : Memories) (b : Ran M.Registers Memories) : Type 0 where
    pub index : b.index ≡ k + length vs
    pub left : state b.registers b.memories ≡ all_of (step_of M) r vs m

  -- a run that stops took the words before the first refused one
  pub run_taken : (ws : List M.Word) (k s : ℕ) (r : M.Registers) (m : Memories)
      → Took (taken_of M (length m.i) (length m.z) r ws) k r m (run_from (step_of M) (ran 0 k s r m) ws)
  unfolding taken_of
  run_taken [] k s r m = record { index = omega arith; left = refl }
  run_taken (w ∷ ws) k s r m =
      let o = step_of M r w m in
      let number = step_number M r w m in
      zero_or_not (number_of M r w m)
      (λ e.
      let same : taken_of M (length o.memories.i) (length o.memories.z) o.registers ws ≡ taken_of M (length m.i) (length m.z) (M.next r w) ws =
      ap₂ (λ (a b : ℕ). taken_of M a b o.registers ws) (step_length_i M r w m) (step_length_z M r w m)
      ∙ ap (λ (q : M.Registers). taken_of M (length m.i) (length m.z) q ws) (step_registers M r w m ∙ next_accepted M _ _ r w e) in
      let rest = run_taken ws (k + 1) ((s + o.passed) % 2 ^ 64) o.registers o.memories in
      rw (eq-eqb _ _ e, advance_accepted (step_of M) (ran 0 k s r m) w refl (number ∙ e))
      (record {
        index = omega (arith, rest.index, ap length same);
        left = rest.left ∙ ap (λ (vs : List M.Word). all_of (step_of M) o.registers vs o.memories) same;
      }))
      (λ e.
      let stops : o.refusal ≢ 0 = λ none. e (sym number ∙ none) in
      rw (ne_eqb _ _ e, advance_refused (step_of M) (ran 0 k s r m) w refl stops, stays (step_of M) ws (ran o.refusal k s r m) stops)
      (record { index = omega arith; left = refl }))

  -- the words before the first refused one are among the words
  pub taken_member : (ni nz : ℕ) (ws : List M.Word) (r : M.Registers) (v : M.Word) → Memᴰ v (taken_of M ni nz r ws) → Memᴰ v ws
  unfolding taken_of
  taken_member ni nz [] r v u = u
  taken_member ni nz (w ∷ ws) r v u = go (eqb (M.refusal ni nz r w) 0) (taken_member ni nz ws (M.next r w) v) u
    where
      go : (b : Bool) → (Memᴰ v (taken_of M ni nz (M.next r w) ws) → Memᴰ v ws) → Memᴰ v (cond b (w ∷ taken_of M ni nz (M.next r w) ws) [])
          → Memᴰ v (w ∷ ws)
      go true rest t = ⊎_elim (λ e. Memᴰ.head e) (λ h. Memᴰ.tail (rest h)) (Memᴰ.cases_cons t)
      go false rest t = absurd (Memᴰ.not-nil t)

-- ---- where each offer does the same whatever the pen

-- two ways to take offers that do the same with each of them
fold_alike : (f g : Cell → Offer → Cell) (os : List Offer) → ((o : Offer) → Memᴰ o os → (c : Cell) → f c o ≡ g c o) → (c : Cell) → foldl f c os ≡ foldl g c os
fold_alike f g [] h c = refl
fold_alike f g (o ∷ os) h c =
    ap (λ (d : Cell). foldl f d os) (h o (Memᴰ.head refl) c) ∙ fold_alike f g os (λ q u. h q (Memᴰ.tail u)) (g c o)

module _ (M : Machine) (ni nz at : ℕ) (does : Cell → Offer → Cell) (P : M.Registers → Type 0) (Q : M.Word → Type 0) (test : M.Registers → M.Word → Bool)
    (keeps : (r : M.Registers) (w : M.Word) → P r → Q w → P (M.next r w))
    (each : (r : M.Registers) (w : M.Word) → P r → M.refusal ni nz r w ≡ 0 → test r w ≡ true → (o : Offer) → Memᴰ o (M.offers (rows_of (M.pen r).frame ni nz) r w)
    → (c : Cell) → offer_leaves (M.pen r) c o ≡ does c o)
    (none : (r : M.Registers) (w : M.Word) → M.refusal ni nz r w ≡ 0 → test r w ≡ true → M.stores (rows_of (M.pen r).frame ni nz) r w ≡ [])
  where
    word_as : (r : M.Registers) (w : M.Word) → P r → cond (eqb (M.refusal ni nz r w) 0) (test r w) true ≡ true → (c : Cell)
        → foldl (offer_leaves (M.pen r)) c (offers_there M ni nz at r w) ≡ foldl does c (offers_there M ni nz at r w)
    word_as r w p t =
        fold_alike (offer_leaves (M.pen r)) does (offers_there M ni nz at r w)
        (λ o u c.
        let v = there_member (M.pen r).frame at (offers_in M ni nz r w) o u in
        zero_or_not (M.refusal ni nz r w)
        (λ e. each r w p e (rw (eq-eqb _ _ e) at t) o (rw (offers_accepted M ni nz r w e) at v) c)
        (λ e. absurd (Memᴰ.not-nil (rw (offers_refused M ni nz r w e) at v))))

    unstored : (r : M.Registers) (w : M.Word) → cond (eqb (M.refusal ni nz r w) 0) (test r w) true ≡ true → stores_in M ni nz r w ≡ []
    unstored r w t =
        zero_or_not (M.refusal ni nz r w) (λ e. stores_accepted M ni nz r w e ∙ none r w e (rw (eq-eqb _ _ e) at t)) (λ e. stores_refused M ni nz r w e)

    by_offers : (r : M.Registers) (w : M.Word) (c : Cell) → cond (eqb (M.refusal ni nz r w) 0) (test r w) true ≡ true
        → cell_by M ni nz at r w c ≡ foldl (offer_leaves (M.pen r)) c (offers_there M ni nz at r w)
    unfolding stores_at
    by_offers r w c t = ap (λ (ss : List Store). foldl (after_store (M.pen r)) (foldl (offer_leaves (M.pen r)) c (offers_there M ni nz at r w)) (stores_at (M.pen r) at ss)) (unstored r w t)

    -- if each accepted word stores nothing besides, and passes a test under which its offers do what `does` says, the offers at a place do it one after the other
    pub cells_as : (ws : List M.Word) (r : M.Registers) (c : Cell) → P r → ((w : M.Word) → Memᴰ w ws → Q w) → each_in M test ni nz r ws ≡ true
        → cell_after M ni nz at r ws c ≡ foldl does c (offers_at M ni nz at r ws)
    unfolding cell_after offers_at each_in
    cells_as [] r c p qs t = refl
    cells_as (w ∷ ws) r c p qs t =
        let q = qs w (Memᴰ.head refl) in
        let k = both (cond (eqb (M.refusal ni nz r w) 0) (test r w) true) (each_in M test ni nz (next_in M ni nz r w) ws) t in
        let next = next_in M ni nz r w in
        cells_as ws next (cell_by M ni nz at r w c) (next_keeps M ni nz r w P (λ e. keeps r w p q) p) (λ v u. qs v (Memᴰ.tail u)) k.1
        ∙ ap (λ (d : Cell). foldl does d (offers_at M ni nz at next ws)) (by_offers r w c k.0 ∙ word_as r w p k.0 c)
        ∙ sym (foldl-append does c (offers_there M ni nz at r w) (offers_at M ni nz at next ws))
