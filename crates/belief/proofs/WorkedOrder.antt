-- The worked run in another order: what is offered is computed; `any_order` tells how the other run ends, and demand 3 how the tied ones do.
-- Assumes nothing.
use mathlib.Core.Path.{◌≡◌, refl, sym, ap, ap₂, ◌∙◌}
use mathlib.Core.Logic.{◌≢◌, ⊎_elim, ∥∥₁_elim}
use mathlib.Core.HLevel.{¬_prop}
use mathlib.Core.Bool.{Bool, true, not, ◌&&◌, false≢true}
use mathlib.Core.List.Memᴰ
use mathlib.Core.List.Perm
use mathlib.Core.List.Pairwise
use mathlib.Core.List.{List, [], ◌∷◌, map, Memᴰ, Perm, rel_of_Pairwise-cons, mem-cons_self}
use Prim.Native.Nat.{ℕ}
use lib.Dec.{eqb}
use lib.ListN.{length}
use borrow.Author.Tests.{eq-eqb}
use Rattle.picture.specs.Offer.{Offer}
use Rattle.picture.specs.Cell.{Cell, cell}
use Rattle.registers.specs.Record.{reset_of}
use Rattle.registers.specs.Word.{word_of}
use Rattle.machine.specs.Machine.{Memories}
use Rattle.machine.specs.Touched.{cell_in}
use Rattle.ground.proofs.Truth.{both}
use Rattle.belief.specs.Belief.{supposed, least, earliest, last_line, unlined, intensity}
use Rattle.belief.specs.Order.{SameThere, numbers_of, offered_at, Apart, Reordered}
use Rattle.belief.specs.Worked.{scene, blank, Owned}
use Rattle.belief.specs.WorkedOrder.{far_first, wide_faces, elsewhere, tied_last, tied_first, farthest_face, farthest_edge, Left, Matched, WorkedOrder}
use Rattle.belief.proofs.Order.{any_order}
use Rattle.belief.proofs.Computed.{Meets, Offers, computed}
use Rattle.belief.proofs.Worked.{ends_with, worked}

-- ---- no two share a depth, computed

-- none of them has a depth
lacks : ℕ → List Cell → Bool
lacks d [] = true
lacks d (o ∷ os) = not (eqb d o.z) && lacks d os

lacks_none : (d : ℕ) (os : List Cell) → lacks d os ≡ true → (o : Cell) → Memᴰ o os → d ≢ o.z
unfolding lacks
lacks_none d [] h o u same = Memᴰ.not-nil u
lacks_none d (p ∷ os) h o u same =
    let k = both (not (eqb d p.z)) (lacks d os) h in
    ⊎_elim (λ e. false≢true (sym (ap not (eq-eqb d p.z (same ∙ ap (λ (q : Cell). q.z) e))) ∙ k.0)) (λ v. lacks_none d os k.1 o v same) (Memᴰ.cases_cons u)

apart_cons : (o : Cell) (os : List Cell) → lacks o.z os ≡ true → Apart os → Apart (o ∷ os)
apart_cons o os h n = Pairwise.cons (λ p u. ∥∥₁_elim u ¬_prop (λ v. lacks_none o.z os h p v)) n

-- ---- what a run leaves

-- the scene, as it was worked
scene_left : (at : ℕ) (os : List Offer) (i z : ℕ) → Owned scene at os i z → Left scene blank at (map numbers_of os) i z
unfolding blank
scene_left at os i z k = record { offers = ap (map numbers_of) k.offers; ends = k.ends }

-- another run over the same memories, by demand 3
run_left : (numbers : List ℕ) (at : ℕ) (os : List Offer) (i z : ℕ) → Meets numbers 512 → Offers numbers 512 at os
    → intensity (least (cell_in blank at).z os) (cell_in blank at) os ≡ i → least (cell_in blank at).z os ≡ z → Left numbers blank at (map numbers_of os) i z
unfolding blank
run_left numbers at os i z meets e shown depth = record { offers = ap (map numbers_of) e; ends = ends_with numbers blank meets at os i z e shown depth }

-- a run whose offers at a place are the scene's up to order, by `any_order`
matched : (others : List ℕ) (n : Memories) (at : ℕ) (os us : List Cell) (i z : ℕ) → supposed reset_of (length n.i) (length n.z) (map word_of others) ≡ true
    → SameThere at blank n → Left scene blank at os i z → offered_at reset_of (map word_of others) n at ≡ us → Perm os us → Apart (cell_in blank at ∷ os)
    → Matched others n at os us i z
unfolding blank
matched others n at os us i z meets start one e same far =
    let r : Reordered reset_of reset_of (map word_of scene) (map word_of others) blank n at =
    record { one = computed.scene_meets; other = meets; start = start; same = rw (one.offers, e) same } in
    let apart : Apart (cell_in blank at ∷ offered_at reset_of (map word_of scene) blank at) = rw one.offers far in
    let a = (any_order 0 0).words scene others blank n at r in
    record {
      reordered = r;
      apart = apart;
      one = one;
      other = record {
        offers = e;
        ends = ap₂ cell (sym (a.shown apart) ∙ ap (λ (c : Cell). c.i) one.ends) (sym a.depth ∙ ap (λ (c : Cell). c.z) one.ends);
      };
    }

-- ---- the worked runs

tied_last_lem : Left tied_last blank 1 (cell 100 20 ∷ cell 200 20 ∷ []) 100 20
unfolding blank least earliest last_line unlined intensity
tied_last_lem = run_left tied_last 1 _ 100 20 computed.tied_last_meets computed.tied_last_1 refl refl

tied_first_lem : Left tied_first blank 1 (cell 200 20 ∷ cell 100 20 ∷ []) 200 20
unfolding blank least earliest last_line unlined intensity
tied_first_lem = run_left tied_first 1 _ 200 20 computed.tied_first_meets computed.tied_first_1 refl refl

farthest_face_lem : Left farthest_face blank 6 (cell 500 65535 ∷ []) 0 65535
unfolding blank least earliest last_line unlined intensity
farthest_face_lem = run_left farthest_face 6 _ 0 65535 computed.farthest_face_meets computed.farthest_face_6 refl refl

farthest_edge_lem : Left farthest_edge blank 6 (cell 500 65535 ∷ []) 500 65535
unfolding blank least earliest last_line unlined intensity
farthest_edge_lem = run_left farthest_edge 6 _ 500 65535 computed.farthest_edge_meets computed.farthest_edge_6 refl refl

-- the start and two offers, and the start and three
three_apart : (a b c : Cell) → lacks a.z (b ∷ c ∷ []) ≡ true → lacks b.z (c ∷ []) ≡ true → Apart (a ∷ b ∷ c ∷ [])
unfolding lacks
three_apart a b c h k = apart_cons a _ h (apart_cons b _ k (apart_cons c [] refl Pairwise.nil))

four_apart : (a b c d : Cell) → lacks a.z (b ∷ c ∷ d ∷ []) ≡ true → lacks b.z (c ∷ d ∷ []) ≡ true → lacks c.z (d ∷ []) ≡ true → Apart (a ∷ b ∷ c ∷ d ∷ [])
four_apart a b c d h k l = apart_cons a _ h (three_apart b c d k l)

-- the scene in another order, and the runs that share a depth, end as `WorkedOrder` says
pub worked_order : WorkedOrder
unfolding blank elsewhere lacks
worked_order =
    record {
      face = matched far_first blank 1 _ _ 200 10 computed.far_first_meets refl (scene_left 1 _ 200 10 worked.near_face_lem) (ap (map numbers_of) computed.far_first_1)
          (Perm.swap _ _ _) (three_apart _ _ _ refl refl);
      line = matched far_first blank 2 _ _ 300 5 computed.far_first_meets refl (scene_left 2 _ 300 5 worked.line) (ap (map numbers_of) computed.far_first_2)
          (Perm.swap _ _ _) (four_apart _ _ _ _ refl refl refl);
      after_init = matched far_first blank 256 _ _ 400 15 computed.far_first_meets refl (scene_left 256 _ 400 15 worked.after_init)
          (ap (map numbers_of) computed.far_first_256) (Perm.refl _) (three_apart _ _ _ refl refl);
      wide = matched wide_faces elsewhere 1 _ _ 200 10 computed.wide_meets refl (scene_left 1 _ 200 10 worked.near_face_lem) (ap (map numbers_of) computed.wide_1)
          (Perm.swap _ _ _) (three_apart _ _ _ refl refl);
      tied = record {
        one = computed.tied_last_meets;
        other = computed.tied_first_meets;
        start = refl;
        same = rw (tied_last_lem.offers, tied_first_lem.offers) (Perm.swap _ _ _);
      };
      shared = λ apart. rel_of_Pairwise-cons {R = λ (o : Cell) (p : Cell). o.z ≢ p.z} (rw tied_last_lem.offers at apart) mem-cons_self refl;
      tied_last_lem = tied_last_lem;
      tied_first_lem = tied_first_lem;
      farthest = record {
        one = computed.farthest_face_meets;
        other = computed.farthest_edge_meets;
        start = refl;
        same = rw (farthest_face_lem.offers, farthest_edge_lem.offers) (Perm.refl _);
      };
      alone = rw farthest_face_lem.offers (apart_cons _ [] refl Pairwise.nil);
      farthest_face_lem = farthest_face_lem;
      farthest_edge_lem = farthest_edge_lem;
    }
